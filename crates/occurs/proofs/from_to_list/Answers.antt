-- Where two finds or more are too many and there are others, the list is too long; else it is the one for the excess, which is two only of two finds
-- (OutcomeLaws).
use Rattle.occurs.proofs.OutcomeLaws.{excess_at, from_to_made, from_to-refused}
use Rattle.occurs.proofs.from_to_list.Goals as goal

pub returns-in_err-excess : goal.returns-in_err-excess
returns-in_err-excess c w = from_to-refused w c.size_at-m.ensures.matches _ _ c.requires.a_le_b c.in_err-excess.ensures c.from_residual.ensures.0

pub at_least_with_not-requires-clause-excess_at : goal.at_least_with_not-requires-clause-excess_at
at_least_with_not-requires-clause-excess_at c = excess_at c.requires.finds_at c.size_at-m.ensures.matches _ _ c.in_ok-excess.ensures

pub returns : goal.returns
returns c w = from_to_made w c.size_at-m.ensures.matches _ _ c.in_ok-excess.ensures _ c.at_least_with_not.ensures
