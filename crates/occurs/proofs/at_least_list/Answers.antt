-- At least a is the list with no find too many (OutcomeLaws).
use Rattle.occurs.proofs.OutcomeLaws.{none-at, at_least_made}
use Rattle.occurs.proofs.at_least_list.Goals as goal

pub at_least_with_not-requires : goal.at_least_with_not-requires
at_least_with_not-requires c = record { excess_at = none-at c.requires.finds_at; slot_below = c.requires.slot_below }

pub returns : goal.returns
returns c w = at_least_made w _ c.at_least_with_not.ensures
