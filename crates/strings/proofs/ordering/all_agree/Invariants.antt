-- Invariant: the pairs of what is left agree just where all pairs do. Measure: the strings left.
use Rattle.std.proofs.Common.{◌≡◌, length}
use Rattle.model.specs.Lists.{all_pairs}
use Rattle.model.specs.Rules.{agree}
use Rattle.strings.specs.Strings.{strs_at}
use Rattle.strings.proofs.ordering.all_agree.Given as goal

abbrev pub invariant-loop-s : goal.invariant-loop-s
invariant-loop-s l = all_pairs agree l.rest ≡ all_pairs agree (strs_at l.strs)

abbrev pub decreases-loop-s : goal.decreases-loop-s
decreases-loop-s l = length l.rest
