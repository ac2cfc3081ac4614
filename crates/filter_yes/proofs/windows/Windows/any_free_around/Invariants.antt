-- Invariant: the windows from the one in hand on are all taken just where all are. Measure: the windows left, as a pass that goes on moves it up. A pass
-- moves it over taken windows only, and leaves it where it is free (CoveringLaws of `strings`).
use Rattle.std.proofs.Common.{◌-◌, ◌≡◌}
use Rattle.model.specs.Lists.{all_of, from_to}
use Rattle.model.specs.Rules.{covered}
use Rattle.strings.specs.Strings.{strs_at}
use Rattle.filter_yes.specs.Windows.{taken}
use Rattle.filter_yes.proofs.windows.Windows.any_free_around.Given as goal

abbrev pub invariant-loop-self : goal.invariant-loop-self
invariant-loop-self l =
    all_of (covered (taken l.self.n (strs_at l.excludes))) (from_to l.initial.last.0 (l.before.0 - 1)) ≡ all_of (covered (taken l.self.n (strs_at l.excludes))) (from_to l.last.0 (l.before.0 - 1))

abbrev pub decreases-loop-self : goal.decreases-loop-self
decreases-loop-self l = l.before.0 - l.last.0
