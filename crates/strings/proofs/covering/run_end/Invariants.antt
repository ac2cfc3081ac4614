-- Invariant: the run from p on is covered just where the whole run is, and p isn't before it. Measure: the positions left, as a pass that goes on moves p up. A pass moves p over
-- covered positions only, and leaves it where no string covers it (CoveringLaws).
use Prim.Native.Nat.{◌-◌, ◌+◌, ◌≤◌}
use mathlib.Core.Path.{◌≡◌}
use Rattle.model.specs.Lists.{all_of, from_to}
use Rattle.model.specs.Rules.{covered}
use Rattle.strings.specs.Covering.{chosen}
use Rattle.strings.specs.Strings.{strs_at}
use Rattle.strings.proofs.covering.run_end.Given as goal

abbrev pub invariant-loop-which : goal.invariant-loop-which
invariant-loop-which l =
    (l.initial.p.0 ≤ l.p.0) × (all_of (covered (chosen l.which (strs_at l.strs))) (from_to l.initial.p.0 l.run.hi.0) ≡ all_of (covered (chosen l.which (strs_at l.strs))) (from_to l.p.0 l.run.hi.0))

abbrev pub decreases-loop-which : goal.decreases-loop-which
decreases-loop-which l = l.run.hi.0 + 1 - l.p.0
