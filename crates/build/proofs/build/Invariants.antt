-- Invariant: the lists of the trees that wait after the codes read lie in memory, and none built so far is too long.
use Rattle.build.proofs.BuildLaws.{Going}
use Rattle.build.specs.State.{Buildable}
use mathlib.Core.Path.{◌≡◌}
use Prim.Native.Nat.{◌≤◌}
use lib.ListN.{length}
use Rattle.build.proofs.build.Given as goal

abbrev pub invariant-loop-before : goal.invariant-loop-before
invariant-loop-before l =
    (l.before ≤ l.hi)
    × (length l.mem ≡ length l.initial.mem)
    × ((w : Buildable l.inputs.section.now l.inputs.families.now l.inputs.selection.now l.initial.mem l.lo l.hi l.rank) → Going w l.mem l.lists l.next l.before)
