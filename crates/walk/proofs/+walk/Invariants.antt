-- Invariant: the walk of the part that ends at hi is that of the part in hand, passed up. By recursion on hi, and with the place in hand as the loop's
-- measure: the code there says which tree ends there, and its sides are parts that end earlier.
use mathlib.Core.Path.{◌≡◌}
use lib.ListN.{length}
use Rattle.walk.specs.Walkable.{Walkable}
use Rattle.walk.proofs.WalkLaws.{Going}
use Rattle.walk.proofs.+walk.Given as goal

abbrev pub decreases-walk : goal.decreases-walk
decreases-walk l = l.hi

abbrev pub invariant-loop-turned : goal.invariant-loop-turned
invariant-loop-turned l =
    (length l.work ≡ length l.initial.work)
    × ((w : Walkable l.inputs.section.now l.inputs.families.now l.inputs.selection.now l.initial.work l.hi) → Going l.inputs.section.now l.inputs.families.now l.inputs.selection.now l.hi w.part.tree l.work l.place l.turned l.codes)

abbrev pub decreases-loop-turned : goal.decreases-loop-turned
decreases-loop-turned l = l.place
