-- Invariant: no match passed that lies at `stop` or after it overlaps both ranges. Measure: the numbers left.
use Prim.Native.Nat.{◌-◌}
use Rattle.store.specs.Stream.{RemainingAt}
use Rattle.candidates.specs.Overlapping.{overlap_both}
use Rattle.candidates.proofs.PassingLaws.{Ending}
use Rattle.candidates.proofs.overlapping.end_of_overlapping.Given as goal

abbrev pub invariant-loop-at : goal.invariant-loop-at
invariant-loop-at l = (w : RemainingAt l.mem l.from l.end) → Ending (overlap_both l.ranges) w.list l.mem l.stop l.at l.end

abbrev pub decreases-loop-at : goal.decreases-loop-at
decreases-loop-at l = l.end - l.at
