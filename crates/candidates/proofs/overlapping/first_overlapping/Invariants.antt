-- Invariant: what is left from `at` on tells which match is the first that overlaps both ranges. Measure: the numbers left.
use Prim.Native.Nat.{◌-◌}
use Rattle.store.specs.Stream.{RemainingAt, SearchInvariant}
use Rattle.candidates.specs.Overlapping.{overlap_both}
use Rattle.candidates.specs.Passing.{from_first}
use Rattle.candidates.proofs.overlapping.first_overlapping.Given as goal

abbrev pub invariant-loop-at : goal.invariant-loop-at
invariant-loop-at l =
    (w : RemainingAt l.mem l.from l.end) → SearchInvariant (from_first (overlap_both l.ranges) w.list) (from_first (overlap_both l.ranges)) l.mem l.at l.end

abbrev pub decreases-loop-at : goal.decreases-loop-at
decreases-loop-at l = l.end - l.at
