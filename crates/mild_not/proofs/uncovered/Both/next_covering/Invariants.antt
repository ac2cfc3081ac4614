-- Invariant: from `at` on the list goes on from its first match that covers both as the whole does. Measure: the numbers left. Those of the same header after
-- the match in hand are skipped together.
use Rattle.std.proofs.Common.{◌-◌, ◌≤◌}
use Rattle.store.specs.Stream.{RemainingAt, SearchInvariant}
use Rattle.candidates.specs.Passing.{from_first}
use Rattle.mild_not.specs.Uncovered.{cover_both}
use Rattle.mild_not.proofs.uncovered.Both.next_covering.Given as goal

abbrev pub invariant-loop-at : goal.invariant-loop-at
invariant-loop-at l =
    (l.from ≤ l.at)
    × ((w : RemainingAt l.mem l.from l.end) → SearchInvariant (from_first (cover_both l.self.p.0 l.self.q.0) w.list) (from_first (cover_both l.self.p.0 l.self.q.0)) l.mem l.at l.end)

abbrev pub decreases-loop-at : goal.decreases-loop-at
decreases-loop-at l = l.end - l.at
