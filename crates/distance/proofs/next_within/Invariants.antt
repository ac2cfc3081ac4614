-- Invariant: the copies and the least above so far, gathered with the strings left, give those of all. In what order strings are gathered doesn't matter
-- (SortingLaws), so the loop may take the first string first.
use Rattle.std.proofs.Common.{◌≡◌, ◌+◌, ◌≤◌, length}
use Rattle.distance.specs.Sorting.{counted, nearer}
use Rattle.strings.specs.Strings.{strs_at}
use Rattle.distance.proofs.SortingLaws.{gathered}
use Rattle.distance.proofs.next_within.Given as goal

abbrev pub invariant-loop-s : goal.invariant-loop-s
invariant-loop-s l =
    (goal.iterator-loop-s).can_next l.s-iterator × (goal.iterator-loop-s).is_finite l.s-iterator
    × (l.copies + length l.s-iterator ≤ length (strs_at l.strs))
    × (gathered (counted l.span) l.copies l.s-iterator ≡ gathered (counted l.span) 0 (strs_at l.strs))
    × (gathered (nearer l.span) l.above l.s-iterator ≡ gathered (nearer l.span) l.span (strs_at l.strs))
