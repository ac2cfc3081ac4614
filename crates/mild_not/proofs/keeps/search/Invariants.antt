-- Invariant: against the matches from `at` on the match of L decides as against all, and its includes cover the last position found. Measure: the numbers left.
use Rattle.std.proofs.Common.{◌-◌}
use Rattle.mild_not.specs.Keeps.{SearchAt}
use Rattle.mild_not.proofs.KeepsLaws.{Against}
use Rattle.mild_not.proofs.keeps.search.Given as goal

abbrev pub invariant-loop-at : goal.invariant-loop-at
invariant-loop-at l = (w : SearchAt l.mem l.fn.left l.fn.edges l.part.from l.part.end) → Against w.item w.rights l.mem l.at l.part.end l.last.0

abbrev pub decreases-loop-at : goal.decreases-loop-at
decreases-loop-at l = l.part.end - l.at
