-- Invariant: the finds before `from`, so many, are written after the place of the header, up to q, and the starts left are those from there on. Measure: the
-- positions left. At most 256 finds of three numbers fit.
use Rattle.std.proofs.Common.{◌≡◌, ◌+◌, ◌-◌, ◌≤◌, length}
use Rattle.model.specs.Limits.{max_matches}
use Rattle.phrase.proofs.FindsLaws.{Finding}
use Rattle.phrase.proofs.list_of.Given as goal

abbrev pub invariant-loop-p : goal.invariant-loop-p
invariant-loop-p g l =
    (l.matches ≤ max_matches) × (length l.mem ≡ length l.initial.mem)
    × Finding (g.R.Rows.searched l.rows) (g.R.Rows.words l.rows) l.rank l.initial.mem l.mem l.at l.q l.from l.matches

abbrev pub decreases-loop-p : goal.decreases-loop-p
decreases-loop-p g l = (g.R.Rows.searched l.rows).section.tokens + 1 - l.from
