-- Invariant: no start lies before p, and `by` is a word of the phrase. Measure: the rows left. From the end of the range on, too few tokens are left.
use Rattle.std.proofs.Common.{◌-◌, ◌<◌}
use Rattle.phrase.specs.Starts.{Skipped}
use Rattle.phrase.proofs.rows.start_from.Given as goal

abbrev pub invariant-loop-p : goal.invariant-loop-p
invariant-loop-p g l = (l.by < l.k) × Skipped (g.R.Rows.searched l.rows) (g.R.Rows.words l.rows) l.from l.to l.p

abbrev pub decreases-loop-p : goal.decreases-loop-p
decreases-loop-p g l = l.to - l.p
