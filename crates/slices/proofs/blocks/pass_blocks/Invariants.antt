-- Invariant: the blocks before p are passed. Measure: the numbers left.
use Rattle.std.proofs.Common.{false, ◌-◌}
use Rattle.slices.specs.Blocks.{BlocksPassed}
use Rattle.slices.proofs.blocks.pass_blocks.Given as goal

abbrev pub invariant-loop-p : goal.invariant-loop-p
invariant-loop-p g l = BlocksPassed (λ p. goal.F-post g l.test p false) l.from l.to l.p

abbrev pub decreases-loop-p : goal.decreases-loop-p
decreases-loop-p g l = l.to - l.p
