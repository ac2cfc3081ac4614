-- Invariant: where nothing is found, the test said no at each offset passed.
use Rattle.std.proofs.Common.{ℕ, false, ◌≡◌, ◌<◌}
use Rattle.slices.proofs.blocks.block_has.Given as goal

abbrev pub invariant-loop-i : goal.invariant-loop-i
invariant-loop-i g l = l.found ≡ false → (k : ℕ) → k < l.i → goal.F-post g l.test k false
