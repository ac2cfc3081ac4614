-- Invariant: where nothing is found, none of the kin passed stands in the block.
use Rattle.std.proofs.Common.{◌≡◌, ℕ, ◌<◌, false, get_or}
use Rattle.slices.specs.Blocks.{Lacks, block_size}
use Rattle.phrase.proofs.fitting.has_kin.Given as goal

abbrev pub invariant-loop-number : goal.invariant-loop-number
invariant-loop-number l = l.found ≡ false → (k : ℕ) → k < l.number-index → Lacks l.section l.at (get_or l.kin k 0) block_size
