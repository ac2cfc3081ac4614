-- Blocks of numbers of a lent slice, what stands nowhere in them, and the blocks that are passed.
use Rattle.std.specs.Prelude.{ℕ, ◌+◌, ◌*◌, ◌<◌, ◌≤◌, List, ◌≡◌, get_or}

-- the numbers of a block; src/blocks.rt has the same number for the code
abbrev pub block_size : ℕ
block_size = 16

-- the number is none of the n from an index on
abbrev pub Lacks : List ℕ → ℕ → ℕ → ℕ → Type 0
Lacks lent at number n = (i : ℕ) → i < n → get_or lent (at + i) 0 ≡ number → ⊥

-- p comes after some blocks, the first at `from` and each without what is looked for, and isn't after `to`
pub record BlocksPassed (Lacking : ℕ → Type 0) (from to p : ℕ) : Type 0 where
  pub blocks : ℕ
  pub p_is : p ≡ from + block_size * blocks
  pub up_to : p ≤ to
  pub each : (k : ℕ) → k < blocks → Lacking (from + block_size * k)
