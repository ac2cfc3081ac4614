-- Blocks passed one after another: one more, and what holds at the start and is kept by each holds at the end.
use Rattle.std.proofs.Common.{◌≡◌, ℕ, zero, suc, ◌+◌, ◌*◌, ◌<◌, ◌≤◌, ⊎_elim, sym, subst, arith}
use Rattle.slices.specs.Blocks.{BlocksPassed, block_size}
use native.Mathlib.Nat.{eq-or-lt_of_le}

module _ {Lacking : ℕ → Type 0} {from to : ℕ} where
  pub passed_more : {p : ℕ} → BlocksPassed Lacking from to p → p + block_size ≤ to → Lacking p → BlocksPassed Lacking from to (p + block_size)
  passed_more {p} g h lacking = record { blocks = g.blocks + 1; p_is = omega (arith, g.p_is); up_to = omega (arith, g.up_to); each = each }
    where
      each : (k : ℕ) → k < g.blocks + 1 → Lacking (from + block_size * k)
      each k l =
          let le : k ≤ g.blocks = omega arith in
          ⊎_elim (λ e. let at : p ≡ from + block_size * k = omega (arith, g.p_is, e) in subst Lacking at lacking) (λ b. g.each k b) (eq-or-lt_of_le le)

  -- by induction over the blocks
  module _ (Passed : ℕ → Type 0) (start : Passed from) (step : (p : ℕ) → from ≤ p → p + block_size ≤ to → Lacking p → Passed p → Passed (p + block_size)) where
    along : (k n : ℕ) → from + block_size * n ≤ to → k ≤ n → ((j : ℕ) → j < n → Lacking (from + block_size * j)) → Passed (from + block_size * k)
    along zero n h l each = let e : from ≡ from + block_size * 0 = omega arith in subst Passed e start
    along (suc k) n h l each =
        let e : from + block_size * k + block_size ≡ from + block_size * suc k = omega arith in
        subst Passed e (step (from + block_size * k) (omega arith) (omega arith) (each k (omega arith)) (along k n h (omega arith) each))

    pub passed_all : {p : ℕ} → BlocksPassed Lacking from to p → Passed p
    passed_all {p} g = subst Passed (sym g.p_is) (along g.blocks g.blocks (omega (arith, g.p_is, g.up_to)) (omega arith) g.each)
