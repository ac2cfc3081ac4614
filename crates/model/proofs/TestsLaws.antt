-- Booleans, options and tests of numbers taken apart.
use Prim.Native.Nat.{ℕ, zero, suc, ◌≤◌, ◌<◌}
use native.Mathlib.Omega.{arith}
use mathlib.Core.Path.{◌≡◌, refl}
use mathlib.Core.Bool.{Bool, true, false, ◌&&◌, ◌||◌, cond, xor, false≢true, true≢false}
use mathlib.Core.Logic.{◌⊎◌, inl, inr}
use Rattle.std.specs.Prelude.{Some, None}
use Rattle.model.proofs.OptionLaws.{some-ne-none}
use lib.Dec.{eqb, ltb}
use borrow.Author.Tests.{eqb-false, ltb-true, ltb-false}

pub false-true : {A : Type 0} → false ≡ true → A
false-true e = absurd (false≢true e)

pub both_true : (a b : Bool) → (a && b) ≡ true → (a ≡ true) × (b ≡ true)
both_true true b e = (refl, e)
both_true false b e = absurd (false≢true e)

pub and-join : {a b : Bool} → a ≡ true → b ≡ true → (a && b) ≡ true
and-join h k = rw (h, k)

pub both_false : (a b : Bool) → (a || b) ≡ false → (a ≡ false) × (b ≡ false)
both_false true b e = absurd (true≢false e)
both_false false b e = (refl, e)

pub xor-false : (a b : Bool) → xor a b ≡ false → a ≡ b
unfolding xor
xor-false true true e = refl
xor-false true false e = absurd (true≢false e)
xor-false false true e = absurd (true≢false e)
xor-false false false e = refl

pub cond-none : {A : Type 0} (t : Bool) (a : A) → cond t None (Some a) ≡ None → t ≡ true
cond-none true a e = refl
cond-none false a e = absurd (some-ne-none a e)

pub positive : (k : ℕ) → eqb k 0 ≡ false → 1 ≤ k
positive zero z = absurd (eqb-false 0 0 z refl)
positive (suc k) z = omega arith

pub lt-or-le : (a b : ℕ) → (a < b) ⊎ (b ≤ a)
lt-or-le a b = at (ltb a b) refl
  where
    at : (t : Bool) → ltb a b ≡ t → (a < b) ⊎ (b ≤ a)
    at true e = inl (ltb-true a b e)
    at false e = inr (ltb-false a b e)

-- the one and the other at most n
pub cond-le : (b : Bool) (x y n : ℕ) → x ≤ n → y ≤ n → cond b x y ≤ n
cond-le true x y n h k = h
cond-le false x y n h k = k
