-- What holds of every element of a list holds of every element of the lists that the functions on lists make of it.
use Prim.Native.Nat.{ℕ, zero, suc, ◌+◌, ◌-◌, ◌≤◌, ◌<◌}
use native.Mathlib.Omega.{arith}
use mathlib.Core.Path.{◌≡◌, refl}
use mathlib.Core.Bool.{Bool, true, false, cond}
use mathlib.Core.List.{List, [], ◌∷◌, ◌++◌, map, flat_map}
use Rattle.std.specs.Prelude.{None}
use lib.ListN.{length, get_or}
use Rattle.model.specs.Lists.{Every, keep, first, choose, up_from, from_to}
use Rattle.model.proofs.ListsLaws.{first-none}

pub every_weaker : {A : Type 0} (P Q : A → Type 0) → ((x : A) → P x → Q x) → (xs : List A) → Every P xs → Every Q xs
unfolding Every
every_weaker P Q h [] a = tt
every_weaker P Q h (x ∷ xs) a = (h x a.0, every_weaker P Q h xs a.1)

module _ {A : Type 0} (P : A → Type 0) where
  pub every_append : (xs ys : List A) → Every P xs → Every P ys → Every P (xs ++ ys)
  unfolding Every
  every_append [] ys a b = b
  every_append (x ∷ xs) ys a b = (a.0, every_append xs ys a.1 b)

  pub every_map : {B : Type 0} (Q : B → Type 0) (f : B → A) → ((x : B) → Q x → P (f x)) → (xs : List B) → Every Q xs → Every P (map f xs)
  unfolding Every
  every_map Q f h [] a = tt
  every_map Q f h (x ∷ xs) a = (h x a.0, every_map Q f h xs a.1)

  -- P holds of all that f gives
  pub every_value : {B : Type 0} (f : B → A) → ((x : B) → P (f x)) → (xs : List B) → Every P (map f xs)
  unfolding Every
  every_value f h [] = tt
  every_value f h (x ∷ xs) = (h x, every_value f h xs)

  pub every-flat_map : {B : Type 0} (Q : B → Type 0) (f : B → List A) → ((x : B) → Q x → Every P (f x)) → (xs : List B) → Every Q xs → Every P (flat_map f xs)
  unfolding Every flat_map
  every-flat_map Q f h [] a = tt
  every-flat_map Q f h (x ∷ xs) a = every_append (f x) (flat_map f xs) (h x a.0) (every-flat_map Q f h xs a.1)

  -- what is kept has passed
  pub every-kept : (p : A → Bool) (xs : List A) → Every P xs → Every (λ x. P x × (p x ≡ true)) (keep p xs)
  unfolding Every keep
  every-kept p [] a = tt
  every-kept p (x ∷ xs) a = at (p x) refl (every-kept p xs a.1)
    where
      at : (b : Bool) → p x ≡ b → Every (λ x. P x × (p x ≡ true)) (keep p xs) → Every (λ x. P x × (p x ≡ true)) (cond b (x ∷ keep p xs) (keep p xs))
      at true e h = ((a.0, e), h)
      at false e h = h

  pub every-keep : (p : A → Bool) (xs : List A) → Every P xs → Every P (keep p xs)
  every-keep p xs a = every_weaker _ P (λ x h. h.0) (keep p xs) (every-kept p xs a)

  pub every_get_d : (xs : List A) (d : A) (i : ℕ) → i < length xs → Every P xs → P (get_or xs i d)
  unfolding Every
  every_get_d [] d i h a = absurd (omega arith)
  every_get_d (x ∷ xs) d zero h a = a.0
  every_get_d (x ∷ xs) d (suc i) h a = every_get_d xs d i (omega arith) a.1

-- where a search finds nothing, no element passes
pub every-none : {A : Type 0} (p : A → Bool) (xs : List A) → first p xs ≡ None → Every (λ x. p x ≡ false) xs
unfolding Every
every-none p [] e = tt
every-none p (x ∷ xs) e = let at = first-none p x xs e in (at.0, every-none p xs at.1)

pub every-up_from : (a n : ℕ) → Every (λ p. (a ≤ p) × (p < a + n)) (up_from a n)
unfolding Every up_from
every-up_from a zero = tt
every-up_from a (suc n) = (omega arith, every_weaker _ _ (λ p h. omega arith) (up_from (a + 1) n) (every-up_from (a + 1) n))

pub every-range : (a b : ℕ) → Every (λ p. (a ≤ p) × (p ≤ b)) (from_to a b)
unfolding from_to
every-range a b = every_weaker _ _ (λ p h. omega arith) (up_from a (b + 1 - a)) (every-up_from a (b + 1 - a))

-- what holds of all elements holds of those chosen
pub every-choose : {A : Type 0} (P : A → Type 0) (k : ℕ) (xs : List A) → Every P xs → Every (Every P) (choose k xs)
unfolding Every choose
every-choose P zero xs a = (tt, tt)
every-choose P (suc k) [] a = tt
every-choose P (suc k) (x ∷ xs) a =
    every_append (Every P) (map (λ ys. x ∷ ys) (choose k xs)) (choose (suc k) xs)
    (every_map (Every P) (Every P) (λ ys. x ∷ ys) (λ ys b. (a.0, b)) (choose k xs) (every-choose P k xs a.1))
    (every-choose P (suc k) xs a.1)
