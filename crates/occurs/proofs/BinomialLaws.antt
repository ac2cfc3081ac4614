-- Laws of binomial, choose and chosen: the number of choices of one size comes from that of the next by a product and a quotient; there are so many
-- choices; and choice number c stands at c among them.
use Prim.Native.Nat.{ℕ, zero, suc, ◌+◌, ◌-◌, ◌*◌, ◌/◌, ◌≤◌, ◌<◌}
use native.Mathlib.Omega.{arith}
use native.Mathlib.Nat.{suc-mul, mul-zero, mul-add, add-mul, mul_comm, div-eq_of_eq-mul_right}
use mathlib.Core.Path.{◌≡◌, refl, sym, ap, ap₂, ◌∙◌}
use mathlib.Core.Bool.{Bool, true, false, cond}
use mathlib.Core.List.{List, [], ◌∷◌, ◌++◌, map, map-append, map-map}
use borrow.Author.Tests.{ltb-true, ltb-false, lt-ltb, le-ltb}
use lib.Dec.{ltb}
use lib.ListN.{length, get_or, length-append, length-map, get_or-append}
use lib.Seq.{get_or-append-add}
use Rattle.model.specs.Lists.{Every, choose}
use Rattle.model.proofs.EveryLaws.{every_append, every_map, every_get_d}
use Rattle.model.proofs.RulesLaws.{length_none, get_d_map}
use Rattle.occurs.specs.Binomial.{binomial, chosen}

-- ---- binomial

pub binomial-none : (n k : ℕ) → n < k → binomial n k ≡ 0
unfolding binomial
binomial-none n zero h = absurd (omega arith)
binomial-none zero (suc k) h = refl
binomial-none (suc n) (suc k) h = omega (arith, binomial-none n k (omega arith), binomial-none n (suc k) (omega arith))

pub binomial-some : (n k : ℕ) → k ≤ n → 1 ≤ binomial n k
unfolding binomial
binomial-some n zero h = omega arith
binomial-some zero (suc k) h = absurd (omega arith)
binomial-some (suc n) (suc k) h = omega (arith, binomial-some n k (omega arith))

pub binomial_all : (n : ℕ) → binomial n n ≡ 1
unfolding binomial
binomial_all zero = refl
binomial_all (suc n) = omega (arith, binomial_all n, binomial-none n (suc n) (omega arith))

pub binomial_almost : (n : ℕ) → binomial (suc n) n ≡ suc n
unfolding binomial
binomial_almost zero = refl
binomial_almost (suc n) = omega (arith, binomial_almost n, binomial_all (suc n))

-- a choice of k + 1 from n + 1 elements comes once from each of its elements and a choice of k from the others
absorb : (n k : ℕ) → suc n * binomial n k ≡ suc k * binomial (suc n) (suc k)
unfolding binomial
absorb zero zero = refl
absorb zero (suc k) = omega (arith, mul-zero (suc (suc k)))
absorb (suc n) zero = omega (arith, absorb n zero)
absorb (suc n) (suc k) =
    omega (
      arith,
      absorb n k,
      absorb n (suc k),
      mul-add (suc n) (binomial n k) (binomial n (suc k)),
      suc-mul (suc n) (binomial n k + binomial n (suc k)),
      suc-mul (suc k) (binomial n k + binomial n (suc k)),
      mul-add (suc (suc k)) (binomial n k + binomial n (suc k)) (binomial n (suc k) + binomial n (suc (suc k))),
    )

-- from one size to the next
next-size : (n k : ℕ) → k ≤ n → suc k * binomial n (suc k) ≡ (n - k) * binomial n k
unfolding binomial
next-size n k h =
    let split : suc n * binomial n k ≡ (n - k) * binomial n k + suc k * binomial n k =
    ap (λ x. x * binomial n k) (omega arith) ∙ add-mul (n - k) (suc k) (binomial n k) in
    omega (arith, absorb n k, mul-add (suc k) (binomial n k) (binomial n (suc k)))

-- as the code computes them: the choices with the first element ..
pub with_first_lem : (n k : ℕ) → binomial (suc n) (suc k) * suc k / suc n ≡ binomial n k
with_first_lem n k = div-eq_of_eq-mul_right (omega arith) (mul_comm (binomial (suc n) (suc k)) (suc k) ∙ sym (absorb n k))

-- .. the choices of one element more ..
pub size_up : (n k : ℕ) → k ≤ n → binomial n k * (n - k) / (k + 1) ≡ binomial n (k + 1)
size_up n k h =
    let e : k + 1 ≡ suc k = omega arith in
    rw e (div-eq_of_eq-mul_right (omega arith) (mul_comm (binomial n k) (n - k) ∙ sym (next-size n k h)))

-- .. and of one less
pub size_down : (n k : ℕ) → k < n → binomial n (suc k) * suc k / (n - k) ≡ binomial n k
size_down n k h = div-eq_of_eq-mul_right (omega arith) (mul_comm (binomial n (suc k)) (suc k) ∙ next-size n k (omega arith))

-- ---- choose

-- the choices that have the first element, x
abbrev with_first : {A : Type 0} → A → ℕ → List A → List (List A)
with_first x k xs = map (λ ys. x ∷ ys) (choose k xs)

module _ {A : Type 0} where
  pub length-choose : (k : ℕ) (xs : List A) → length (choose k xs) ≡ binomial (length xs) k
  unfolding choose binomial
  length-choose zero xs = refl
  length-choose (suc k) [] = refl
  length-choose (suc k) (x ∷ xs) =
      omega (
        arith,
        length-append (with_first x k xs) (choose (suc k) xs),
        length-map (choose k xs) (λ ys. x ∷ ys),
        length-choose k xs,
        length-choose (suc k) xs,
      )

  pub lengths_choose : (k : ℕ) (xs : List A) → Every (λ ys. length ys ≡ k) (choose k xs)
  unfolding choose Every
  lengths_choose zero xs = (refl, tt)
  lengths_choose (suc k) [] = tt
  lengths_choose (suc k) (x ∷ xs) =
      every_append _ (with_first x k xs) (choose (suc k) xs)
      (every_map _ (λ ys. length ys ≡ k) (λ ys. x ∷ ys) (λ ys h. ap suc h) (choose k xs) (lengths_choose k xs))
      (lengths_choose (suc k) xs)

  -- of more elements than there are, no choice; and of all of them, one
  choose-none : (k : ℕ) (xs : List A) → length xs < k → choose k xs ≡ []
  choose-none k xs h = length_none (choose k xs) (length-choose k xs ∙ binomial-none (length xs) k h)

  pub choose_all : (xs : List A) → choose (length xs) xs ≡ xs ∷ []
  unfolding choose
  choose_all [] = refl
  choose_all (x ∷ xs) = ap₂ (λ ys zs. map (λ y. x ∷ y) ys ++ zs) (choose_all xs) (choose-none (suc (length xs)) xs (omega arith))

pub choose-map : {A B : Type 0} (f : A → B) (k : ℕ) (xs : List A) → choose k (map f xs) ≡ map (map f) (choose k xs)
unfolding choose
choose-map f zero xs = refl
choose-map f (suc k) [] = refl
choose-map f (suc k) (x ∷ xs) =
    let front = map-map (λ ys. f x ∷ ys) (map f) (choose k xs) ∙ sym (map-map (map f) (λ ys. x ∷ ys) (choose k xs)) in
    ap₂ ◌++◌ (ap (map (λ ys. f x ∷ ys)) (choose-map f k xs) ∙ front) (choose-map f (suc k) xs)
    ∙ sym (map-append (map f) (with_first x k xs) (choose (suc k) xs))

-- ---- chosen

module _ {A : Type 0} where
  -- the first element is in the choices of the lower numbers ..
  module _ (k : ℕ) (x : A) (xs : List A) (c : ℕ) where
    pub chosen_with : c < binomial (length xs) k → chosen (suc k) (x ∷ xs) c ≡ x ∷ chosen k xs c
    unfolding chosen
    chosen_with h = rw (lt-ltb c (binomial (length xs) k) h)

    -- .. and in no other
    pub chosen_without : binomial (length xs) k ≤ c → chosen (suc k) (x ∷ xs) c ≡ chosen (suc k) xs (c - binomial (length xs) k)
    unfolding chosen
    chosen_without h = rw (le-ltb c (binomial (length xs) k) h)

  length_with_first : (x : A) (k : ℕ) (xs : List A) → length (with_first x k xs) ≡ binomial (length xs) k
  length_with_first x k xs = length-map (choose k xs) (λ ys. x ∷ ys) ∙ length-choose k xs

  pub choose-at : (k : ℕ) (xs : List A) (c : ℕ) → c < binomial (length xs) k → get_or (choose k xs) c [] ≡ chosen k xs c
  unfolding choose chosen binomial
  choose-at zero xs zero h = refl
  choose-at zero xs (suc c) h = absurd (omega arith)
  choose-at (suc k) [] c h = absurd (omega arith)
  choose-at (suc k) (x ∷ xs) c h = at (ltb c (binomial (length xs) k)) refl (choose-at k xs c) (choose-at (suc k) xs (c - binomial (length xs) k))
    where
      at : (b : Bool) → ltb c (binomial (length xs) k) ≡ b → (c < binomial (length xs) k → get_or (choose k xs) c [] ≡ chosen k xs c)
          → (c - binomial (length xs) k < binomial (length xs) (suc k)
          → get_or (choose (suc k) xs) (c - binomial (length xs) k) [] ≡ chosen (suc k) xs (c - binomial (length xs) k))
          → get_or (with_first x k xs ++ choose (suc k) xs) c [] ≡ cond b (x ∷ chosen k xs c) (chosen (suc k) xs (c - binomial (length xs) k))
      at true e with without =
          let l = ltb-true c (binomial (length xs) k) e in
          get_or-append (with_first x k xs) (choose (suc k) xs) [] c (omega (arith, length_with_first x k xs))
          ∙ get_d_map (λ ys. x ∷ ys) (choose k xs) [] [] c (omega (arith, length-choose k xs)) ∙ ap (λ ys. x ∷ ys) (with l)
      at false e with without =
          let l = ltb-false c (binomial (length xs) k) e in
          let i : c ≡ length (with_first x k xs) + (c - binomial (length xs) k) = omega (arith, length_with_first x k xs) in
          ap (λ j. get_or (with_first x k xs ++ choose (suc k) xs) j []) i
          ∙ get_or-append-add (with_first x k xs) (choose (suc k) xs) (c - binomial (length xs) k) [] ∙ without (omega arith)

  pub length-chosen : (k : ℕ) (xs : List A) (c : ℕ) → c < binomial (length xs) k → length (chosen k xs c) ≡ k
  length-chosen k xs c h =
      ap length (sym (choose-at k xs c h))
      ∙ every_get_d (λ ys. length ys ≡ k) (choose k xs) [] c (omega (arith, length-choose k xs)) (lengths_choose k xs)
