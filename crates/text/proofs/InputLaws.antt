-- Laws of Input: the number at an index of those that bytes are, and the two parts of the numbers by the section's length.
use Prim.Native.Nat.{ℕ, zero, suc, ◌+◌, ◌*◌, ◌/◌, ◌≤◌, ◌<◌}
use native.Mathlib.Omega.{arith}
use mathlib.Core.Path.{◌≡◌, refl, sym, ap, ap₂, ◌∙◌}
use mathlib.Core.List.{List, [], ◌∷◌}
use lib.ListN.{length, take, drop, get_or, set}
use lib.Seq.{sets, take_all, length-take-le}
use Rattle.model.specs.Section.{size}
use Rattle.text.specs.Input.{number_at, numbers_of, section_part, selection_part}
use Rattle.model.proofs.SetsLaws.{sets_more, sets_all}

-- ---- numbers_of

pub length-numbers_of : (l : List ℕ) → length (numbers_of l) ≡ length l / 4
unfolding numbers_of
length-numbers_of (a ∷ b ∷ c ∷ d ∷ rest) = omega (arith, length-numbers_of rest)
length-numbers_of (a ∷ b ∷ c ∷ []) = refl
length-numbers_of (a ∷ b ∷ []) = refl
length-numbers_of (a ∷ []) = refl
length-numbers_of [] = refl

get_d_numbers_of : (l : List ℕ) (i : ℕ) → i < length l / 4 → get_or (numbers_of l) i 0 ≡ number_at l (4 * i)
unfolding numbers_of
get_d_numbers_of (a ∷ b ∷ c ∷ d ∷ rest) zero h = refl
get_d_numbers_of (a ∷ b ∷ c ∷ d ∷ rest) (suc i) h =
    let e₀ : 4 * suc i ≡ suc (suc (suc (suc (4 * i)))) = omega arith in
    let e₁ : 4 * suc i + 1 ≡ suc (suc (suc (suc (4 * i + 1)))) = omega arith in
    let e₂ : 4 * suc i + 2 ≡ suc (suc (suc (suc (4 * i + 2)))) = omega arith in
    let e₃ : 4 * suc i + 3 ≡ suc (suc (suc (suc (4 * i + 3)))) = omega arith in
    get_d_numbers_of rest i (omega arith) ∙ rw (e₁, e₂, e₃, e₀)
get_d_numbers_of (a ∷ b ∷ c ∷ []) i h = absurd (omega arith)
get_d_numbers_of (a ∷ b ∷ []) i h = absurd (omega arith)
get_d_numbers_of (a ∷ []) i h = absurd (omega arith)
get_d_numbers_of [] i h = absurd (omega arith)

-- the loop that reads them: a turn, and the end
pub read_more : (l b : List ℕ) (i : ℕ) → i < length l / 4
    → set (sets b 0 (take i (numbers_of l))) i (number_at l (4 * i)) ≡ sets b 0 (take (i + 1) (numbers_of l))
read_more l b i h =
    let at : i ≡ 0 + i = omega arith in
    ap₂ (set (sets b 0 (take i (numbers_of l)))) at (sym (get_d_numbers_of l i h)) ∙ sets_more b 0 (numbers_of l) i (omega (arith, length-numbers_of l))

pub read_all : (l b : List ℕ) (i : ℕ) → length l / 4 ≤ i → sets b 0 (take i (numbers_of l)) ≡ sets b 0 (numbers_of l)
read_all l b i h = sets_all b 0 (numbers_of l) i (omega (arith, length-numbers_of l))

-- ---- section_part, selection_part

pub length-section_fewer : (xs : List ℕ) → length xs < 1 + 2 * size xs → length xs ≡ length (section_part xs)
length-section_fewer xs h = ap length (sym (take_all (1 + 2 * size xs) xs (omega arith)))

pub length-section_all : (xs : List ℕ) → 1 + 2 * size xs ≤ length xs → 1 + 2 * size xs ≡ length (section_part xs)
length-section_all xs h = sym (length-take-le (1 + 2 * size xs) xs h)

-- so many elements as there are among the first n
take-taken : (n : ℕ) (xs : List ℕ) → take (length (take n xs)) xs ≡ take n xs
take-taken zero xs = refl
take-taken (suc n) [] = refl
take-taken (suc n) (x ∷ xs) = ap (λ l. x ∷ l) (take-taken n xs)

drop-taken : (n : ℕ) (xs : List ℕ) → drop (length (take n xs)) xs ≡ drop n xs
drop-taken zero xs = refl
drop-taken (suc n) [] = refl
drop-taken (suc n) (x ∷ xs) = drop-taken n xs

-- the two parts, by the section's length k
module _ (xs : List ℕ) (k : ℕ) (e : k ≡ length (section_part xs)) where
  pub take-section : take k xs ≡ section_part xs
  take-section = ap (λ n. take n xs) e ∙ take-taken (1 + 2 * size xs) xs

  pub drop-section : drop k xs ≡ selection_part xs
  drop-section = ap (λ n. drop n xs) e ∙ drop-taken (1 + 2 * size xs) xs
