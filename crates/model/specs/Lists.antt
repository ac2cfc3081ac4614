-- Functions on lists that the definitions use. What the library has (map, flat_map, take, drop) is the library's.
use Rattle.std.specs.Prelude.{ℕ, zero, suc, ◌+◌, ◌-◌, Bool, true, false, ◌&&◌, ◌||◌, cond, List, [], ◌∷◌, ◌++◌, map}
use Rattle.std.specs.Prelude.{Option, Some, None}

-- every element has P
unfoldable pub Every : {A : Type 0} → (A → Type 0) → List A → Type 0
Every P [] = Unit {0}
Every P (x ∷ xs) = P x × Every P xs

module _ {A : Type 0} where
  unfoldable pub all_of : (A → Bool) → List A → Bool
  all_of p [] = true
  all_of p (x ∷ xs) = p x && all_of p xs

  unfoldable pub any_of : (A → Bool) → List A → Bool
  any_of p [] = false
  any_of p (x ∷ xs) = p x || any_of p xs

  unfoldable pub is_empty : List A → Bool
  is_empty [] = true
  is_empty (x ∷ xs) = false

  -- the elements that pass, in order
  unfoldable pub keep : (A → Bool) → List A → List A
  keep p [] = []
  keep p (x ∷ xs) = cond (p x) (x ∷ keep p xs) (keep p xs)

  -- the first element that passes
  unfoldable pub first : (A → Bool) → List A → Option A
  first p [] = None
  first p (x ∷ xs) = let later = first p xs in cond (p x) (Some x) later

  -- every pair of an earlier and a later element
  unfoldable pub all_pairs : (A → A → Bool) → List A → Bool
  all_pairs r [] = true
  all_pairs r (x ∷ xs) = all_of (r x) xs && all_pairs r xs

  -- each element and the next
  unfoldable pub neighbours : (A → A → Bool) → List A → Bool
  neighbours r [] = true
  neighbours r (x ∷ []) = true
  neighbours r (x ∷ y ∷ ys) = r x y && neighbours r (y ∷ ys)

  unfoldable pub insert_sorted : (A → A → Bool) → A → List A → List A
  insert_sorted le x [] = x ∷ []
  insert_sorted le x (y ∷ ys) = cond (le x y) (x ∷ y ∷ ys) (y ∷ insert_sorted le x ys)

  unfoldable pub sort : (A → A → Bool) → List A → List A
  sort le [] = []
  sort le (x ∷ xs) = insert_sorted le x (sort le xs)

  -- every choice of k elements, which keep their order: first the choices that have the first element, then those without it
  unfoldable pub choose : ℕ → List A → List (List A)
  choose zero xs = [] ∷ []
  choose (suc k) [] = []
  choose (suc k) (x ∷ xs) = map (λ ys. x ∷ ys) (choose k xs) ++ choose (suc k) xs

-- n numbers, rising from a
unfoldable pub up_from : ℕ → ℕ → List ℕ
up_from a zero = []
up_from a (suc n) = a ∷ up_from (a + 1) n

-- the numbers from a to b; none where b is below a
unfoldable pub from_to : ℕ → ℕ → List ℕ
from_to a b = up_from a (b + 1 - a)
