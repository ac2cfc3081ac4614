-- A loop that writes numbers for each element of a list, R, one after the other: what is written so far and what R gives of the elements left are
-- together what R gives of all.
use Prim.Native.Nat.{ℕ, ◌+◌, ◌≤◌}
use native.Mathlib.Omega.{arith}
use mathlib.Core.Path.{◌≡◌, refl, sym, ap, ◌∙◌, subst}
use mathlib.Core.Bool.{Bool, true, false, cond}
use mathlib.Core.List.{List, [], ◌∷◌, ◌++◌, append_assoc, append-nil, map, flat_map}
use lib.ListN.{length, length-append}
use Rattle.model.specs.Lists.{keep}
use Rattle.store.specs.Put.{Put}
use Rattle.store.proofs.PutLaws.{put-none, put-append, length-put}

-- of the elements of list those in todo are left; the others' numbers are written to b, which was b₀, from at to q
pub record Rows {A : Type 0} (R : A → List ℕ) (list todo : List A) (b₀ b : List ℕ) (at q : ℕ) : Type 0 where
  pub done : List ℕ
  pub split : flat_map R list ≡ done ++ flat_map R todo
  pub put : Put b₀ b at done q

module _ {A : Type 0} {R : A → List ℕ} {list : List A} {b₀ : List ℕ} {at : ℕ} where
  pub rows_start : Rows R list list b₀ b₀ at at
  rows_start = record { done = []; split = refl; put = put-none b₀ at }

  module _ {todo : List A} {b : List ℕ} {q : ℕ} (r : Rows R list todo b₀ b at q) where
    module _ {x : A} {xs : List A} (e : todo ≡ x ∷ xs) where
      split_next : flat_map R list ≡ (r.done ++ R x) ++ flat_map R xs
      unfolding flat_map
      split_next = r.split ∙ ap (λ l. r.done ++ flat_map R l) e ∙ sym (append_assoc r.done (R x) (flat_map R xs))

      -- where there is room for all there is room for the next
      pub rows_room : at + length (flat_map R list) ≤ length b₀ → q + length (R x) ≤ length b
      rows_room h =
          omega (arith, length-put r.put, r.put.next_is, ap length split_next, length-append (r.done ++ R x) (flat_map R xs), length-append r.done (R x))

      pub rows_step : {b' : List ℕ} {q' : ℕ} → Put b b' q (R x) q' → Rows R list xs b₀ b' at q'
      rows_step v = record { done = r.done ++ R x; split = split_next; put = put-append r.put v }

    pub rows_finish : todo ≡ [] → Put b₀ b at (flat_map R list) q
    unfolding flat_map
    rows_finish e = subst (λ xs. Put b₀ b at xs q) (sym (r.split ∙ ap (λ l. r.done ++ flat_map R l) e ∙ append-nil r.done)) r.put

-- ---- map and keep, as rows

pub map-flat_map : {A B : Type 0} (f : A → B) (xs : List A) → map f xs ≡ flat_map (λ x. f x ∷ []) xs
unfolding flat_map
map-flat_map f [] = refl
map-flat_map f (x ∷ xs) = ap (λ ys. f x ∷ ys) (map-flat_map f xs)

pub flat_map-keep : {A B : Type 0} (f : A → List B) (test : A → Bool) (xs : List A) → flat_map f (keep test xs) ≡ flat_map (λ x. cond (test x) (f x) []) xs
unfolding flat_map keep
flat_map-keep f test [] = refl
flat_map-keep {B = B} f test (x ∷ xs) = at (test x) (flat_map-keep f test xs)
  where
    at : (t : Bool) {rest : List B} → flat_map f (keep test xs) ≡ rest → flat_map f (cond t (x ∷ keep test xs) (keep test xs)) ≡ cond t (f x) [] ++ rest
    at true e = ap (λ ys. f x ++ ys) e
    at false e = e

flat_map-one : {A : Type 0} (xs : List A) → xs ≡ flat_map (λ x. x ∷ []) xs
unfolding flat_map
flat_map-one [] = refl
flat_map-one (x ∷ xs) = ap (λ ys. x ∷ ys) (flat_map-one xs)

pub keep-flat_map : {A : Type 0} (test : A → Bool) (xs : List A) → keep test xs ≡ flat_map (λ x. cond (test x) (x ∷ []) []) xs
keep-flat_map test xs = flat_map-one (keep test xs) ∙ flat_map-keep (λ x. x ∷ []) test xs
