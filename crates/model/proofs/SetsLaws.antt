-- Runs of stores: one after another, and a loop that stores a list element by element, a turn and the end. And what is stored at the front, read back.
use Prim.Native.Nat.{ℕ, suc, ◌+◌, ◌≤◌, ◌<◌}
use native.Mathlib.Omega.{arith}
use native.Mathlib.Numerals.{add-one}
use mathlib.Core.Path.{◌≡◌, sym, ap, ap₂, ◌∙◌}
use mathlib.Core.List.{List, [], ◌∷◌, ◌++◌}
use lib.ListN.{length, take, drop, get_or, set}
use lib.Seq.{sets, sets-eq, take-suc, take_all, length-take-le, length-sets, take-append_seam}

pub sets-append : (l : List ℕ) (i : ℕ) (xs ys : List ℕ) → sets l i (xs ++ ys) ≡ sets (sets l i xs) (i + length xs) ys
sets-append l i [] ys = ap (λ k. sets l k ys) (omega arith)
sets-append l i (x ∷ xs) ys = sets-append (set l i x) (suc i) xs ys ∙ ap (λ k. sets (sets (set l i x) (suc i) xs) k ys) (omega arith)

module _ (b : List ℕ) (at : ℕ) (xs : List ℕ) (i : ℕ) where
  pub sets_more : i < length xs → set (sets b at (take i xs)) (at + i) (get_or xs i 0) ≡ sets b at (take (i + 1) xs)
  sets_more h =
      let x = get_or xs i 0 in
      let one : take (i + 1) xs ≡ take i xs ++ x ∷ [] = ap (λ k. take k xs) (add-one i) ∙ take-suc xs i 0 h in
      let end : at + length (take i xs) ≡ at + i = ap (λ k. at + k) (length-take-le i xs (omega arith)) in
      sym (ap (sets b at) one ∙ sets-append b at (take i xs) (x ∷ []) ∙ ap (λ k. set (sets b at (take i xs)) k x) end)

  pub sets_all : length xs ≤ i → sets b at (take i xs) ≡ sets b at xs
  sets_all h = ap (sets b at) (take_all i xs h)

-- a turn of the loop from the front
pub sets-more_front : (b xs : List ℕ) (i : ℕ) → i < length xs → set (sets b 0 (take i xs)) i (get_or xs i 0) ≡ sets b 0 (take (i + 1) xs)
sets-more_front b xs i h =
    let e : i ≡ 0 + i = omega arith in
    ap (λ k. set (sets b 0 (take i xs)) k (get_or xs i 0)) e ∙ sets_more b 0 xs i h

-- what is put at the front of a slice, as the part that the caller takes
pub take-written : (a xs : List ℕ) {b : List ℕ} (k : ℕ) → b ≡ sets a 0 xs → k ≡ length xs → k ≤ length b → take k b ≡ xs
take-written a xs {b} k e f h =
    let n : length b ≡ length a = ap length e ∙ length-sets a 0 xs in
    ap₂ take f (e ∙ sets-eq xs a 0 (omega arith)) ∙ take-append_seam xs (drop (0 + length xs) a)
