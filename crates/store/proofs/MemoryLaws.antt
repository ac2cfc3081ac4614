-- Laws of memory: runs of stores, and what memory holds from an index on. A run of stores says what changed and what did not in one equation, so that
-- whatever lies apart from it is held as before.
use Prim.Native.Nat.{ℕ, suc, ◌+◌, ◌-◌, ◌≤◌, ◌<◌}
use native.Mathlib.Omega.{arith}
use native.Mathlib.Numerals.{add-one}
use mathlib.Core.Path.{◌≡◌, refl, sym, ap, ◌∙◌}
use mathlib.Core.List.{List, [], ◌∷◌, ◌++◌, append_assoc}
use mathlib.Core.Logic.{◌⊎◌, inl, inr, ⊎_elim}
use lib.ListN.{length, take, drop, get_or, set, length-append, length-drop, take-append-drop}
use lib.Seq.{sets, length-sets, sets-eq, set_comm, drop_at, take-add, drop-drop, take-set-le, drop-set-add, drop-set-lt}
use lib.Seq.{get_or-set_other, get_or-take, get_or-drop, length-take-le, take-take, take-suc, take-append_seam, drop-append_seam}
use Rattle.model.proofs.SetsLaws.{sets-append}
use Rattle.store.specs.Layout.{Holds}

-- ---- sets

-- a store below a run of stores, and a run below a run, may come first
pub set-sets : (l : List ℕ) (i : ℕ) (xs : List ℕ) (j v : ℕ) → j < i → set (sets l i xs) j v ≡ sets (set l j v) i xs
set-sets l i [] j v h = refl
set-sets l i (x ∷ xs) j v h = set-sets (set l i x) (suc i) xs j v (omega arith) ∙ ap (λ r. sets r (suc i) xs) (set_comm l i j x v (omega arith))

pub sets-sets : (l : List ℕ) (i : ℕ) (xs : List ℕ) (j : ℕ) (ys : List ℕ) → j + length ys ≤ i → sets (sets l i xs) j ys ≡ sets (sets l j ys) i xs
sets-sets l i xs j [] h = refl
sets-sets l i xs j (y ∷ ys) h = ap (λ r. sets r (suc j) ys) (set-sets l i xs j y (omega arith)) ∙ sets-sets (set l j y) i xs (suc j) ys (omega arith)

-- a list is stored also by what is after first and what is in front last
pub sets_front : (l : List ℕ) (i : ℕ) (xs ys : List ℕ) (j : ℕ) → j ≡ i + length xs → sets (sets l j ys) i xs ≡ sets l i (xs ++ ys)
sets_front l i xs ys j e = sets-sets l j ys i xs (omega arith) ∙ ap (λ k. sets (sets l i xs) k ys) e ∙ sym (sets-append l i xs ys)

-- what lies apart from a run of stores is as it was
part-below : (l : List ℕ) (b : ℕ) (ys : List ℕ) (a n : ℕ) → a + n ≤ b → take n (drop a (sets l b ys)) ≡ take n (drop a l)
part-below l b [] a n h = refl
part-below l b (y ∷ ys) a n h =
    let e : b ≡ a + (b - a) = omega arith in
    let d : drop a (set l b y) ≡ set (drop a l) (b - a) y = ap (λ k. drop a (set l k y)) e ∙ drop-set-add a l (b - a) y in
    part-below (set l b y) (suc b) ys a n (omega arith) ∙ ap (take n) d ∙ take-set-le n (drop a l) (b - a) y (omega arith)

drop-above : (l : List ℕ) (b : ℕ) (ys : List ℕ) (a : ℕ) → b + length ys ≤ a → drop a (sets l b ys) ≡ drop a l
drop-above l b [] a h = refl
drop-above l b (y ∷ ys) a h = drop-above (set l b y) (suc b) ys a (omega arith) ∙ drop-set-lt a l b y (omega arith)

pub part_apart : (l : List ℕ) (b : ℕ) (ys : List ℕ) (a n : ℕ) → (a + n ≤ b) ⊎ (b + length ys ≤ a) → take n (drop a (sets l b ys)) ≡ take n (drop a l)
part_apart l b ys a n (inl h) = part-below l b ys a n h
part_apart l b ys a n (inr h) = ap (take n) (drop-above l b ys a h)

pub get_d_apart : (l : List ℕ) (b : ℕ) (ys : List ℕ) (k : ℕ) → (k < b) ⊎ (b + length ys ≤ k) → get_or (sets l b ys) k 0 ≡ get_or l k 0
get_d_apart l b [] k h = refl
get_d_apart l b (y ∷ ys) k (inl h) = get_d_apart (set l b y) (suc b) ys k (inl (omega arith)) ∙ get_or-set_other l b k y 0 (omega arith)
get_d_apart l b (y ∷ ys) k (inr h) = get_d_apart (set l b y) (suc b) ys k (inr (omega arith)) ∙ get_or-set_other l b k y 0 (omega arith)

-- ---- Holds

pub holds-written : (l : List ℕ) (at : ℕ) (xs : List ℕ) → at + length xs ≤ length l → Holds (sets l at xs) at xs
holds-written l at xs h =
    let e : drop at (sets l at xs) ≡ xs ++ drop (at + length xs) l =
    ap (drop at) (sets-eq xs l at h ∙ append_assoc (take at l) xs _) ∙ drop_at (take at l) _ at (length-take-le at l (omega arith)) in
    record { within = rw length-sets h; part = ap (take (length xs)) e ∙ take-append_seam xs _ }

-- what is held apart from a run of stores is held still
pub holds-other : (l : List ℕ) (b : ℕ) (ys : List ℕ) {a : ℕ} {xs : List ℕ} → (a + length xs ≤ b) ⊎ (b + length ys ≤ a) → Holds l a xs → Holds (sets l b ys) a xs
holds-other l b ys {a} {xs} h r = record { within = rw length-sets r.within; part = part_apart l b ys a (length xs) h ∙ r.part }

-- what is held in two parts
pub holds-left : {l : List ℕ} {a : ℕ} (xs ys : List ℕ) → Holds l a (xs ++ ys) → Holds l a xs
holds-left {l} {a} xs ys r =
    let n : length (xs ++ ys) ≡ length xs + length ys = length-append xs ys in
    record {
      within = omega (arith, r.within);
      part = sym (take-take (length xs) (length (xs ++ ys)) (drop a l) (omega arith)) ∙ ap (take (length xs)) r.part ∙ take-append_seam xs ys;
    }

pub holds-right : {l : List ℕ} {a : ℕ} (xs ys : List ℕ) → Holds l a (xs ++ ys) → Holds l (a + length xs) ys
holds-right {l} {a} xs ys r =
    let n : length (xs ++ ys) ≡ length xs + length ys = length-append xs ys in
    let whole : take (length xs) (drop a l) ++ take (length ys) (drop (length xs) (drop a l)) ≡ xs ++ ys =
    sym (take-add (length xs) (length ys) (drop a l)) ∙ rw (← n) r.part in
    let front : length (take (length xs) (drop a l)) ≡ length xs = ap length (holds-left xs ys r).part in
    record {
      within = omega (arith, r.within);
      part =
          ap (take (length ys)) (sym (drop-drop (length xs) a l)) ∙ sym (drop_at (take (length xs) (drop a l)) _ (length xs) front)
          ∙ ap (drop (length xs)) whole ∙ drop-append_seam xs ys;
    }

pub holds-both : {l : List ℕ} {a : ℕ} (xs ys : List ℕ) → Holds l a xs → Holds l (a + length xs) ys → Holds l a (xs ++ ys)
holds-both xs ys r s =
    record { within = rw length-append (omega (arith, s.within)); part = rw (length-append, take-add, r.part, drop-drop, s.part) }

pub holds_tail : {l : List ℕ} {a x : ℕ} (xs : List ℕ) → Holds l a (x ∷ xs) → Holds l (a + 1) xs
holds_tail {x = x} xs r = holds-right (x ∷ []) xs r

-- what is held, as a part of so many numbers; and a number of it, by its index
pub holds-part : {l : List ℕ} {a : ℕ} {xs : List ℕ} (k : ℕ) → k ≡ length xs → Holds l a xs → take k (drop a l) ≡ xs
holds-part {l} {a} k e r = ap (λ n. take n (drop a l)) e ∙ r.part

pub get_d_held : {l : List ℕ} {a : ℕ} {xs : List ℕ} (i : ℕ) → i < length xs → Holds l a xs → get_or l (a + i) 0 ≡ get_or xs i 0
get_d_held {l} {a} {xs} i h r = sym (get_or-drop a l i 0) ∙ sym (get_or-take (length xs) (drop a l) i 0 h) ∙ ap (λ t. get_or t i 0) r.part

pub get_d_head : {l : List ℕ} {a x : ℕ} (xs : List ℕ) → Holds l a (x ∷ xs) → get_or l a 0 ≡ x
get_d_head {l} {a} xs r = ap (λ k. get_or l k 0) (omega arith) ∙ get_d_held 0 (omega arith) r

-- to store what is held changes nothing
pub sets-held : {l : List ℕ} {a : ℕ} (xs : List ℕ) → Holds l a xs → sets l a xs ≡ l
sets-held {l} {a} xs r =
    sets-eq xs l a r.within
    ∙ ap (λ t. take a l ++ t ++ drop (a + length xs) l) (sym r.part)
    ∙ ap (λ t. t ++ drop (a + length xs) l) (sym (take-add a (length xs) l))
    ∙ take-append-drop (a + length xs) l

-- ---- a copy within memory

module _ (l : List ℕ) (from to n : ℕ) (fits : from + n ≤ length l) (apart : (to + n ≤ from) ⊎ (from + n ≤ to)) where
  -- a turn of the loop that copies
  pub copy_more : (i : ℕ) → i < n
      → set (sets l to (take i (drop from l))) (to + i) (get_or (sets l to (take i (drop from l))) (from + i) 0) ≡ sets l to (take (i + 1) (drop from l))
  copy_more i h =
      let X : List ℕ = drop from l in
      let d : length X ≡ length l - from = length-drop from l in
      let len : length (take i X) ≡ i = length-take-le i X (omega arith) in
      let outside : (from + i < to) ⊎ (to + length (take i X) ≤ from + i) = ⊎_elim (λ a. inr (omega arith)) (λ a. inl (omega arith)) apart in
      let read : get_or (sets l to (take i X)) (from + i) 0 ≡ get_or X i 0 = get_d_apart l to (take i X) (from + i) outside ∙ sym (get_or-drop from l i 0) in
      let one : take (i + 1) X ≡ take i X ++ get_or X i 0 ∷ [] = rw add-one (take-suc X i 0 (omega arith)) in
      ap (set (sets l to (take i X)) (to + i)) read
      ∙ sym (ap (sets l to) one ∙ sets-append l to (take i X) (get_or X i 0 ∷ []) ∙ ap (λ k. set (sets l to (take i X)) (to + k) (get_or X i 0)) len)

  -- all of it
  pub copy_all : (i : ℕ) → i ≡ n → to + n ≤ length l → sets l to (take i (drop from l)) ≡ take to l ++ take n (drop from l) ++ drop (to + n) l
  copy_all i e room =
      let X : List ℕ = drop from l in
      let d : length X ≡ length l - from = length-drop from l in
      let len : length (take n X) ≡ n = length-take-le n X (omega arith) in
      ap (λ k. sets l to (take k X)) e ∙ sets-eq (take n X) l to (omega arith) ∙ ap (λ k. take to l ++ take n X ++ drop (to + k) l) len
