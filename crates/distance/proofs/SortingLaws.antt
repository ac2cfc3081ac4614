-- The neighbours of a sorted list are told from the list unsorted: what is gathered of a list, each number in turn and in any order, is the same of the list
-- sorted, and in a sorted list the least number above another is the first after its copies. A span's number keeps the order by start, then end.
use Prim.Native.Nat.{ℕ, ◌+◌, ◌≤◌, ◌<◌, min}
use native.Mathlib.Nat.{eq-or-lt_of_le}
use native.Mathlib.Omega.{arith}
use mathlib.Core.Bool.{Bool, true, false, ◌&&◌, cond, and_assoc, and_comm, and-true, and-false, and_self_left, or-true}
use mathlib.Core.List.{List, [], ◌∷◌, map, foldr}
use mathlib.Core.Logic.{⊎_elim}
use mathlib.Core.Path.{◌≡◌, refl, ap, ap₂, sym, subst, ◌∙◌, fun_ext}
use borrow.Author.Tests.{leb-true, leb-false, eq-eqb, ne_eqb, le-leb, lt-leb}
use lib.Dec.{leb, eqb}
use Rattle.model.specs.AllStrings.{AllStrs}
use Rattle.model.specs.Answers.{span_of}
use Rattle.model.specs.Limits.{radix}
use Rattle.model.specs.Lists.{Every, all_of, insert_sorted, neighbours, sort}
use Rattle.model.specs.Matches.{Str}
use Rattle.model.specs.Rules.{not_after, distance}
use Rattle.model.proofs.EveryLaws.{every_weaker}
use Rattle.distance.specs.Sorting.{counted, copies, nearer, above, passing, passes, spans_within}
use Rattle.strings.specs.Strings.{str_packed, strs_at}
use Rattle.strings.specs.declared.packed.Packed.{Packed}
use Rattle.distance.proofs.DistanceLaws.{not_after-span_of, neighbours-span_of}
use Rattle.strings.proofs.StringsLaws.{end-strs_at, span_of-str_of}

-- ---- what is gathered of a list in any order

module _ {A B : Type 0} (step : A → B → B) (swap : (x y : A) (b : B) → step x (step y b) ≡ step y (step x b)) where
  -- the first element may be gathered first ..
  foldr_first : (b : B) (x : A) (xs : List A) → foldr step b (x ∷ xs) ≡ foldr step (step x b) xs
  foldr_first b x [] = refl
  foldr_first b x (y ∷ ys) = swap x y (foldr step b ys) ∙ ap (step y) (foldr_first b x ys)

  module _ (le : A → A → Bool) (b : B) where
    foldr_insert : (x : A) (ys : List A) → foldr step b (insert_sorted le x ys) ≡ step x (foldr step b ys)
    unfolding insert_sorted
    foldr_insert x [] = refl
    foldr_insert x (y ∷ ys) = at (le x y) (foldr_insert x ys)
      where
        at : (t : Bool) → foldr step b (insert_sorted le x ys) ≡ step x (foldr step b ys)
            → foldr step b (cond t (x ∷ y ∷ ys) (y ∷ insert_sorted le x ys)) ≡ step x (step y (foldr step b ys))
        at true e = refl
        at false e = ap (step y) e ∙ swap y x (foldr step b ys)

    -- .. and all of them sorted
    foldr_sort : (xs : List A) → foldr step b (sort le xs) ≡ foldr step b xs
    unfolding sort
    foldr_sort [] = refl
    foldr_sort (x ∷ xs) = foldr_insert x (sort le xs) ∙ ap (step x) (foldr_sort xs)

-- ---- all

module _ {A : Type 0} (p : A → Bool) where
  all_foldr : (xs : List A) → all_of p xs ≡ foldr (λ x b. p x && b) true xs
  unfolding all_of
  all_foldr [] = refl
  all_foldr (x ∷ xs) = ap (λ b. p x && b) (all_foldr xs)

  all_sort : (le : A → A → Bool) (xs : List A) → all_of p (sort le xs) ≡ all_of p xs
  all_sort le xs = all_foldr (sort le xs) ∙ foldr_sort _ swap le true xs ∙ sym (all_foldr xs)
    where
      swap : (x y : A) (b : Bool) → (p x && (p y && b)) ≡ (p y && (p x && b))
      swap x y b = sym (and_assoc (p x) (p y) b) ∙ ap (λ c. c && b) (and_comm (p x) (p y)) ∙ and_assoc (p y) (p x) b

  all_map : {B : Type 0} (f : B → A) (xs : List B) → all_of p (map f xs) ≡ all_of (λ x. p (f x)) xs
  unfolding all_of
  all_map f [] = refl
  all_map f (x ∷ xs) = ap (λ b. p (f x) && b) (all_map f xs)

  all_agree : (q : A → Bool) (xs : List A) → Every (λ x. p x ≡ q x) xs → all_of p xs ≡ all_of q xs
  unfolding all_of Every
  all_agree q [] a = refl
  all_agree q (x ∷ xs) a = ap₂ ◌&&◌ a.0 (all_agree q xs a.1)

-- ---- copies, above

module _ (v : ℕ) where
  pub counted_swap : (x y n : ℕ) → counted v x (counted v y n) ≡ counted v y (counted v x n)
  counted_swap x y n = at (eqb x v) (eqb y v)
    where
      at : (p q : Bool) → cond p (cond q (n + 1) n + 1) (cond q (n + 1) n) ≡ cond q (cond p (n + 1) n + 1) (cond p (n + 1) n)
      at true true = refl
      at true false = refl
      at false true = refl
      at false false = refl

  pub nearer_swap : (x y m : ℕ) → nearer v x (nearer v y m) ≡ nearer v y (nearer v x m)
  nearer_swap x y m = at (leb x v) refl (leb y v) refl (leb m v) refl
    where
      at : (p : Bool) → leb x v ≡ p → (q : Bool) → leb y v ≡ q → (r : Bool) → leb m v ≡ r → nearer v x (nearer v y m) ≡ nearer v y (nearer v x m)
      at true e q f r g = rw e
      at false e true f r g = rw (e, f)
      at false e false f true g = rw (e, f, g, e, f) (omega arith)
      at false e false f false g =
          let a : leb (min y m) v ≡ false = lt-leb (min y m) v (omega (arith, leb-false)) in
          let b : leb (min x m) v ≡ false = lt-leb (min x m) v (omega (arith, leb-false)) in
          rw (e, f, g, a, b) (omega arith)

  -- where all numbers lie above v, v has no copy ..
  copies-none : (xs : List ℕ) → Every (λ x. v < x) xs → copies v xs ≡ 0
  unfolding Every
  copies-none [] a = refl
  copies-none (x ∷ xs) a = rw (ne_eqb x v (λ e. omega arith)) (copies-none xs a.1)

  -- .. and where the first is the least of them, it is the least above v
  nearer_least : (z : ℕ) (xs : List ℕ) → v < z → Every (λ x. z ≤ x) xs → foldr (nearer v) z xs ≡ z
  unfolding Every
  nearer_least z [] h a = refl
  nearer_least z (x ∷ xs) h a = rw (nearer_least z xs h a.1, lt-leb x v (omega arith), lt-leb z v h) (omega arith)

  above-first : (z : ℕ) (xs : List ℕ) → v < z → Every (λ x. z ≤ x) xs → above v (z ∷ xs) ≡ z
  above-first z xs h a =
      let alone : nearer v z v ≡ z = rw (lt-leb z v h, le-leb v v (omega arith)) in
      foldr_first (nearer v) nearer_swap v z xs ∙ ap (λ k. foldr (nearer v) k xs) alone ∙ nearer_least z xs h a

-- ---- sort

module _ {A : Type 0} (P : A → Type 0) (le : A → A → Bool) where
  every_insert : (x : A) (ys : List A) → P x → Every P ys → Every P (insert_sorted le x ys)
  unfolding insert_sorted Every
  every_insert x [] p a = (p, tt)
  every_insert x (y ∷ ys) p a = at (le x y) (every_insert x ys p a.1)
    where
      at : (t : Bool) → Every P (insert_sorted le x ys) → Every P (cond t (x ∷ y ∷ ys) (y ∷ insert_sorted le x ys))
      at true h = (p, a)
      at false h = (a.0, h)

  every-sort : (xs : List A) → Every P xs → Every P (sort le xs)
  unfolding sort Every
  every-sort [] a = tt
  every-sort (x ∷ xs) a = every_insert x (sort le xs) a.0 (every-sort xs a.1)

-- each number is at most those after it
unfoldable Rising : List ℕ → Type 0
Rising [] = Unit {0}
Rising (x ∷ xs) = Every (λ y. x ≤ y) xs × Rising xs

rising_insert : (x : ℕ) (ys : List ℕ) → Rising ys → Rising (insert_sorted leb x ys)
unfolding insert_sorted Rising Every
rising_insert x [] a = (tt, tt)
rising_insert x (y ∷ ys) a = at (leb x y) refl (rising_insert x ys a.1)
  where
    at : (t : Bool) → leb x y ≡ t → Rising (insert_sorted leb x ys) → Rising (cond t (x ∷ y ∷ ys) (y ∷ insert_sorted leb x ys))
    at true e h = let k = leb-true x y e in ((k, every_weaker _ _ (λ z l. omega arith) ys a.0), a)
    at false e h = (every_insert (λ z. y ≤ z) leb x ys (omega (arith, leb-false x y e)) a.0, h)

rising-sort : (xs : List ℕ) → Rising (sort leb xs)
unfolding sort Rising
rising-sort [] = tt
rising-sort (x ∷ xs) = rising_insert x (sort leb xs) (rising-sort xs)

-- ---- neighbours

module _ (r : ℕ → ℕ → Bool) where
  -- a lesser number doesn't matter to v ..
  passes_lesser : (v y : ℕ) (xs : List ℕ) → y < v → passes r v (y ∷ xs) ≡ passes r v xs
  passes_lesser v y xs h = rw (ne_eqb y v (λ e. omega arith), le-leb y v (omega arith))

  module _ (v : ℕ) where
    passes-more : (xs : List ℕ) → passes r v (v ∷ xs) ≡ passing r v (copies v xs + 1) (above v xs)
    passes-more xs = rw (eq-eqb v v refl, le-leb v v (omega arith))

    -- .. nor does a copy where copies pass ..
    passes_copy : (xs : List ℕ) → r v v ≡ true → passes r v (v ∷ xs) ≡ passes r v xs
    passes_copy xs e = passes-more xs ∙ rw (e, or-true (leb (copies v xs + 1) 1), or-true (leb (copies v xs) 1))

    -- .. but two copies don't pass where they don't
    passes_twice : (xs : List ℕ) → r v v ≡ false → passes r v (v ∷ v ∷ xs) ≡ false
    passes_twice xs e = rw (eq-eqb v v refl, lt-leb (copies v xs + 1 + 1) 1 (omega arith), e, and-false)

    -- the last number passes, and one before a greater one passes with it
    passes-last : passes r v (v ∷ []) ≡ true
    passes-last = passes-more [] ∙ rw (le-leb v v (omega arith))

    passes-next : (z : ℕ) (xs : List ℕ) → v < z → Every (λ x. z ≤ x) xs → passes r v (v ∷ z ∷ xs) ≡ r v z
    unfolding Every
    passes-next z xs h a =
        let none = copies-none v (z ∷ xs) (h, every_weaker _ _ (λ x k. omega arith) xs a) in
        passes-more (z ∷ xs) ∙ ap₂ (λ n m. passing r v (n + 1) m) none (above-first v z xs h a) ∙ rw (lt-leb z v h, and-true (r v z))

  -- so no number up to v matters where its copies pass
  passes-up_to : (v y : ℕ) (xs : List ℕ) → r y y ≡ true → y ≤ v → passes r v (y ∷ xs) ≡ passes r v xs
  passes-up_to v y xs e k = ⊎_elim (λ q. subst (λ (w : ℕ). passes r w (y ∷ xs) ≡ passes r w xs) q (passes_copy y xs e)) (passes_lesser v y xs) (eq-or-lt_of_le k)

  -- does each number pass?
  abbrev all_pass : List ℕ → Bool
  all_pass xs = all_of (λ v. passes r v xs) xs

  -- one number more in front of a rising list: less than the first, or a copy of it
  all_pass_less : (y z : ℕ) (xs : List ℕ) → y < z → Every (λ x. z ≤ x) xs → (r y z && all_pass (z ∷ xs)) ≡ all_pass (y ∷ z ∷ xs)
  unfolding all_of Every
  all_pass_less y z xs h a =
      let others = every_weaker _ _ (λ x k. sym (passes_lesser x y (z ∷ xs) (omega arith))) (z ∷ xs) (omega arith, a) in
      ap₂ ◌&&◌ (sym (passes-next y z xs h a)) (all_agree _ _ (z ∷ xs) others)

  all_pass_copy : (y : ℕ) (xs : List ℕ) → Every (λ x. y ≤ x) xs → (r y y && all_pass (y ∷ xs)) ≡ all_pass (y ∷ y ∷ xs)
  unfolding all_of Every
  all_pass_copy y xs a = at (r y y) refl
    where
      at : (t : Bool) → r y y ≡ t → (t && all_pass (y ∷ xs)) ≡ all_pass (y ∷ y ∷ xs)
      at false e = sym (rw (passes_twice y xs e))
      at true e =
          let self = and_self_left (passes r y (y ∷ y ∷ xs)) (all_of (λ v. passes r v (y ∷ y ∷ xs)) xs) in
          sym (self ∙ all_agree _ _ (y ∷ xs) (every_weaker _ _ (λ x. passes-up_to x y (y ∷ xs) e) (y ∷ xs) (omega arith, a)))

  -- in a rising list each number passes with its next
  neighbours-rising : (xs : List ℕ) → Rising xs → neighbours r xs ≡ all_pass xs
  unfolding neighbours all_of Rising Every
  neighbours-rising [] a = refl
  neighbours-rising (y ∷ []) a = sym (rw (passes-last y))
  neighbours-rising (y ∷ z ∷ xs) a = ap (λ b. r y z && b) (neighbours-rising (z ∷ xs) a.1) ∙ ⊎_elim equal less (eq-or-lt_of_le a.0.0)
    where
      less : y < z → (r y z && all_pass (z ∷ xs)) ≡ all_pass (y ∷ z ∷ xs)
      less h = all_pass_less y z xs h a.1.0

      equal : y ≡ z → (r y z && all_pass (z ∷ xs)) ≡ all_pass (y ∷ z ∷ xs)
      equal e = subst (λ (w : ℕ). (r w z && all_pass (z ∷ xs)) ≡ all_pass (w ∷ z ∷ xs)) (sym e) (all_pass_copy z xs a.1.0)

  passes-sort : (xs : List ℕ) (v : ℕ) → passes r v (sort leb xs) ≡ passes r v xs
  passes-sort xs v = ap₂ (passing r v) (foldr_sort _ (counted_swap v) leb 0 xs) (foldr_sort _ (nearer_swap v) leb v xs)

  -- so each number of any list passes with its next in the list sorted
  neighbours-sort : (xs : List ℕ) → neighbours r (sort leb xs) ≡ all_pass xs
  neighbours-sort xs =
      neighbours-rising (sort leb xs) (rising-sort xs) ∙ ap (λ p. all_of p (sort leb xs)) (fun_ext (passes-sort xs)) ∙ all_sort _ leb xs

-- ---- strings by their spans

abbrev Ends : Str → Type 0
Ends s = s.end < radix

map_insert : (s : Str) (ts : List Str) → Ends s → AllStrs Ends ts → map span_of (insert_sorted not_after s ts) ≡ insert_sorted leb (span_of s) (map span_of ts)
unfolding insert_sorted Every
map_insert s [] h a = refl
map_insert s (t ∷ ts) h a = rw (not_after-span_of s t h a.0) (at (leb (span_of s) (span_of t)) (map_insert s ts h a.1))
  where
    at : (b : Bool) → map span_of (insert_sorted not_after s ts) ≡ insert_sorted leb (span_of s) (map span_of ts)
        → map span_of (cond b (s ∷ t ∷ ts) (t ∷ insert_sorted not_after s ts)) ≡ cond b (span_of s ∷ span_of t ∷ map span_of ts) (span_of t ∷ insert_sorted leb (span_of s) (map span_of ts))
    at true e = refl
    at false e = ap (λ zs. span_of t ∷ zs) e

-- strings sort as their spans do
map-sort : (ss : List Str) → AllStrs Ends ss → map span_of (sort not_after ss) ≡ sort leb (map span_of ss)
unfolding sort Every
map-sort [] a = refl
map-sort (s ∷ ss) a = map_insert s (sort not_after ss) a.0 (every-sort Ends not_after ss a.1) ∙ ap (insert_sorted leb (span_of s)) (map-sort ss a.1)

-- a string passes with what follows its copies among the strings of a slice, sorted
abbrev pub followed : ℕ → ℕ → List ℕ → Str → Bool
followed least most l s = passes (spans_within least most) (span_of s) (map span_of (strs_at l))

module _ (least most : ℕ) (l : List ℕ) where
  -- the rule's test on the sorted strings, made on the strings unsorted
  pub neighbours-strings : (distance least most).keeps (strs_at l) ≡ all_of (followed least most l) (strs_at l)
  neighbours-strings =
      let r : ℕ → ℕ → Bool = spans_within least most in
      let ss : List Str = strs_at l in
      sym (neighbours-span_of least most (sort not_after ss) (every-sort Ends not_after ss (end-strs_at l)))
      ∙ ap (neighbours r) (map-sort ss (end-strs_at l)) ∙ neighbours-sort r (map span_of ss) ∙ all_map (λ v. passes r v (map span_of ss)) span_of ss

-- ---- loops that gather

-- b, with the spans of strings gathered
abbrev pub gathered : (ℕ → ℕ → ℕ) → ℕ → List Str → ℕ
gathered step b ss = foldr step b (map span_of ss)

-- gathered with the first string, two numbers of a slice
pub gathered_next : (step : ℕ → ℕ → ℕ) (swap : (x y b : ℕ) → step x (step y b) ≡ step y (step x b)) (b c : ℕ) (s : Packed) (ss : List Str)
    → step s.span b ≡ c → gathered step b (str_packed s ∷ ss) ≡ gathered step c ss
gathered_next step swap b c s ss e =
    rw (span_of-str_of s.span s.tag) (foldr_first step swap b s.span (map span_of ss) ∙ ap (λ k. gathered step k ss) e)
