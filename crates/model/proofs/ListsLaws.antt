-- Laws of the functions on lists, in the order of specs/Lists.antt.
use Prim.Native.Nat.{ℕ, zero, suc, ◌+◌, ◌-◌, ◌≤◌, ◌<◌}
use native.Mathlib.Nat.{eq-or-lt_of_le}
use native.Mathlib.Omega.{arith}
use mathlib.Core.Path.{◌≡◌, refl, ap, sym, ◌∙◌}
use mathlib.Core.Bool.{Bool, true, false, ◌&&◌, ◌||◌, cond, and_assoc, or_assoc}
use mathlib.Core.List.Sublistᴰ
use mathlib.Core.List.{List, [], ◌∷◌, ◌++◌, append_assoc, flat_map, Sublistᴰ}
use mathlib.Core.Logic.{⊎_elim}
use Rattle.std.specs.Prelude.{Some, None}
use Rattle.std.specs.Option.{option_or}
use Rattle.model.proofs.OptionLaws.{some-ne-none}
use lib.ListN.{length}
use Rattle.model.specs.Lists.{all_of, any_of, is_empty, keep, first, up_from, from_to}
use Rattle.model.proofs.TestsLaws.{both_true}

-- ---- flat_map

pub flat_map-append : {A B : Type 0} (f : A → List B) (xs ys : List A) → flat_map f (xs ++ ys) ≡ flat_map f xs ++ flat_map f ys
unfolding flat_map
flat_map-append f [] ys = refl
flat_map-append f (x ∷ xs) ys = ap (λ zs. f x ++ zs) (flat_map-append f xs ys) ∙ sym (append_assoc (f x) (flat_map f xs) (flat_map f ys))

-- ---- all, any

pub all_append : {A : Type 0} (p : A → Bool) (xs ys : List A) → all_of p (xs ++ ys) ≡ (all_of p xs && all_of p ys)
unfolding all_of
all_append p [] ys = refl
all_append p (x ∷ xs) ys = ap (λ b. p x && b) (all_append p xs ys) ∙ sym (and_assoc (p x) (all_of p xs) (all_of p ys))

pub all_split : {A : Type 0} (p : A → Bool) (xs ys : List A) → all_of p (xs ++ ys) ≡ true → (all_of p xs ≡ true) × (all_of p ys ≡ true)
all_split p xs ys e = both_true (all_of p xs) (all_of p ys) (sym (all_append p xs ys) ∙ e)

pub any_append : {A : Type 0} (p : A → Bool) (xs ys : List A) → any_of p (xs ++ ys) ≡ (any_of p xs || any_of p ys)
unfolding any_of
any_append p [] ys = refl
any_append p (x ∷ xs) ys = ap (λ b. p x || b) (any_append p xs ys) ∙ sym (or_assoc (p x) (any_of p xs) (any_of p ys))

-- ---- is_empty

pub is_empty-append : {A : Type 0} (xs ys : List A) → is_empty (xs ++ ys) ≡ (is_empty xs && is_empty ys)
unfolding is_empty
is_empty-append [] ys = refl
is_empty-append (x ∷ xs) ys = refl

-- ---- keep

pub length-keep : {A : Type 0} (p : A → Bool) (xs : List A) → length (keep p xs) ≤ length xs
unfolding keep
length-keep p [] = omega arith
length-keep p (x ∷ xs) = at (p x) (length-keep p xs)
  where
    at : (b : Bool) → length (keep p xs) ≤ length xs → length (cond b (x ∷ keep p xs) (keep p xs)) ≤ suc (length xs)
    at true h = omega arith
    at false h = omega arith

-- ---- first

pub first-append : {A : Type 0} (p : A → Bool) (xs ys : List A) → first p (xs ++ ys) ≡ option_or (first p xs) (first p ys)
unfolding first
first-append p [] ys = refl
first-append p (x ∷ xs) ys = at (p x) (first-append p xs ys)
  where
    at : (b : Bool) → first p (xs ++ ys) ≡ option_or (first p xs) (first p ys) → cond b (Some x) (first p (xs ++ ys)) ≡ option_or (cond b (Some x) (first p xs)) (first p ys)
    at true e = refl
    at false e = e

module _ {A : Type 0} (p : A → Bool) where
  pub first-none : (x : A) (xs : List A) → first p (x ∷ xs) ≡ None → (p x ≡ false) × (first p xs ≡ None)
  unfolding first
  first-none x xs e = at (p x) e
    where
      at : (b : Bool) → cond b (Some x) (first p xs) ≡ None → (b ≡ false) × (first p xs ≡ None)
      at true e' = absurd (some-ne-none x e')
      at false e' = (refl, e')

-- ---- up_from, range

pub length-up_from : (a n : ℕ) → length (up_from a n) ≡ n
unfolding up_from
length-up_from a zero = refl
length-up_from a (suc n) = ap suc (length-up_from (a + 1) n)

pub up_from-snoc : (a n : ℕ) → up_from a (suc n) ≡ up_from a n ++ (a + n) ∷ []
unfolding up_from
up_from-snoc a zero = let e : a ≡ a + 0 = omega arith in ap (λ k. k ∷ []) e
up_from-snoc a (suc n) =
    let e : a + 1 + n ≡ a + suc n = omega arith in
    ap (λ l. a ∷ l) (up_from-snoc (a + 1) n ∙ ap (λ k. up_from (a + 1) n ++ k ∷ []) e)

up_from-append : (a m n : ℕ) → up_from a (m + n) ≡ up_from a m ++ up_from (a + m) n
unfolding up_from
up_from-append a zero n = let e : a + 0 ≡ a = omega arith in let f : 0 + n ≡ n = omega arith in rw (e, f)
up_from-append a (suc m) n =
    let e : suc m + n ≡ suc (m + n) = omega arith in
    let f : a + suc m ≡ a + 1 + m = omega arith in
    rw (e, f) (ap (λ l. a ∷ l) (up_from-append (a + 1) m n))

pub length-range : (a b : ℕ) → length (from_to a b) ≡ b + 1 - a
unfolding from_to
length-range a b = length-up_from a (b + 1 - a)

pub range_empty : (a b : ℕ) → b < a → from_to a b ≡ []
unfolding from_to up_from
range_empty a b h = let e : b + 1 - a ≡ 0 = omega arith in rw e

pub range_cons : (a b : ℕ) → a ≤ b → from_to a b ≡ a ∷ from_to (a + 1) b
unfolding from_to up_from
range_cons a b h = let e : b + 1 - a ≡ suc (b + 1 - (a + 1)) = omega arith in rw e

pub range-append : (a b c : ℕ) → a ≤ b + 1 → b ≤ c → from_to a c ≡ from_to a b ++ from_to (b + 1) c
unfolding from_to
range-append a b c h k =
    let e : c + 1 - a ≡ (b + 1 - a) + (c + 1 - (b + 1)) = omega arith in
    let f : a + (b + 1 - a) ≡ b + 1 = omega arith in
    ap (up_from a) e ∙ up_from-append a (b + 1 - a) (c + 1 - (b + 1)) ∙ ap (λ i. up_from a (b + 1 - a) ++ up_from i (c + 1 - (b + 1))) f

-- ---- first, over a range: what a search from a up finds

module _ (p : ℕ → Bool) where
  pub first-range_empty : (a b : ℕ) → b < a → first p (from_to a b) ≡ None
  unfolding first
  first-range_empty a b h = rw (range_empty a b h)

  pub first-range-here : (a b : ℕ) → a ≤ b → p a ≡ true → first p (from_to a b) ≡ Some a
  unfolding first
  first-range-here a b h e = rw (range_cons a b h, e)

  pub first-range-later : (a b : ℕ) → a ≤ b → p a ≡ false → first p (from_to a b) ≡ first p (from_to (a + 1) b)
  unfolding first
  first-range-later a b h e = rw (range_cons a b h, e)

  none_here : (a b : ℕ) → a ≤ b → first p (from_to a b) ≡ None → p a ≡ false
  none_here a b h e = (first-none p a (from_to (a + 1) b) (ap (first p) (sym (range_cons a b h)) ∙ e)).0

  -- where the search finds nothing, nothing passes
  pub first-range-none : (a b : ℕ) → first p (from_to a b) ≡ None → (i : ℕ) → a ≤ i → i ≤ b → p i ≡ false
  first-range-none a b e i h k = go (b + 1 - a) a (omega arith) e h
    where
      go : (n a : ℕ) → b + 1 ≤ a + n → first p (from_to a b) ≡ None → a ≤ i → p i ≡ false
      go zero a m e h = absurd (omega arith)
      go (suc n) a m e h =
          let here = none_here a b (omega arith) e in
          ⊎_elim (λ q. ap p (sym q) ∙ here) (λ q. go n (a + 1) (omega arith) (sym (first-range-later a b (omega arith) here) ∙ e) (omega arith)) (eq-or-lt_of_le h)

  -- and where nothing passes, it finds nothing
  pub range-first-none : (a b : ℕ) → ((i : ℕ) → a ≤ i → i ≤ b → p i ≡ false) → first p (from_to a b) ≡ None
  unfolding first from_to up_from
  range-first-none a b h = go (b + 1 - a) a (λ i k l. h i k (omega arith))
    where
      go : (n a : ℕ) → ((i : ℕ) → a ≤ i → i < a + n → p i ≡ false) → first p (up_from a n) ≡ None
      go zero a h = refl
      go (suc n) a h = let e = h a (omega arith) (omega arith) in rw e (go n (a + 1) (λ i k l. h i (omega arith) (omega arith)))

  -- what it finds passes, and nothing before it does
  pub first-range-some : (a b i : ℕ) → first p (from_to a b) ≡ Some i → (a ≤ i) × (i ≤ b) × (p i ≡ true) × ((j : ℕ) → a ≤ j → j < i → p j ≡ false)
  unfolding first from_to up_from
  first-range-some a b i e = let f = go (b + 1 - a) a e in (f.0, omega (arith, f.1), f.2, f.3)
    where
      FoundIn : ℕ → ℕ → Type 0
      FoundIn a n = (a ≤ i) × (i < a + n) × (p i ≡ true) × ((j : ℕ) → a ≤ j → j < i → p j ≡ false)

      at : (n a : ℕ) → (first p (up_from (a + 1) n) ≡ Some i → FoundIn (a + 1) n) → (t : Bool) → p a ≡ t → cond t (Some a) (first p (up_from (a + 1) n)) ≡ Some i
          → FoundIn a (suc n)
      at n a later true h e = let same : a ≡ i = cc in (omega arith, omega arith, ap p (sym same) ∙ h, λ j k l. absurd (omega arith))
      at n a later false h e =
          let f = later e in
          (omega (arith, f.0), omega (arith, f.1), f.2, λ j k l. ⊎_elim (λ q. ap p (sym q) ∙ h) (λ q. f.3 j (omega arith) l) (eq-or-lt_of_le k))

      go : (n a : ℕ) → first p (up_from a n) ≡ Some i → FoundIn a n
      go zero a e = absurd (some-ne-none i (sym e))
      go (suc n) a e = at n a (go n (a + 1)) (p a) refl e

-- ---- Sublistᴰ xs ys: xs is ys with some elements left out

pub length_sublist : {A : Type 0} {xs ys : List A} → Sublistᴰ xs ys → length xs ≤ length ys
length_sublist Sublistᴰ.slnil = omega arith
length_sublist (Sublistᴰ.cons d) = let h = length_sublist d in omega arith
length_sublist (Sublistᴰ.cons-cons e d) = let h = length_sublist d in omega arith

pub sublist_append : {A : Type 0} {xs ys : List A} (zs : List A) → Sublistᴰ xs ys → Sublistᴰ xs (ys ++ zs)
sublist_append zs Sublistᴰ.slnil = Sublistᴰ.nil-sublist zs
sublist_append zs (Sublistᴰ.cons d) = Sublistᴰ.cons (sublist_append zs d)
sublist_append zs (Sublistᴰ.cons-cons e d) = Sublistᴰ.cons-cons e (sublist_append zs d)

-- where none of a list passes, none of a sublist does
pub first_sublist : {A : Type 0} {xs ys : List A} (p : A → Bool) → Sublistᴰ xs ys → first p ys ≡ None → first p xs ≡ None
unfolding first
first_sublist p Sublistᴰ.slnil h = h
first_sublist p (Sublistᴰ.cons {a = y} {l₂ = ys} d) h = first_sublist p d (first-none p y ys h).1
first_sublist p (Sublistᴰ.cons-cons {b = y} {l₂ = ys} e d) h = let at = first-none p y ys h in rw (e, at.0) (first_sublist p d at.1)
