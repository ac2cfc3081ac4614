-- 'Some element has P', of lists made of others; it and 'the first that has P' against the tests of the definitions, for a test that passes exactly where P
-- holds.
use Prim.Native.Nat.{ℕ, zero, suc, ◌+◌, ◌-◌, ◌≤◌, ◌<◌}
use native.Mathlib.Nat.{eq-or-lt_of_le}
use native.Mathlib.Omega.{arith}
use mathlib.Core.Path.{◌≡◌, refl, sym, ap, subst, ◌∙◌}
use mathlib.Core.Bool.{Bool, true, false, ◌||◌, cond, false≢true, or-true}
use mathlib.Core.List.{List, [], ◌∷◌, ◌++◌, map, flat_map, map-append, append_assoc, cons≢nil}
use mathlib.Core.Logic.Iff
use mathlib.Core.Logic.{◌↔◌, ◌⊎◌, inl, inr, ⊎_elim}
use Rattle.std.specs.Prelude.{Some, option_map}
use Rattle.model.proofs.OptionLaws.{map-eq-some_iff, none-ne-some}
use lib.Dec.{ltb}
use lib.ListN.{length}
use borrow.Author.Tests.{ltb-true, lt-ltb}
use Rattle.model.specs.AllMatches.{all_matches}
use Rattle.model.specs.Families.{searched_of}
use Rattle.model.specs.Limits.{max_matches, max_strings}
use Rattle.model.specs.Lists.{Every, any_of, is_empty, keep, first, up_from, from_to}
use Rattle.model.specs.Matches.{Str, Match, no_exclude, is_yes, strings}
use Rattle.model.specs.Trees.{Tree, place_of}
use Rattle.model.specs.Walk.{is_too_long, first_too_long}
use Rattle.model.proofs.ListsLaws.{flat_map-append, any_append}
use Rattle.model.proofs.TestsLaws.{false-true}
use Rattle.theorems.specs.Demands.{Has, FirstWith, WithoutExcludes, PastLimits}

-- ---- or

pub or_exactly : {P Q : Type 0} (a b : Bool) → (a ≡ true) ↔ P → (b ≡ true) ↔ Q → ((a || b) ≡ true) ↔ (P ⊎ Q)
or_exactly true b p q = (λ e. inl (p.0 refl), λ e. refl)
or_exactly false b p q = (λ e. inr (q.0 e), ⊎_elim (λ x. false-true (p.1 x)) q.1)

-- ---- Has, of lists made of others

module _ {A : Type 0} {P : A → Type 0} where
  pub has_left : {xs : List A} (ys : List A) → Has P xs → Has P (xs ++ ys)
  has_left ys h =
      record {
        before = h.before;
        element = h.element;
        after = h.after ++ ys;
        order = ap (◌++ ys) h.order ∙ append_assoc h.before (h.element ∷ h.after) ys;
        this = h.this;
      }

  pub has_right : (xs : List A) {ys : List A} → Has P ys → Has P (xs ++ ys)
  has_right xs h =
      record {
        before = xs ++ h.before;
        element = h.element;
        after = h.after;
        order = ap (xs ++◌) h.order ∙ sym (append_assoc xs h.before (h.element ∷ h.after));
        this = h.this;
      }

  pub every-has : (Q : A → Type 0) (xs : List A) → Every Q xs → (h : Has P xs) → Q h.element
  unfolding Every
  every-has Q xs a h = there h.before (subst (Every Q) h.order a)
    where
      there : (before : List A) → Every Q (before ++ h.element ∷ h.after) → Q h.element
      there [] b = b.0
      there (x ∷ before) b = there before b.1

pub has-map : {A B : Type 0} {P : A → Type 0} {Q : B → Type 0} (f : A → B) → ((x : A) → P x → Q (f x)) → {xs : List A} → Has P xs → Has Q (map f xs)
has-map f g h =
    record {
      before = map f h.before;
      element = f h.element;
      after = map f h.after;
      order = ap (map f) h.order ∙ map-append f h.before (h.element ∷ h.after);
      this = g h.element h.this;
    }

-- the element is among those that f makes of an element with P
pub has-flat_map : {A B : Type 0} {P : A → Type 0} {Q : B → Type 0} (f : A → List B) → ((x : A) → P x → Has Q (f x)) → {xs : List A} → Has P xs → Has Q (flat_map f xs)
unfolding flat_map
has-flat_map {Q = Q} f g h =
    subst (λ (ys : List _). Has Q (flat_map f ys)) (sym h.order)
    (subst (Has Q) (sym (flat_map-append f h.before (h.element ∷ h.after))) (has_right (flat_map f h.before) (has_left (flat_map f h.after) (g h.element h.this))))

pub has-range : (a b k : ℕ) → a ≤ k → k ≤ b → Has (λ i. i ≡ k) (from_to a b)
unfolding from_to up_from
has-range a b k h l = go (b + 1 - a) a h (omega arith)
  where
    go : (n a : ℕ) → a ≤ k → k < a + n → Has (λ i. i ≡ k) (up_from a n)
    go zero a h l = absurd (omega arith)
    go (suc n) a h l = ⊎_elim (λ e. record { before = []; element = a; after = up_from (a + 1) n; order = refl; this = e }) (λ m. has_right (a ∷ []) (go n (a + 1) (omega arith) (omega arith))) (eq-or-lt_of_le h)

pub has-keep : {A : Type 0} (p : A → Bool) {x : A} → p x ≡ true → {xs : List A} → Has (λ y. y ≡ x) xs → Has (λ y. y ≡ x) (keep p xs)
unfolding keep
has-keep {A} p {x} e h = subst (λ (ys : List A). Has (λ y. y ≡ x) (keep p ys)) (sym h.order) (go h.before)
  where
    passes : p h.element ≡ true
    passes = ap p h.this ∙ e

    at : (y : A) (before : List A) (b : Bool) → Has (λ y. y ≡ x) (keep p before) → Has (λ y. y ≡ x) (cond b (y ∷ keep p before) (keep p before))
    at y before true later = has_right (y ∷ []) later
    at y before false later = later

    go : (before : List A) → Has (λ y. y ≡ x) (keep p (before ++ h.element ∷ h.after))
    go [] = rw passes (record { before = []; element = h.element; after = keep p h.after; order = refl; this = h.this })
    go (y ∷ before) = at y (before ++ h.element ∷ h.after) (p y) (go before)

-- ---- FirstWith and Has, by a test

pub first-has : {A : Type 0} (P : A → Type 0) (xs : List A) (x : A) → FirstWith P xs x → Has P xs
first-has P xs x f = record { before = f.before; element = x; after = f.after; order = f.order; this = f.this }

module _ {A : Type 0} (p : A → Bool) (P : A → Type 0) (test : (x : A) → (p x ≡ true) ↔ P x) where
  -- ---- FirstWith

  first_found : (xs : List A) (x : A) → first p xs ≡ Some x → FirstWith P xs x
  unfolding first Every
  first_found [] x e = absurd (none-ne-some x e)
  first_found (y ∷ xs) x e = at (p y) refl e (first_found xs x)
    where
      at : (b : Bool) → p y ≡ b → cond b (Some y) (first p xs) ≡ Some x → (first p xs ≡ Some x → FirstWith P xs x) → FirstWith P (y ∷ xs) x
      at true h e' later =
          let same : y ≡ x = cc in
          record { before = []; after = xs; order = ap (λ z. z ∷ xs) same; none_before = tt; this = (test x).0 cc }
      at false h e' later =
          let f = later e' in
          record { before = y ∷ f.before; after = f.after; order = ap (λ zs. y ∷ zs) f.order; none_before = (λ q. false-true (sym h ∙ (test y).1 q), f.none_before); this = f.this }

  first_is : (before after : List A) (x : A) → Every (λ y. ¬ P y) before → P x → first p (before ++ x ∷ after) ≡ Some x
  unfolding first Every
  first_is [] after x n h = let e = (test x).1 h in rw e
  first_is (y ∷ before) after x n h = at (p y) refl (first_is before after x n.1 h)
    where
      at : (b : Bool) → p y ≡ b → first p (before ++ x ∷ after) ≡ Some x → cond b (Some y) (first p (before ++ x ∷ after)) ≡ Some x
      at true e later = absurd (n.0 ((test y).0 e))
      at false e later = later

  pub first_exactly : (xs : List A) (x : A) → (first p xs ≡ Some x) ↔ FirstWith P xs x
  first_exactly xs x = (first_found xs x, λ f. ap (first p) f.order ∙ first_is f.before f.after x f.none_before f.this)

  -- ---- Has

  any_first : (xs : List A) → any_of p xs ≡ true → (x : A) × (first p xs ≡ Some x)
  unfolding first any_of
  any_first [] e = false-true e
  any_first (x ∷ xs) e = at (p x) e (any_first xs)
    where
      at : (b : Bool) → (b || any_of p xs) ≡ true → (any_of p xs ≡ true → (y : A) × (first p xs ≡ Some y)) → (y : A) × (cond b (Some x) (first p xs) ≡ Some y)
      at true h later = (x, refl)
      at false h later = later h

  has_any : (xs : List A) → Has P xs → any_of p xs ≡ true
  unfolding any_of
  has_any xs h =
      let here = (test h.element).1 h.this in
      ap (any_of p) h.order ∙ any_append p h.before (h.element ∷ h.after) ∙ rw here (or-true (any_of p h.before))

  pub any_exactly : (xs : List A) → (any_of p xs ≡ true) ↔ Has P xs
  any_exactly xs = (λ e. let f = any_first xs e in first-has P xs f.0 ((first_exactly xs f.0).0 f.1), has_any xs)

  -- where some element has P, there is a first
  pub has_first : (xs : List A) → Has P xs → (x : A) × (first p xs ≡ Some x)
  has_first xs h = any_first xs (has_any xs h)

  -- so it is told by the first that has it
  pub any_first_exactly : (xs : List A) → (any_of p xs ≡ true) ↔ ((x : A) × FirstWith P xs x)
  any_first_exactly xs = (λ e. let f = any_first xs e in (f.0, (first_exactly xs f.0).0 f.1), λ w. (any_exactly xs).1 (first-has P xs w.0 w.1))

-- ---- WithoutExcludes

without_excludes : (m : Match) → (no_exclude m ≡ true) ↔ WithoutExcludes m
unfolding is_empty
without_excludes m = at m.excludes
  where
    at : (es : List Str) → (is_empty es ≡ true) ↔ (es ≡ [])
    at [] = (λ e. refl, λ e. refl)
    at (x ∷ es) = (λ e. false-true e, λ e. absurd (cons≢nil e))

pub yes_exists : (ms : List Match) → (is_yes ms ≡ true) ↔ Has WithoutExcludes ms
yes_exists ms = any_exactly no_exclude WithoutExcludes without_excludes ms

pub no_exists : (ms : List Match) → (is_yes ms ≡ false) ↔ (¬ Has WithoutExcludes ms)
no_exists ms = (λ e h. false≢true (sym e ∙ (yes_exists ms).1 h), λ n. at (is_yes ms) refl n)
  where
    at : (b : Bool) → is_yes ms ≡ b → ¬ Has WithoutExcludes ms → is_yes ms ≡ false
    at true e n = absurd (n ((yes_exists ms).0 e))
    at false e n = e

-- ---- PastLimits

either_less : (a b c d : ℕ) → ((ltb a b || ltb c d) ≡ true) ↔ ((a < b) ⊎ (c < d))
either_less a b c d = or_exactly (ltb a b) (ltb c d) (ltb-true a b, lt-ltb a b) (ltb-true c d, lt-ltb c d)

module _ (section families : List ℕ) where
  past_limits : (t : Tree) → (is_too_long (searched_of section families) t ≡ true) ↔ PastLimits section families t
  past_limits t = let ms = all_matches (searched_of section families) t in either_less max_matches (length ms) max_strings (strings ms)

  -- the place of the first code whose list is too long
  pub too_long_exactly : (codes : List Tree) (place : ℕ)
      → (first_too_long (searched_of section families) codes ≡ Some place) ↔ ((code : Tree) × FirstWith (PastLimits section families) codes code × (place_of code ≡ place))
  unfolding first_too_long
  too_long_exactly codes place = Iff.trans (map-eq-some_iff place_of (first (is_too_long (searched_of section families)) codes)) (there, back)
    where
      there : ((t : Tree) × (first (is_too_long (searched_of section families)) codes ≡ Some t) × (place_of t ≡ place)) → (code : Tree) × FirstWith (PastLimits section families) codes code × (place_of code ≡ place)
      there w = (w.0, (first_exactly (is_too_long (searched_of section families)) (PastLimits section families) past_limits codes w.0).0 w.1, w.2)

      back : ((code : Tree) × FirstWith (PastLimits section families) codes code × (place_of code ≡ place)) → (t : Tree) × (first (is_too_long (searched_of section families)) codes ≡ Some t) × (place_of t ≡ place)
      back w = (w.0, (first_exactly (is_too_long (searched_of section families)) (PastLimits section families) past_limits codes w.0).1 w.1, w.2)

  pub too_long_exists : (codes : List Tree) → ((place : ℕ) × (first_too_long (searched_of section families) codes ≡ Some place)) ↔ Has (PastLimits section families) codes
  unfolding first_too_long
  too_long_exists codes = (there, back)
    where
      there : ((place : ℕ) × (first_too_long (searched_of section families) codes ≡ Some place)) → Has (PastLimits section families) codes
      there w = let f = (too_long_exactly codes w.0).0 w.1 in first-has (PastLimits section families) codes f.0 f.1

      back : Has (PastLimits section families) codes → (place : ℕ) × (first_too_long (searched_of section families) codes ≡ Some place)
      back h =
          let f = has_first (is_too_long (searched_of section families)) (PastLimits section families) past_limits codes h in
          (place_of f.0, ap (option_map place_of) f.1)
