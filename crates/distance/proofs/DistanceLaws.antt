-- Two spans are in the order of the numbers that they are written as, and their distance is told from these numbers.
use Prim.Native.Nat.{ℕ, ◌<◌, ◌≤◌}
use native.Mathlib.Omega.{arith}
use mathlib.Core.Bool.{Bool, true, false, ◌&&◌, ◌||◌}
use mathlib.Core.List.{List, [], ◌∷◌, map}
use mathlib.Core.Path.{◌≡◌, refl, ap, ap₂, sym, ◌∙◌}
use borrow.Author.Tests.{ltb-true, ltb-false, leb-true, leb-false, eqb-true, eqb-false, le-leb, lt-leb}
use lib.Dec.{leb, ltb, eqb}
use Rattle.model.specs.AllStrings.{AllStrs}
use Rattle.model.specs.Answers.{span_of}
use Rattle.model.specs.Limits.{radix}
use Rattle.model.specs.Lists.{Every, neighbours}
use Rattle.model.specs.Matches.{Str}
use Rattle.model.specs.Rules.{not_after, between, distance_of, within}
use Rattle.model.proofs.LimitsLaws.{upper_half, lower_half}
use Rattle.distance.specs.Sorting.{spans_within}
use Rattle.strings.specs.Strings.{str_of}
use Rattle.strings.proofs.StringsLaws.{span_of-str_of}

-- ---- not_after, distance_of

-- spans are in order just where their numbers are
pub not_after-span_of : (s t : Str) → s.end < radix → t.end < radix → not_after s t ≡ leb (span_of s) (span_of t)
not_after-span_of s t h k = at (ltb s.start t.start) refl (eqb s.start t.start) refl (leb s.end t.end) refl
  where
    at : (p : Bool) → ltb s.start t.start ≡ p → (q : Bool) → eqb s.start t.start ≡ q → (r : Bool) → leb s.end t.end ≡ r
        → (p || q && r) ≡ leb (span_of s) (span_of t)
    at true e q f r g = sym (le-leb (span_of s) (span_of t) (omega (arith, ltb-true)))
    at false e true f true g = sym (le-leb (span_of s) (span_of t) (omega (arith, eqb-true, leb-true)))
    at false e true f false g = sym (lt-leb (span_of s) (span_of t) (omega (arith, eqb-true, leb-false)))
    at false e false f r g = sym (lt-leb (span_of s) (span_of t) (omega (arith, ltb-false, eqb-false s.start t.start f)))

module _ (a b t u : ℕ) where
  pub not_after-str_of : not_after (str_of a t) (str_of b u) ≡ leb a b
  not_after-str_of = not_after-span_of (str_of a t) (str_of b u) (omega arith) (omega arith) ∙ ap₂ leb (span_of-str_of a t) (span_of-str_of b u)

  pub distance_of-rising : a ≤ b → between (str_of a 0) (str_of b 0) ≡ distance_of (str_of a t) (str_of b u)
  distance_of-rising h = rw (not_after-str_of ∙ le-leb a b h)

  pub distance_of_falling : b < a → between (str_of b 0) (str_of a 0) ≡ distance_of (str_of a t) (str_of b u)
  distance_of_falling h = rw (not_after-str_of ∙ lt-leb a b h)

-- ---- neighbours

-- a list's neighbours, and those of a list made of it
neighbours-map : {A B : Type 0} (P : A → Type 0) (f : A → B) (q : A → A → Bool) (r : B → B → Bool) → ((x y : A) → P x → P y → r (f x) (f y) ≡ q x y)
    → (xs : List A) → Every P xs → neighbours r (map f xs) ≡ neighbours q xs
unfolding neighbours Every
neighbours-map P f q r h [] a = refl
neighbours-map P f q r h (x ∷ []) a = refl
neighbours-map P f q r h (x ∷ y ∷ ys) a = ap₂ ◌&&◌ (h x y a.0 a.1.0) (neighbours-map P f q r h (y ∷ ys) a.1)

distance_of-span_of : (s t : Str) → s.end < radix → t.end < radix → distance_of (str_of (span_of s) 0) (str_of (span_of t) 0) ≡ distance_of s t
distance_of-span_of s t h k = rw (upper_half s.start s.end h, lower_half s.start s.end h, upper_half t.start t.end k, lower_half t.start t.end k)

-- the test on strings, made on their spans
pub neighbours-span_of : (least most : ℕ) (ss : List Str) → AllStrs (λ s. s.end < radix) ss
    → neighbours (spans_within least most) (map span_of ss) ≡ neighbours (λ s t. within least most (distance_of s t)) ss
neighbours-span_of least most ss a = neighbours-map _ span_of _ _ (λ s t h k. ap (within least most) (distance_of-span_of s t h k)) ss a
