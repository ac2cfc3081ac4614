-- Words stand in a row where the first does and the rest stand after it.
use Prim.Native.Nat.{ℕ, zero, suc, ◌+◌, ◌≤◌, ◌<◌}
use native.Mathlib.Nat.{zero-add}
use native.Mathlib.Numerals.{add-one}
use native.Mathlib.Omega.{arith}
use mathlib.Core.Path.{◌≡◌, refl, sym, ap, ◌∙◌}
use mathlib.Core.Bool.{Bool, true, false, ◌&&◌, and-false, and-true}
use mathlib.Core.List.{List, [], ◌∷◌}
use borrow.Author.Tests.{leb-true, le-leb, eq-eqb, ne_eqb, eqb-true, eqb-false}
use lib.Dec.{leb, eqb}
use lib.ListN.{length, drop, get_or}
use lib.Seq.{drop-cons}
use Rattle.model.specs.Rules.{stand_from}
use Rattle.model.specs.Families.{Searched}
use Rattle.std.specs.Bool.{MatchBool}
use Rattle.std.specs.List.{AllWithin, HoldsAt, range_with_len}
use Rattle.std.proofs.lemmas.List.FromFn.{get_or-range_with_len, length-range_with_len}

-- more words than tokens from p on
pub stands_beyond : (s : Searched) (words : List ℕ) (p : ℕ) → p ≤ s.section.tokens + 1 → s.section.tokens + 1 < p + length words → false ≡ stand_from s words p
unfolding stand_from
stands_beyond s [] p h k = absurd (omega arith)
stands_beyond s (w ∷ ws) p h k = at (leb p s.section.tokens) refl (λ l. stands_beyond s ws (p + 1) (omega arith) (omega arith))
  where
    at : (t : Bool) → leb p s.section.tokens ≡ t → (p ≤ s.section.tokens → false ≡ stand_from s ws (p + 1)) → false ≡ (t && s.fits (s.section.word p) w && stand_from s ws (p + 1))
    at true e later = rw (sym (later (leb-true p s.section.tokens e))) (sym (and-false (s.fits (s.section.word p) w)))
    at false e later = refl

module _ (s : Searched) (words : List ℕ) (i p : ℕ) where
  module _ (h : i < length words) where
    stands-more : stand_from s (drop i words) p ≡ (leb p s.section.tokens && s.fits (s.section.word p) (get_or words i 0) && stand_from s (drop (i + 1) words) (p + 1))
    unfolding stand_from
    stands-more = ap (λ ws. stand_from s ws p) (drop-cons words i 0 h ∙ ap (λ j. get_or words i 0 ∷ drop j words) (sym (add-one i)))

    module _ (k : p ≤ s.section.tokens) where
      -- the word doesn't fit there
      pub stands-not : s.fits (s.section.word p) (get_or words i 0) ≡ false → false ≡ stand_from s (drop i words) p
      stands-not e = sym (stands-more ∙ rw (le-leb p s.section.tokens k, e))

-- a row whose rest doesn't stand doesn't stand
pub stands-rest : (s : Searched) (words : List ℕ) (i p : ℕ) → stand_from s (drop i words) (p + i) ≡ false → stand_from s words p ≡ false
unfolding stand_from
stands-rest s words zero p e = let same : p + 0 ≡ p = omega arith in ap (stand_from s words) (sym same) ∙ e
stands-rest s [] (suc i) p e = e
stands-rest s (w ∷ ws) (suc i) p e =
    let next : p + suc i ≡ p + 1 + i = omega arith in
    let later = stands-rest s ws i (p + 1) (ap (stand_from s (drop i ws)) (sym next) ∙ e) in
    rw later (and-false (leb p s.section.tokens && s.fits (s.section.word p) w))

-- the word number i doesn't fit in its place
pub stands_without : (s : Searched) (words : List ℕ) (p i : ℕ) → i < length words → p + length words ≤ s.section.tokens + 1
    → s.fits (s.section.word (p + i)) (get_or words i 0) ≡ false → stand_from s words p ≡ false
stands_without s words p i h k other = stands-rest s words i p (sym (stands-not s words i (p + i) h (omega arith) other))

-- no word at all
pub stands-empty : (s : Searched) (words : List ℕ) (p : ℕ) → length words ≡ 0 → stand_from s words p ≡ true
unfolding stand_from
stands-empty s [] p e = refl
stands-empty s (w ∷ ws) p e = absurd (omega arith)

-- one word
pub stands_one : (s : Searched) (words : List ℕ) (p : ℕ) → length words ≡ 1 → p ≤ s.section.tokens → s.fits (s.section.word p) (get_or words 0 0) ≡ stand_from s words p
unfolding stand_from
stands_one s [] p e h = absurd (omega arith)
stands_one s (w ∷ []) p e h = rw (le-leb p s.section.tokens h) (sym (and-true (s.fits (s.section.word p) w)))
stands_one s (w ∷ v ∷ ws) p e h = absurd (omega arith)

-- each word fits in its place
pub stands_each : (s : Searched) (words : List ℕ) (p : ℕ) → p + length words ≤ s.section.tokens + 1
    → ((i : ℕ) → i < length words → s.fits (s.section.word (p + i)) (get_or words i 0) ≡ true) → stand_from s words p ≡ true
unfolding stand_from
stands_each s [] p h each = refl
stands_each s (w ∷ ws) p h each =
    let here : p + 0 ≡ p = omega arith in
    let first : s.fits (s.section.word p) w ≡ true = ap (λ (q : ℕ). s.fits (s.section.word q) w) (sym here) ∙ each 0 (omega arith) in
    let rest = stands_each s ws (p + 1) (omega arith) (λ i l. let q : p + 1 + i ≡ p + suc i = omega arith in ap (λ (q : ℕ). s.fits (s.section.word q) (get_or ws i 0)) q ∙ each (suc i) (omega arith)) in
    rw (le-leb p s.section.tokens (omega arith), first, rest)

pub eqb-sym : (a b : ℕ) → eqb a b ≡ eqb b a
eqb-sym a b = at (eqb b a) refl
  where
    at : (t : Bool) → eqb b a ≡ t → eqb a b ≡ t
    at true e = eq-eqb a b (sym (eqb-true b a e))
    at false e = ne_eqb a b (λ f. eqb-false b a e (sym f))

-- as told of all words by their numbers
pub stands_all : (s : Searched) (words : List ℕ) (p : ℕ) (r : Bool) → p + length words ≤ s.section.tokens + 1
    → MatchBool r (AllWithin (λ i. s.fits (s.section.word (p + i)) (get_or words i 0) ≡ true) (range_with_len 0 (length words)) 0 (length (range_with_len 0 (length words))))
    ((i : ℕ) × (i < length (range_with_len 0 (length words))) × HoldsAt (λ i. s.fits (s.section.word (p + i)) (get_or words i 0) ≡ false) (range_with_len 0 (length words)) i)
    → r ≡ stand_from s words p
stands_all s words p true h all =
    sym (stands_each s words p h (λ i l.
    let same : get_or (range_with_len 0 (length words)) i 0 ≡ i = get_or-range_with_len 0 (length words) i 0 l ∙ zero-add i in
    rw same at (all i 0 (omega arith) (omega (arith, length-range_with_len 0 (length words))))))
stands_all s words p false h one =
    let i = one.0 in
    let l : i < length words = omega (arith, one.1, length-range_with_len 0 (length words)) in
    let same : get_or (range_with_len 0 (length words)) i 0 ≡ i = get_or-range_with_len 0 (length words) i 0 l ∙ zero-add i in
    sym (stands_without s words p i l h (rw same at (one.2 0)))
