-- Phrases counted code by code, and the words of one as a part of the slice.
use Prim.Native.Nat.{ℕ, suc, ◌+◌, ◌-◌, ◌≤◌, ◌<◌}
use native.Mathlib.Omega.{arith}
use native.Mathlib.Numerals.{add-one}
use mathlib.Core.Path.{◌≡◌, sym, ap, ◌∙◌}
use mathlib.Core.List.{List, [], ◌∷◌, ◌++◌}
use lib.Dec.{eqb}
use lib.ListN.{length, take, drop}
use borrow.Author.Tests.{lt-ltb, le-ltb, le-leb, lt-leb}
use Rattle.model.specs.Kinds.{Shape, is_word, arity}
use Rattle.model.specs.Parts.{phrases_ended}
use Rattle.model.specs.Section.{size}
use Rattle.model.specs.Selection.{operand_at, up_to}
use Rattle.selection.specs.Phrases.{phrases_in, phrase_words}
use Rattle.model.proofs.TestsLaws.{cond-le}

-- ---- phrases_in

pub phrases_in-append : (xs ys : List Shape) → phrases_in (xs ++ ys) ≡ phrases_in xs + phrases_in ys
unfolding phrases_in
phrases_in-append [] ys = omega arith
phrases_in-append (x ∷ xs) ys = omega (arith, phrases_in-append xs ys)

pub phrases_ended-le : (c : Shape) → phrases_ended c ≤ 1
phrases_ended-le c = cond-le (is_word c) _ _ _ (omega arith) (cond-le (eqb (arity c) 0) _ _ _ (omega arith) (omega arith))

-- one code more
pub phrases_in-more : (at : ℕ → Shape) (c : ℕ) (code : Shape) → code ≡ at (c + 1) → (n k : ℕ) → n ≡ phrases_in (up_to at c) → k ≡ phrases_ended code
    → n + k ≡ phrases_in (up_to at (c + 1))
unfolding phrases_in up_to
phrases_in-more at c code e n k a b =
    let one : c + 1 ≡ suc c = add-one c in
    let last : phrases_ended (at (suc c)) ≡ k = ap (λ d. phrases_ended (at d)) (sym one) ∙ ap phrases_ended (sym e) ∙ sym b in
    sym (ap (λ d. phrases_in (up_to at d)) one ∙ phrases_in-append (up_to at c) (at (suc c) ∷ []) ∙ omega (arith, last, a))

-- ---- phrase_words

module _ (sel : List ℕ) (c k m : ℕ) (k_is : k ≡ operand_at sel c) where
  pub too_many : c ≤ k → [] ≡ phrase_words sel c
  unfolding phrase_words
  too_many h = rw (← k_is, le-ltb k c h)

  pub too_short : k < c → m ≡ size sel → length sel < m + c → [] ≡ phrase_words sel c
  unfolding phrase_words
  too_short h m_is l = rw (← k_is, ← m_is, lt-ltb k c h, lt-leb (m + c) (length sel) l)

  pub the_words : k < c → m ≡ size sel → m + c ≤ length sel → take (m + c - (m + c - k)) (drop (m + c - k) sel) ≡ phrase_words sel c
  unfolding phrase_words
  the_words h m_is l =
      let n : m + c - (m + c - k) ≡ k = omega arith in
      rw (n, ← k_is, ← m_is, lt-ltb k c h, le-leb (m + c) (length sel) l)
