-- An occurs that stands over something else than a phrase is told at the place where its part ends: by its code and the one just before it, which ends
-- the thing below.
use Prim.Native.Nat.{ℕ, ◌-◌}
use mathlib.Core.Path.{◌≡◌, refl, ap, ◌∙◌}
use mathlib.Core.Bool.{Bool, true, false, not, ◌&&◌}
use Rattle.model.specs.Checks.{is_phrase, occurs_over_other}
use Rattle.model.specs.Kinds.{Shape, a_word, a_phrase, a_pair, a_change, negated, filtered, occurring, is_word}
use Rattle.model.specs.Parts.{is_occurs_code, is_phrase_code, PartAt}
use Rattle.model.proofs.PartsLaws.{word_at, pair-at, change-at, phrase-at}
use Rattle.model.proofs.TestsLaws.{both_true, false-true}

-- a part is a phrase where its code is one
phrase-part : (at : ℕ → Shape) (hi : ℕ) (w : PartAt at hi) (code : Shape) → at hi ≡ code → is_phrase w.tree ≡ is_phrase_code code
phrase-part at hi w (a_word v) e = word_at at hi w v e
phrase-part at hi w (a_phrase k) e = ap is_phrase (phrase-at at hi w k e).is
phrase-part at hi w (a_pair k) e = ap is_phrase (pair-at at hi w k _ refl e).is
phrase-part at hi w (a_change k) e = ap is_phrase (change-at at hi w k e).is

occurs-part : (at : ℕ → Shape) (hi : ℕ) (w : PartAt at hi) (code : Shape) → at hi ≡ code
    → occurs_over_other w.tree ≡ (is_occurs_code code && not (is_phrase_code (at (hi - 1))))
occurs-part at hi w (a_word v) e = word_at at hi w v e
occurs-part at hi w (a_phrase k) e = ap occurs_over_other (phrase-at at hi w k e).is
occurs-part at hi w (a_pair k) e = ap occurs_over_other (pair-at at hi w k _ refl e).is
occurs-part at hi w (a_change negated) e = ap occurs_over_other (change-at at hi w negated e).is
occurs-part at hi w (a_change (filtered f)) e = ap occurs_over_other (change-at at hi w (filtered f) e).is
occurs-part at hi w (a_change (occurring k)) e =
    let p = change-at at hi w (occurring k) e in
    ap occurs_over_other p.is ∙ ap not (phrase-part at (hi - 1) p.operand (at (hi - 1)) refl)

abbrev pub occurs_told_at : (ℕ → Shape) → ℕ → Bool
occurs_told_at at c = is_occurs_code (at c) && not (is_phrase_code (at (c - 1)))

pub occurs-told : (at : ℕ → Shape) (c : ℕ) (w : PartAt at c) → occurs_over_other w.tree ≡ occurs_told_at at c
occurs-told at c w = occurs-part at c w (at c) refl

-- an occurs is no word
occurs-ends : (code : Shape) → is_occurs_code code ≡ true → is_word code ≡ false
occurs-ends (a_word v) e = false-true e
occurs-ends (a_phrase k) e = refl
occurs-ends (a_pair k) e = refl
occurs-ends (a_change k) e = refl

pub occurs-told_ends : (at : ℕ → Shape) (c : ℕ) → occurs_told_at at c ≡ true → is_word (at c) ≡ false
occurs-told_ends at c e = occurs-ends (at c) (both_true (is_occurs_code (at c)) (not (is_phrase_code (at (c - 1)))) e).0
