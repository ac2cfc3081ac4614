-- A mild not over a not is told at the place where its part ends: by its code, and by the codes of the part.
use Prim.Native.Nat.{ℕ}
use mathlib.Core.Path.{◌≡◌, refl, sym, ap, ◌∙◌}
use mathlib.Core.Bool.{Bool, true, false, ◌&&◌, or-false}
use mathlib.Core.List.{[], ◌∷◌, ◌++◌}
use Rattle.model.specs.declared.Pair.TheVariants.{Or, And, MildNot}
use Rattle.model.specs.Checks.{is_not, mild_over_not}
use Rattle.model.specs.Kinds.{Shape, a_word, a_phrase, a_pair, a_change, is_word}
use Rattle.model.specs.Lists.{any_of}
use Rattle.model.specs.Parts.{is_not_code, is_mild_not, postfix, PartAt, part_start}
use Rattle.model.specs.Trees.{Tree, pair, parts}
use Rattle.model.proofs.BuildLaws.{part_codes_lem}
use Rattle.model.proofs.ChecksLaws.{has_not_lem}
use Rattle.model.proofs.ListsLaws.{any_append}
use Rattle.model.proofs.PartsLaws.{word_at, pair-at, change-at, phrase-at}
use Rattle.model.proofs.TestsLaws.{both_true, false-true}
use Rattle.selection.specs.PartCodes.{part_codes}

mild_tree : (c : ℕ) (t u : Tree) → mild_over_not (pair MildNot c t u) ≡ any_of is_not_code (postfix (pair MildNot c t u))
unfolding parts any_of
mild_tree c t u =
    sym (any_append is_not (parts t ++ parts u) (pair MildNot c t u ∷ []) ∙ or-false (any_of is_not (parts t ++ parts u)) ∙ any_append is_not (parts t) (parts u))
    ∙ has_not_lem (pair MildNot c t u)

mild_part : (at : ℕ → Shape) (hi : ℕ) (w : PartAt at hi) (code : Shape) → at hi ≡ code → mild_over_not w.tree ≡ (is_mild_not code && any_of is_not_code (postfix w.tree))
mild_part at hi w (a_word v) e = word_at at hi w v e
mild_part at hi w (a_phrase k) e = ap mild_over_not (phrase-at at hi w k e).is
mild_part at hi w (a_pair Or) e = ap mild_over_not (pair-at at hi w Or _ refl e).is
mild_part at hi w (a_pair And) e = ap mild_over_not (pair-at at hi w And _ refl e).is
mild_part at hi w (a_pair MildNot) e =
    let is = (pair-at at hi w MildNot _ refl e).is in
    ap mild_over_not is ∙ mild_tree hi _ _ ∙ ap (λ t. any_of is_not_code (postfix t)) (sym is)
mild_part at hi w (a_change k) e = ap mild_over_not (change-at at hi w k e).is

abbrev pub mild_told_at : (ℕ → Shape) → ℕ → Bool
mild_told_at at c = is_mild_not (at c) && any_of is_not_code (part_codes at c)

pub mild_told : (at : ℕ → Shape) (c : ℕ) (w : PartAt at c) → mild_over_not w.tree ≡ mild_told_at at c
unfolding part_codes
mild_told at c w = mild_part at c w (at c) refl ∙ ap (λ cs. is_mild_not (at c) && any_of is_not_code cs) (sym (part_codes_lem at c (part_start at c) w refl))

-- a mild not is no word
mild_ends : (code : Shape) → is_mild_not code ≡ true → is_word code ≡ false
mild_ends (a_word v) e = false-true e
mild_ends (a_phrase k) e = refl
mild_ends (a_pair k) e = refl
mild_ends (a_change k) e = refl

pub mild-told_ends : (at : ℕ → Shape) (c : ℕ) → mild_told_at at c ≡ true → is_word (at c) ≡ false
mild-told_ends at c e = mild_ends (at c) (both_true (is_mild_not (at c)) (any_of is_not_code (part_codes at c)) e).0
