-- The codes that a text derives are those that document 01 reads in their selection: each is made again of its numbers, since no number is too large.
use Prim.Native.Nat.{ℕ, zero, suc, ◌+◌, ◌≤◌, ◌<◌}
use native.Mathlib.Omega.{arith}
use mathlib.Core.List.{List, [], ◌∷◌, ◌++◌, map}
use mathlib.Core.Path.{◌≡◌, refl, sym, ap, ap₂, ◌∙◌}
use lib.ListN.{length, get_or, take, length-map, get_or-append, get_or-map}
use lib.Seq.{take-suc, take_all, get_or-append-add}
use Rattle.model.specs.declared.Code.{Code}
use Rattle.model.specs.declared.Code.TheVariants.{Word, Filter as Filtered, Occurs}
use Rattle.model.specs.declared.Filter.{Filter}
use Rattle.model.specs.declared.Times.{Times}
use Rattle.model.specs.Limits.{max_number, radix}
use Rattle.model.specs.Lists.{Every}
use Rattle.model.specs.Parts.{most_of}
use Rattle.model.specs.Productions.{Words, no_word, word_more, FTWords, quoted, FTRange, range_exactly, range_least, range_most, range_from_to, FTTimes, times, FTPosFilter, ordered, window, distance, same_sentence, same_paragraph, different_sentence, different_paragraph, at_start, at_end, entire_content, FTSelection, selection_or, selection_filter, or_and, or_more, and_mild, and_more, mild_unary, mild_more, unary_primary, unary_not, phrase, phrase_times, nested}
use Rattle.model.specs.Selection.{code_at, code_of, kind_of, operand_of, up_to}
use Rattle.model.specs.Tokens.{Token}
use Rattle.model.specs.Typed.{selection_of}
use Rattle.model.proofs.EveryLaws.{every_append}
use Rattle.model.proofs.SelectionLaws.{code_code}

-- ---- no number is too large

abbrev Small : Code → Type 0
Small c = most_of c < radix

abbrev AllSmall : List Code → Type 0
AllSmall cs = Every Small cs

words_small : {k : ℕ} {ts : List Token} {cs : List Code} → Words k ts cs → AllSmall cs
unfolding Every
words_small no_word = tt
words_small (word_more n w) = (omega arith, words_small w)

module _ {A : Type 0} (code : A → Code) {least : ℕ → A} {between : ℕ → ℕ → A} (small_least : (n : ℕ) → n ≤ max_number → Small (code (least n)))
    (small-between : (m n : ℕ) → m ≤ max_number → n ≤ max_number → Small (code (between m n))) where
  range_small : {ts : List Token} {x : A} → FTRange least between ts x → Small (code x)
  range_small (range_exactly b n) = small-between _ _ n.within n.within
  range_small (range_least b c n) = small_least _ n.within
  range_small (range_most b c n) = small-between _ _ (omega arith) n.within
  range_small (range_from_to b m c n) = small-between _ _ m.within n.within

times-small : {ts : List Token} {k : Times} → FTTimes ts k → Small (Occurs k)
times-small (times a r z) = range_small Occurs (λ n h. omega arith) (λ m n g h. omega arith) r

filter-small : {ts : List Token} {f : Filter} → FTPosFilter ts f → Small (Filtered f)
filter-small (ordered a) = omega arith
filter-small (window a n z) = omega arith
filter-small (distance a r z) = range_small Filtered (λ n h. omega arith) (λ m n g h. omega arith) r
filter-small (same_sentence a b) = omega arith
filter-small (same_paragraph a b) = omega arith
filter-small (different_sentence a b) = omega arith
filter-small (different_paragraph a b) = omega arith
filter-small (at_start a b) = omega arith
filter-small (at_end a b) = omega arith
filter-small (entire_content a b) = omega arith

one_more : (cs : List Code) (c : Code) → AllSmall cs → Small c → AllSmall (cs ++ (c ∷ []))
unfolding Every
one_more cs c h k = every_append Small cs (c ∷ []) h (k, tt)

both-more : (cs ds : List Code) (c : Code) → AllSmall cs → AllSmall ds → Small c → AllSmall (cs ++ (ds ++ (c ∷ [])))
both-more cs ds c g h k = every_append Small cs (ds ++ (c ∷ [])) g (one_more ds c h k)

phrase-small : {ts : List Token} {cs : List Code} → FTWords ts cs → AllSmall cs
phrase-small (quoted q w l m r) = one_more _ _ (words_small w) (omega arith)

selection-small : {ts : List Token} {cs : List Code} → FTSelection ts cs → AllSmall cs
selection-small d =
    elim d as (λ ts cs x. AllSmall cs) (λ ts cs x. AllSmall cs) (λ ts cs x. AllSmall cs) (λ ts cs x. AllSmall cs) (λ ts cs x. AllSmall cs) (λ ts cs x. AllSmall cs) [
      | selection_or (d → g) ↦ g
      | selection_filter (d → g) f ↦ one_more _ _ g (filter-small f)
      | or_and (d → g) ↦ g
      | or_more (d → g) w (e → h) ↦ both-more _ _ _ g h (omega arith)
      | and_mild (d → g) ↦ g
      | and_more (d → g) w (e → h) ↦ both-more _ _ _ g h (omega arith)
      | mild_unary (d → g) ↦ g
      | mild_more (d → g) w i (e → h) ↦ both-more _ _ _ g h (omega arith)
      | unary_primary (d → g) ↦ g
      | unary_not w (d → g) ↦ one_more _ _ g (omega arith)
      | phrase w ↦ phrase-small w
      | phrase_times w t ↦ one_more _ _ (phrase-small w) (times-small t)
      | nested q (d → g) r ↦ g
    ]

-- ---- the selection's codes

-- what stands past the end: its numbers are 0
abbrev none : Code
none = Word 0

small_at : (cs : List Code) (i : ℕ) → AllSmall cs → i < length cs → Small (get_or cs i none)
unfolding Every
small_at [] i a h = absurd (omega arith)
small_at (c ∷ cs) zero a h = a.0
small_at (c ∷ cs) (suc i) a h = small_at cs i a.1 (omega arith)

module _ (cs : List Code) (a : AllSmall cs) where
  code_at_lem : (i : ℕ) → i < length cs → code_at (selection_of cs) (suc i) ≡ get_or cs i none
  unfolding selection_of
  code_at_lem i h =
      let n = length cs in
      let kinds = map kind_of cs in
      let operands = map operand_of cs in
      let kind : get_or (kinds ++ operands) i 0 ≡ kind_of (get_or cs i none) = get_or-append kinds operands 0 i (omega (arith, length-map cs kind_of)) ∙ get_or-map kind_of cs i none in
      let there : n + i ≡ length kinds + i = ap (λ k. k + i) (sym (length-map cs kind_of)) in
      let operand : get_or (kinds ++ operands) (n + i) 0 ≡ operand_of (get_or cs i none)
      = ap (λ k. get_or (kinds ++ operands) k 0) there ∙ get_or-append-add kinds operands i 0 ∙ get_or-map operand_of cs i none in
      let place : n + suc i ≡ suc (n + i) = omega arith in
      ap₂ code_of kind (ap (λ k. get_or (n ∷ (kinds ++ operands)) k 0) place ∙ operand) ∙ code_code (get_or cs i none) (small_at cs i a h)

  up_to-codes : (n : ℕ) → n ≤ length cs → up_to (code_at (selection_of cs)) n ≡ take n cs
  unfolding up_to
  up_to-codes zero h = refl
  up_to-codes (suc n) h = ap₂ (λ l c. l ++ c ∷ []) (up_to-codes n (omega arith)) (code_at_lem n (omega arith)) ∙ sym (take-suc cs n none (omega arith))

  codes-spelled : up_to (code_at (selection_of cs)) (length cs) ≡ cs
  codes-spelled = up_to-codes (length cs) (omega arith) ∙ take_all (length cs) cs (omega arith)

pub derived_spelled : {ts : List Token} {cs : List Code} → FTSelection ts cs → up_to (code_at (selection_of cs)) (length cs) ≡ cs
derived_spelled {cs = cs} d = codes-spelled cs (selection-small d)
