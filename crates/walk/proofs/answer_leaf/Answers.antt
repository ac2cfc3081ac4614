-- By the code at hi: a phrase is looked for, a filter asked of its operand's matches, and every other part that the walk does not go into is built.
use mathlib.Core.Bool.{Bool}
use Prim.Native.Nat.{ℕ, ◌≤◌}
use mathlib.Core.List.{List}
use mathlib.Core.Path.{sym, ap, subst, ◌∙◌}
use lib.ListN.{length}
use Rattle.model.specs.declared.Code.{Code}
use Rattle.model.specs.Kinds.{shape_of}
use Rattle.model.specs.Walk.{answered}
use Rattle.model.specs.Limits.{max_waiting}
use Rattle.walk.specs.Steps.{goes_into}
use Rattle.walk.proofs.WalkLaws.{phrase-few, phrase_walks, leaf_builds}
use Rattle.walk.proofs.answer_leaf.Goals as goal

pub is_found-yes-requires : goal.is_found-yes-requires
is_found-yes-requires c = record { accepted_section = c.requires.in_section; accepted_families = c.requires.in_families; words_len_bound = subst (λ (ws : List ℕ). length ws ≤ max_waiting) (sym c.phrase_words-words.ensures) (phrase-few c.requires c.code_at.ensures c.in-Phrase.is) }

pub answer_filter-requires : goal.answer_filter-requires
answer_filter-requires c = record { walkable = c.requires; hi_value = sym c.code_at.ensures ∙ c.in-Filter.is }

pub returns-in-Phrase : goal.returns-in-Phrase
returns-in-Phrase c w g =
    phrase_walks
    w
    c.code_at.ensures
    c.in-Phrase.is
    c.phrase_words-words.ensures
    (λ rank. ap (λ (b : Bool). answered b 1) (c.is_found-yes.ensures rank))

pub returns-in-Filter : goal.returns-in-Filter
returns-in-Filter c w g = c.answer_filter.ensures w

pub returns-in_default : goal.returns-in_default
returns-in_default c w g =
    c.answer_built.ensures w
    ∙ leaf_builds w c.code_at.result c.code_at.ensures c.in_default.not-Phrase c.in_default.not-Filter (ap (λ (x : Code). goes_into (shape_of x)) c.code_at.ensures ∙ g)
