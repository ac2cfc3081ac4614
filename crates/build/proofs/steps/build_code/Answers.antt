-- In each arm the trees that wait give the lists that the rule takes, and the tree that then waits has the rule's list.
use Rattle.build.proofs.CodesLaws.{phrase-few, phrase-rank, phrase-taken, phrase-after, pair-taken, pair-after}
use Rattle.build.proofs.CodesLaws.{change-taken, change-after, occurs-taken, occurs-after, word_after}
use Rattle.model.specs.declared.Code.TheVariants.{Filter as Filtered, Occurs}
use Rattle.model.specs.Kinds.{shape_of, negated, filtered}
use mathlib.Core.Path.{ap, ◌∙◌}
use Rattle.build.proofs.steps.build_code.Goals as goal

pub build_phrase-requires : goal.build_phrase-requires
build_phrase-requires c =
    let ws = c.phrase_words-words.ensures ∙ c.requires.words c.in-Phrase.field-0 c.in-Phrase.is in
    let s = ap shape_of c.in-Phrase.is in
    let w = c.requires.waits in
    record { accepted_section = w.accepted; accepted_families = w.accepted_families; words_len_bound = phrase-few c.in-Phrase.field-0 s _ ws w; rank_le_max_phrases = phrase-rank c.in-Phrase.field-0 s _ ws w; none_taken = phrase-taken c.in-Phrase.field-0 s _ ws w }

pub build_pair-requires : goal.build_pair-requires
build_pair-requires c =
    pair-taken c.in-Combine.pair (ap shape_of c.in-Combine.is) c.requires.waits

pub build_not-requires : goal.build_not-requires
build_not-requires c = change-taken negated (ap shape_of c.in-Not.is) c.requires.waits

pub build_filter-requires : goal.build_filter-requires
build_filter-requires c = record { by_index = λ n q. c.requires.window n (c.in-Filter.is ∙ ap Filtered q); one_taken = change-taken (filtered c.in-Filter.filter) (ap shape_of c.in-Filter.is) c.requires.waits }

pub build_occurs-requires : goal.build_occurs-requires
build_occurs-requires c = record { by_index = λ a b q. c.requires.times a b (c.in-Occurs.is ∙ ap Occurs q); finds_taken = occurs-taken c.in-Occurs.times (ap shape_of c.in-Occurs.is) c.requires.waits }

pub returns-in-Word : goal.returns-in-Word
returns-in-Word c w = word_after c.in-Word.field-0 (ap shape_of c.in-Word.is) w.waits

pub returns-in-Phrase : goal.returns-in-Phrase
returns-in-Phrase c w =
    phrase-after c.in-Phrase.field-0 (ap shape_of c.in-Phrase.is) _ (c.phrase_words-words.ensures ∙ w.words c.in-Phrase.field-0 c.in-Phrase.is) w.waits c.build_phrase.ensures

pub returns-in-Combine : goal.returns-in-Combine
returns-in-Combine c w =
    pair-after c.in-Combine.pair (ap shape_of c.in-Combine.is) w.waits c.build_pair.ensures

pub returns-in-Not : goal.returns-in-Not
returns-in-Not c w =
    change-after negated (ap shape_of c.in-Not.is) w.waits c.build_not.ensures

pub returns-in-Filter : goal.returns-in-Filter
returns-in-Filter c w =
    change-after (filtered c.in-Filter.filter) (ap shape_of c.in-Filter.is) w.waits c.build_filter.ensures

pub returns-in-Occurs : goal.returns-in-Occurs
returns-in-Occurs c w =
    occurs-after c.in-Occurs.times (ap shape_of c.in-Occurs.is) w.waits c.build_occurs.ensures
