-- The list goes to the free slot after those that wait.
use Rattle.build.proofs.StepsLaws.{none-room, none_pushed}
use Rattle.build.proofs.steps.build_phrase.Goals as goal

pub phrase_list-requires : goal.phrase_list-requires
phrase_list-requires c = record { accepted_section = c.requires.accepted_section; accepted_families = c.requires.accepted_families; words_len_bound = c.requires.words_len_bound; rank_le_max_phrases = c.requires.rank_le_max_phrases; slot_size_in_bounds = none-room c.requires.none_taken }

pub returns : goal.returns
returns c w = none_pushed w c.phrase_list.ensures
