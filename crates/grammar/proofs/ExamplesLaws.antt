-- Each typed search of the model's examples has the answer beside it: the functions compute it, and what they compute the productions say.
use mathlib.Core.Path.{◌≡◌, refl}
use mathlib.Core.List.{List, [], ◌∷◌, map}
use Rattle.model.specs.Bytes.{bytes}
use Rattle.model.specs.Lists.{Every}
use Rattle.model.specs.TextAnswer.{TextAnswer, AnswerOf}
use Rattle.model.specs.Tokens.{number_from}
use Rattle.model.specs.TypedExamples.{Example, examples, ExamplesHold}
use Rattle.grammar.specs.Stream.{sort_of, makes_runs, before, pieces_from, without_blanks, stream_at, value_in}
use Rattle.grammar.specs.Symbols.{same_bytes, number_among, symbol_of}
use Rattle.grammar.specs.Grammar.{prefixed, ◌then◌, coded, measured, range_from, range_at, range, words, any_times, phrase, either, starts_filter, filter, filters, row, ft_primary, ft_unary_not, ft_mild_not, ft_and, ft_or, ft_selection, outcome_of, read_text}
use Rattle.grammar.proofs.AnswerLaws.{reads_exactly}

abbrev computed : Example → TextAnswer
computed e = read_text (bytes e.text)

abbrev stated : Example → TextAnswer
stated e = e.answer

every_computed : (es : List Example) → map computed es ≡ map stated es → Every (λ e. AnswerOf (bytes e.text) e.answer) es
unfolding Every
every_computed [] h = tt
every_computed (e ∷ es) h = ((reads_exactly (bytes e.text) e.answer).0 (cc), every_computed es (cc))

examples_computed : map computed examples ≡ map stated examples
unfolding examples sort_of makes_runs before pieces_from without_blanks stream_at value_in number_from same_bytes number_among symbol_of prefixed ◌then◌ coded measured range_from range_at range words any_times phrase either starts_filter filter filters row ft_primary ft_unary_not ft_mild_not ft_and ft_or ft_selection outcome_of read_text
examples_computed = refl

pub examples_hold : ExamplesHold
examples_hold = every_computed examples examples_computed
