-- The productions of model/specs/Productions.antt as functions, the language of the reader's inner contracts:
--
--   FTSelection  = FTOr FTPosFilter*
--   FTOr         = FTAnd ('ftor' FTAnd)*
--   FTAnd        = FTMildNot ('ftand' FTMildNot)*
--   FTMildNot    = FTUnaryNot ('not' 'in' FTUnaryNot)*
--   FTUnaryNot   = 'ftnot'? FTPrimary
--   FTPrimary    = FTWords FTTimes? | '(' FTSelection ')'
--   FTWords      = '"' words '"'
--
-- A rule reads the front of the stream and gives the codes in postfix order with the stream left, or the first error. That a text's answer by these
-- functions is its answer by the productions, and no other, is proved in proofs/.
use Rattle.std.specs.Prelude.{ℕ, zero, suc, ◌+◌, Bool, ◌&&◌, not, cond, List, [], ◌∷◌, ◌++◌, eqb, leb, length}
use Rattle.model.specs.declared.Reason.{Reason}
use Rattle.model.specs.declared.Reason.TheVariants.{OverLimit, UnexpectedToken}
use Rattle.model.specs.declared.Code.{Code}
use Rattle.model.specs.declared.Code.TheVariants.{Word, Phrase, Combine, Not, Filter as Filtered, Occurs}
use Rattle.model.specs.declared.Filter.TheVariants.{Ordered, Window, Distance, SameSentence, SameParagraph, DifferentSentence, DifferentParagraph, AtStart, AtEnd, EntireContent}
use Rattle.model.specs.declared.Pair.TheVariants.{Or, And, MildNot}
use Rattle.model.specs.declared.Times.TheVariants.{FromTo, AtLeast}
use Rattle.model.specs.Checks.{refusal}
use Rattle.model.specs.Limits.{max_distance, max_number, max_text, max_words, max_word}
use Rattle.model.specs.TextAnswer.{TextAnswer, codes, error}
use Rattle.grammar.specs.Stream.{Stream, place_in, rest_of, value_in, stream_at}
use Rattle.grammar.specs.Symbols.{k_ftor, k_ftand, k_ftnot, k_not, k_in, k_ordered, k_window, k_distance, k_same, k_different, k_at, k_entire, k_start, k_end, k_sentence, k_paragraph, k_content, k_occurs, k_exactly, k_from, k_to, k_least, k_most, k_words, k_times, no_more, s_quote, s_opening, s_closing, s_number, symbol_in}

pub data Outcome : Type 0 where
  failed : Reason → (place : ℕ) → Outcome
  read : List Code → (rest : Stream) → Outcome

abbrev pub Rule : Type 0
Rule = Stream → Outcome

-- what is read after codes
unfoldable pub prefixed : List Code → Outcome → Outcome
prefixed cs (failed n p) = failed n p
prefixed cs (read ds ts) = read (cs ++ ds) ts

-- one rule, then another on what it left
infixl 40 ◌then◌
unfoldable pub ◌then◌ : Outcome → Rule → Outcome
failed n p then r = failed n p
read cs ts then r = prefixed cs (r ts)

-- ---- tokens

-- "10 where the grammar doesn't allow it (or length + 1)"
abbrev pub refused : Rule
refused ts = failed UnexpectedToken (place_in ts)

abbrev pub writes : Code → Rule
writes c ts = read (c ∷ []) ts

-- a token of a symbol
abbrev pub expect : ℕ → Rule
expect s ts = cond (eqb (symbol_in ts) s) (read [] (rest_of ts)) (refused ts)

-- "else 11 for a word number over 4,294,967,295 or another number over 4,096"
abbrev pub number : ℕ → (ℕ → Rule) → Rule
number most next ts =
    cond (eqb (symbol_in ts) s_number)
    (cond (leb (value_in ts) most) (next (value_in ts) (rest_of ts)) (failed OverLimit (place_in ts)))
    (refused ts)

-- a token of a symbol, and a code
unfoldable pub coded : ℕ → Code → Rule
coded s c ts = expect s ts then writes c

-- a number and a last word, and the code that the number makes
unfoldable pub measured : ℕ → (ℕ → Code) → Rule
measured last f ts = number max_number (λ n rest. coded last (f n) rest) ts

-- ---- ranges: "`exactly`, `at least` .., `at most` .. or `from .. to`", and a last word

-- `between a b` is the code of `from a to b`, `least a` that of `at least a`
unfoldable pub range_from : ℕ → (ℕ → ℕ → Code) → Rule
range_from last between ts = number max_number (λ a rest. expect k_to rest then measured last (between a)) ts

unfoldable pub range_at : ℕ → (ℕ → Code) → (ℕ → ℕ → Code) → Rule
range_at last least between ts =
    cond (eqb (symbol_in ts) k_least) (measured last least (rest_of ts))
    (expect k_most ts then measured last (between 0))

unfoldable pub range : ℕ → (ℕ → Code) → (ℕ → ℕ → Code) → Rule
range last least between ts =
    cond (eqb (symbol_in ts) k_exactly) (measured last (λ n. between n n) (rest_of ts))
    (cond (eqb (symbol_in ts) k_from) (range_from last between (rest_of ts))
    (expect k_at ts then range_at last least between))

-- "Distance takes `exactly`, `at least` (to 4,095), `at most` (from 0) or `from .. to`."
abbrev pub distance : Rule
distance = range k_words (λ a. Filtered (Distance a max_distance)) (λ a b. Filtered (Distance a b))

-- F-3: "`at least` is kind 17", the other ranges kind 16
abbrev pub times : Rule
times = range k_times (λ a. Occurs (AtLeast a)) (λ a b. Occurs (FromTo a b))

-- ---- a phrase: "one to eight word numbers in double quotes"

-- after k words, of which `left` more may come
unfoldable pub words : ℕ → ℕ → Rule
words zero k ts = cond (eqb (symbol_in ts) s_quote && not (eqb k 0)) (read (Phrase k ∷ []) (rest_of ts)) (refused ts)
words (suc left) k ts =
    cond (eqb (symbol_in ts) s_quote && not (eqb k 0))
    (read (Phrase k ∷ []) (rest_of ts))
    (number max_word (λ v rest. read (Word v ∷ []) rest then words left (k + 1)) ts)

-- FTTimes?: "`occurs` with one of the four ranges and `times` follows a phrase"
unfoldable pub any_times : Rule
any_times ts = cond (eqb (symbol_in ts) k_occurs) (times (rest_of ts)) (read [] ts)

-- FTWords FTTimes?, after the opening quote
unfoldable pub phrase : Rule
phrase ts = words max_words 0 ts then any_times

-- ---- filters

-- one of two words, each with its code
unfoldable pub either : ℕ → Code → ℕ → Code → Rule
either s c u d ts = cond (eqb (symbol_in ts) s) (read (c ∷ []) (rest_of ts)) (coded u d ts)

unfoldable pub starts_filter : Stream → Bool
starts_filter ts = leb k_ordered (symbol_in ts) && leb (symbol_in ts) k_entire

unfoldable pub filter : Rule
filter ts =
    cond (eqb (symbol_in ts) k_ordered) (read (Filtered Ordered ∷ []) (rest_of ts))
    (cond (eqb (symbol_in ts) k_window) (measured k_words (λ n. Filtered (Window n)) (rest_of ts))
    (cond (eqb (symbol_in ts) k_distance) (distance (rest_of ts))
    (cond (eqb (symbol_in ts) k_same) (either k_sentence (Filtered SameSentence) k_paragraph (Filtered SameParagraph) (rest_of ts))
    (cond (eqb (symbol_in ts) k_different) (either k_sentence (Filtered DifferentSentence) k_paragraph (Filtered DifferentParagraph) (rest_of ts))
    (cond (eqb (symbol_in ts) k_at) (either k_start (Filtered AtStart) k_end (Filtered AtEnd) (rest_of ts))
    (expect k_entire ts then coded k_content (Filtered EntireContent)))))))

-- FTPosFilter*, n at most
unfoldable pub filters : ℕ → Rule
filters zero ts = read [] ts
filters (suc n) ts = cond (starts_filter ts) (filter ts then filters n) (read [] ts)

-- ---- the rules

-- (operator operand)*, n at most: an operator begins with the symbol s, `op` reads it, and c is its code
unfoldable pub row : ℕ → ℕ → Rule → Code → Rule → Rule
row zero s op c operand ts = read [] ts
row (suc n) s op c operand ts = cond (eqb (symbol_in ts) s) (op ts then operand then writes c then row n s op c operand) (read [] ts)

abbrev pub not_in : Rule
not_in ts = expect k_not ts then expect k_in

-- `inner` reads what stands in parentheses; n is at least the bytes left
module _ (n : ℕ) (inner : Rule) where
  unfoldable pub ft_primary : Rule
  ft_primary ts =
      cond (eqb (symbol_in ts) s_quote) (phrase (rest_of ts))
      (cond (eqb (symbol_in ts) s_opening) (inner (rest_of ts) then expect s_closing) (refused ts))

  unfoldable pub ft_unary_not : Rule
  ft_unary_not ts = cond (eqb (symbol_in ts) k_ftnot) (ft_primary (rest_of ts) then writes Not) (ft_primary ts)

  unfoldable pub ft_mild_not : Rule
  ft_mild_not ts = ft_unary_not ts then row n k_not not_in (Combine MildNot) ft_unary_not

  unfoldable pub ft_and : Rule
  ft_and ts = ft_mild_not ts then row n k_ftand (expect k_ftand) (Combine And) ft_mild_not

  unfoldable pub ft_or : Rule
  ft_or ts = ft_and ts then row n k_ftor (expect k_ftor) (Combine Or) ft_and

-- "A selection in parentheses is read by the rule that reads the whole": n above the bytes left is enough
unfoldable pub ft_selection : ℕ → Rule
ft_selection zero ts = refused ts
ft_selection (suc n) ts = ft_or n (ft_selection n) ts then filters n

-- ---- the whole text

abbrev pub answer_in : Outcome → TextAnswer
answer_in (failed n p) = error (refusal n p)
answer_in (read cs ts) = codes cs

-- a whole text, whatever its length
unfoldable pub outcome_of : List ℕ → Outcome
outcome_of text = ft_selection (suc (length text)) (stream_at text 0) then expect no_more

-- "11 at place 0, first of all, for too long a text"
unfoldable pub read_text : List ℕ → TextAnswer
read_text text = cond (leb (length text) max_text) (answer_in (outcome_of text)) (error (refusal OverLimit 0))
