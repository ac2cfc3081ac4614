-- Document 02, F-1: "only these parts of the standard's FTSelection grammar: `ftor` over `ftand` over `not in` over `ftnot`, parentheses, filters after a
-- whole selection, keywords small". F-3: "Typed, `occurs` with one of the four ranges and `times` follows a phrase".
--
--   FTSelection  = FTOr | FTSelection FTPosFilter
--   FTOr         = FTAnd | FTOr 'ftor' FTAnd                        "Left operands group first."
--   FTAnd        = FTMildNot | FTAnd 'ftand' FTMildNot
--   FTMildNot    = FTUnaryNot | FTMildNot 'not' 'in' FTUnaryNot
--   FTUnaryNot   = FTPrimary | 'ftnot' FTPrimary
--   FTPrimary    = FTWords | FTWords FTTimes | '(' FTSelection ')'
--   FTWords      = '"' words '"'
--   FTTimes      = 'occurs' FTRange 'times'
--   FTRange      = 'exactly' number | 'at' 'least' number | 'at' 'most' number | 'from' number 'to' number
--
-- One constructor for each production. `FTOr ts cs`: the tokens ts are an FTOr, and cs are its codes, in postfix order.
use Rattle.std.specs.Prelude.{ℕ, suc, ◌≤◌, ◌≡◌, List, [], ◌∷◌, ◌++◌}
use Prim.Native.String.{String}
use Rattle.model.specs.declared.Code.{Code}
use Rattle.model.specs.declared.Code.TheVariants.{Word, Phrase, Combine, Not, Filter as Filtered, Occurs}
use Rattle.model.specs.declared.Filter.{Filter}
use Rattle.model.specs.declared.Filter.TheVariants.{Ordered, Window, Distance, SameSentence, SameParagraph, DifferentSentence, DifferentParagraph, AtStart, AtEnd, EntireContent}
use Rattle.model.specs.declared.Pair.TheVariants.{Or, And, MildNot}
use Rattle.model.specs.declared.Times.{Times}
use Rattle.model.specs.declared.Times.TheVariants.{FromTo, AtLeast}
use Rattle.model.specs.Bytes.{bytes}
use Rattle.model.specs.Limits.{max_distance, max_number, max_word, max_words}
use Rattle.model.specs.Tokens.{Token, quote, opening, closing, digit, letter, value_of}

-- ---- tokens

-- a quote or a parenthesis
pub record Sign (b : ℕ) (t : Token) : Type 0 where
  pub is : t.sort ≡ b

-- "keywords small"
pub record Keyword (w : String) (t : Token) : Type 0 where
  pub letters : t.sort ≡ letter
  pub spelled : t.bytes ≡ bytes w

-- a number within its limit
pub record Number (most : ℕ) (t : Token) : Type 0 where
  pub digits : t.sort ≡ digit
  pub within : value_of t ≤ most

-- ---- words, ranges, times and filters

-- k word numbers
pub data Words : ℕ → List Token → List Code → Type 0 where
  no_word : Words 0 [] []
  word_more : {k : ℕ} {t : Token} {ts : List Token} {cs : List Code} → Number max_word t → Words k ts cs → Words (suc k) (t ∷ ts) (Word (value_of t) ∷ cs)

-- "A phrase is one to eight word numbers in double quotes."
pub data FTWords : List Token → List Code → Type 0 where
  quoted : {k : ℕ} {ts : List Token} {cs : List Code} {t u : Token} → Sign quote t → Words k ts cs → 1 ≤ k → k ≤ max_words → Sign quote u
      → FTWords (t ∷ (ts ++ (u ∷ []))) (cs ++ (Phrase k ∷ []))

-- "`exactly`, `at least` .., `at most` .. or `from .. to`": `between a b` is what `from a to b` makes, `least a` what `at least a` does
pub data FTRange {A : Type 0} (least : ℕ → A) (between : ℕ → ℕ → A) : List Token → A → Type 0 where
  range_exactly : {b n : Token} → Keyword "exactly" b → Number max_number n → FTRange least between (b ∷ n ∷ []) (between (value_of n) (value_of n))
  range_least : {b c n : Token} → Keyword "at" b → Keyword "least" c → Number max_number n → FTRange least between (b ∷ c ∷ n ∷ []) (least (value_of n))
  range_most : {b c n : Token} → Keyword "at" b → Keyword "most" c → Number max_number n
      → FTRange least between (b ∷ c ∷ n ∷ []) (between 0 (value_of n))
  range_from_to : {b m c n : Token} → Keyword "from" b → Number max_number m → Keyword "to" c → Number max_number n
      → FTRange least between (b ∷ m ∷ c ∷ n ∷ []) (between (value_of m) (value_of n))

-- F-3: "`at least` is kind 17", the other ranges kind 16
pub data FTTimes : List Token → Times → Type 0 where
  times : {us : List Token} {k : Times} {a z : Token} → Keyword "occurs" a → FTRange AtLeast FromTo us k → Keyword "times" z
      → FTTimes (a ∷ (us ++ (z ∷ []))) k

pub data FTPosFilter : List Token → Filter → Type 0 where
  ordered : {a : Token} → Keyword "ordered" a → FTPosFilter (a ∷ []) Ordered
  window : {a n z : Token} → Keyword "window" a → Number max_number n → Keyword "words" z → FTPosFilter (a ∷ n ∷ z ∷ []) (Window (value_of n))
  -- "Distance takes `exactly`, `at least` (to 4,095), `at most` (from 0) or `from .. to`."
  distance : {us : List Token} {f : Filter} {a z : Token} → Keyword "distance" a → FTRange (λ n. Distance n max_distance) Distance us f
      → Keyword "words" z → FTPosFilter (a ∷ (us ++ (z ∷ []))) f
  same_sentence : {a b : Token} → Keyword "same" a → Keyword "sentence" b → FTPosFilter (a ∷ b ∷ []) SameSentence
  same_paragraph : {a b : Token} → Keyword "same" a → Keyword "paragraph" b → FTPosFilter (a ∷ b ∷ []) SameParagraph
  different_sentence : {a b : Token} → Keyword "different" a → Keyword "sentence" b → FTPosFilter (a ∷ b ∷ []) DifferentSentence
  different_paragraph : {a b : Token} → Keyword "different" a → Keyword "paragraph" b → FTPosFilter (a ∷ b ∷ []) DifferentParagraph
  at_start : {a b : Token} → Keyword "at" a → Keyword "start" b → FTPosFilter (a ∷ b ∷ []) AtStart
  at_end : {a b : Token} → Keyword "at" a → Keyword "end" b → FTPosFilter (a ∷ b ∷ []) AtEnd
  entire_content : {a b : Token} → Keyword "entire" a → Keyword "content" b → FTPosFilter (a ∷ b ∷ []) EntireContent

-- ---- the rules

mutual
  pub data FTSelection : List Token → List Code → Type 0 where
    selection_or : {ts : List Token} {cs : List Code} → FTOr ts cs → FTSelection ts cs
    selection_filter : {ts us : List Token} {cs : List Code} {f : Filter} → FTSelection ts cs → FTPosFilter us f
        → FTSelection (ts ++ us) (cs ++ (Filtered f ∷ []))

  pub data FTOr : List Token → List Code → Type 0 where
    or_and : {ts : List Token} {cs : List Code} → FTAnd ts cs → FTOr ts cs
    or_more : {ts us : List Token} {cs ds : List Code} {t : Token} → FTOr ts cs → Keyword "ftor" t → FTAnd us ds
        → FTOr (ts ++ (t ∷ us)) (cs ++ (ds ++ (Combine Or ∷ [])))

  pub data FTAnd : List Token → List Code → Type 0 where
    and_mild : {ts : List Token} {cs : List Code} → FTMildNot ts cs → FTAnd ts cs
    and_more : {ts us : List Token} {cs ds : List Code} {t : Token} → FTAnd ts cs → Keyword "ftand" t → FTMildNot us ds
        → FTAnd (ts ++ (t ∷ us)) (cs ++ (ds ++ (Combine And ∷ [])))

  pub data FTMildNot : List Token → List Code → Type 0 where
    mild_unary : {ts : List Token} {cs : List Code} → FTUnaryNot ts cs → FTMildNot ts cs
    mild_more : {ts us : List Token} {cs ds : List Code} {t u : Token} → FTMildNot ts cs → Keyword "not" t → Keyword "in" u → FTUnaryNot us ds
        → FTMildNot (ts ++ (t ∷ u ∷ us)) (cs ++ (ds ++ (Combine MildNot ∷ [])))

  pub data FTUnaryNot : List Token → List Code → Type 0 where
    unary_primary : {ts : List Token} {cs : List Code} → FTPrimary ts cs → FTUnaryNot ts cs
    unary_not : {ts : List Token} {cs : List Code} {t : Token} → Keyword "ftnot" t → FTPrimary ts cs → FTUnaryNot (t ∷ ts) (cs ++ (Not ∷ []))

  pub data FTPrimary : List Token → List Code → Type 0 where
    phrase : {ts : List Token} {cs : List Code} → FTWords ts cs → FTPrimary ts cs
    phrase_times : {ts us : List Token} {cs : List Code} {k : Times} → FTWords ts cs → FTTimes us k → FTPrimary (ts ++ us) (cs ++ (Occurs k ∷ []))
    -- "A selection in parentheses is read by the rule that reads the whole"
    nested : {ts : List Token} {cs : List Code} {t u : Token} → Sign opening t → FTSelection ts cs → Sign closing u
        → FTPrimary (t ∷ (ts ++ (u ∷ []))) cs
