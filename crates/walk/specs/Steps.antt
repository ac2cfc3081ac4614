-- The steps of the walk: what a code makes of its sides' answers. That they make document 01's walk is proved.
use Rattle.std.specs.Prelude.{ℕ, ◌+◌, Bool, true, false, not, cond, Ok, Err}
use Rattle.model.specs.declared.Pair.{Pair}
use Rattle.model.specs.declared.Pair.TheVariants.{Or, And, MildNot}
use Rattle.model.specs.Kinds.{Shape, a_word, a_phrase, a_pair, a_change, is_negation}
use Rattle.model.specs.Parts.{is_mild_not}
use Rattle.model.specs.Walk.{Quick, answered}

-- Does the walk go into the part of this code? Into that of a not, an or and an and.
abbrev pub goes_into : Shape → Bool
goes_into (a_word w) = false
goes_into (a_phrase k) = false
goes_into (a_pair k) = not (is_mild_not (a_pair k))
goes_into (a_change k) = is_negation k

-- Does the left side's answer decide? An or's yes, an and's no, and every refusal.
abbrev pub decides : Pair → Quick → Bool
decides Or (Ok a) = a.yes
decides And (Ok a) = not a.yes
decides MildNot (Ok a) = true
decides k (Err r) = true

-- the codes that an answer counts
abbrev pub codes_in : Quick → ℕ
codes_in (Ok a) = a.codes
codes_in (Err r) = 0

-- The answer of a part as that of a part above it: turned round or not, and with the codes walked besides.
abbrev pub passed_up : Bool → ℕ → Quick → Quick
passed_up turned more (Ok a) = answered (cond turned (not a.yes) a.yes) (a.codes + more)
passed_up turned more (Err r) = Err r
