-- What the calls answer to a typed search, by the text's answer. Document 02, F-1: "The codes that it writes then meet document 01's checks, and over 64
-- codes is refusal 3. What a typed search answers is what its codes answer."; the text's errors come "all before document 01's refusals".
use Rattle.std.specs.Prelude.{ℕ, cond, List, [], ◌∷◌, ◌++◌, map, leb, length}
use Rattle.std.specs.Prelude.{Option, Some, None, Result, Ok, Err}
use Rattle.model.specs.declared.Code.{Code}
use Rattle.model.specs.declared.Listing.{Listing}
use Rattle.model.specs.declared.Listing.TheVariants.{Refused}
use Rattle.model.specs.declared.Reason.TheVariants.{WrongSelection}
use Rattle.model.specs.declared.Refusal.{Refusal}
use Rattle.model.specs.Answers.{buffer_unless, listing_answer, listing_buffer, quick_answer}
use Rattle.model.specs.Checks.{refusal, refusal_values, otherwise, room_refusal}
use Rattle.model.specs.Limits.{max_codes, selection_length}
use Rattle.model.specs.Selection.{kind_of, operand_of}
use Rattle.model.specs.TextAnswer.{TextAnswer, codes, error}
use Rattle.model.specs.Walk.{Quick}

-- Codes as a selection: "m (1 to 64), m kinds, m operands, in postfix order".
unfoldable pub selection_of : List Code → List ℕ
selection_of cs = length cs ∷ (map kind_of cs ++ map operand_of cs)

-- The full listing of a typed search.
abbrev pub typed_listing : List ℕ → List ℕ → TextAnswer → ℕ → ℕ → Listing
typed_listing section families (codes cs) work buffer = listing_answer section families (selection_of cs) work buffer
typed_listing section families (error r) work buffer = Refused r

abbrev pub typed_buffer : List ℕ → List ℕ → TextAnswer → ℕ → List ℕ → List ℕ
typed_buffer section families (codes cs) work buffer = listing_buffer section families (selection_of cs) work buffer
typed_buffer section families (error r) work buffer = buffer

-- The quick answer of a typed search.
abbrev pub typed_quick : List ℕ → List ℕ → TextAnswer → ℕ → Quick
typed_quick section families (codes cs) work = quick_answer section families (selection_of cs) work
typed_quick section families (error r) work = Err r

-- The reader alone: the text's error, 3 for over 64 codes, then 8 where the lent numbers are fewer than the longest selection's.
abbrev pub codes_refusal : List Code → ℕ → Option Refusal
codes_refusal cs lent = otherwise (cond (leb (length cs) max_codes) None (Some (refusal WrongSelection 0))) (room_refusal (leb selection_length lent))

abbrev pub Reading : Type 0
Reading = Result ℕ Refusal

abbrev pub read_unless : Option Refusal → List Code → Reading
read_unless (Some r) cs = Err r
read_unless None cs = Ok (length cs)

abbrev pub read_answer : TextAnswer → ℕ → Reading
read_answer (codes cs) lent = read_unless (codes_refusal cs lent) cs
read_answer (error r) lent = Err r

-- The lent numbers then hold the selection; the rest of them is unchanged, and all of them by a refusal.
abbrev pub read_selection : TextAnswer → List ℕ → List ℕ
read_selection (codes cs) lent = buffer_unless (codes_refusal cs (length lent)) (selection_of cs) lent
read_selection (error r) lent = lent

-- in numbers: 0 and the codes, or a refusal's number and place
abbrev pub reading_values : Reading → List ℕ
reading_values (Ok m) = 0 ∷ m ∷ []
reading_values (Err r) = refusal_values r
