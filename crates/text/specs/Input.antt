-- What `ftlist` reads, as bytes: "Program `ftlist` reads little-endian u32 from standard input, the section's 1 + 2n numbers (all, if fewer) and then
-- the selection. Over 65,536 bytes, or a count not divisible by 4, prints `refused 1 0`".
use Rattle.std.specs.Prelude.{ℕ, ◌+◌, ◌*◌, ◌%◌, Bool, ◌||◌, not, cond, List, [], ◌∷◌, ltb, eqb, length, take, drop, get_or}
use Rattle.model.specs.declared.Reason.TheVariants.{WrongSection}
use Rattle.model.specs.Answers.{complete_list, listing_answer}
use Rattle.model.specs.Checks.{refusal}
use Rattle.model.specs.Families.{empty_table}
use Rattle.model.specs.Limits.{work_length, buffer_length}
use Rattle.model.specs.Section.{size}
use Rattle.model.specs.declared.Listing.TheVariants.{Refused}
use Rattle.text.specs.Printed.{listing_text}

-- "Over 65,536 bytes"
abbrev pub max_input : ℕ
max_input = 65536

-- as many numbers
abbrev pub max_numbers : ℕ
max_numbers = 16384

-- "little-endian u32"
abbrev pub little_endian : ℕ → ℕ → ℕ → ℕ → ℕ
little_endian a b c d = a + b * 256 + c * 65536 + d * 16777216

-- the number of the four bytes from p on
abbrev pub number_at : List ℕ → ℕ → ℕ
number_at input p = little_endian (get_or input p 0) (get_or input (p + 1) 0) (get_or input (p + 2) 0) (get_or input (p + 3) 0)

-- four bytes by four; fewer than four at the end are no number
unfoldable pub numbers_of : List ℕ → List ℕ
numbers_of (a ∷ b ∷ c ∷ d ∷ rest) = little_endian a b c d ∷ numbers_of rest
numbers_of (a ∷ b ∷ c ∷ []) = []
numbers_of (a ∷ b ∷ []) = []
numbers_of (a ∷ []) = []
numbers_of [] = []

-- "the section's 1 + 2n numbers (all, if fewer) and then the selection": n is the first number, whatever its size
abbrev pub section_part : List ℕ → List ℕ
section_part numbers = take (1 + 2 * size numbers) numbers

abbrev pub selection_part : List ℕ → List ℕ
selection_part numbers = drop (1 + 2 * size numbers) numbers

-- "Over 65,536 bytes, or a count not divisible by 4"
abbrev pub unreadable : List ℕ → Bool
unreadable input = ltb max_input (length input) || not (eqb (length input % 4) 0)

-- the text of the full listing of two lent slices; document 02, F-6: "An empty table (`ftlist` lends one)"
abbrev pub listing_of : List ℕ → List ℕ → List ℕ
listing_of section selection = listing_text (listing_answer section empty_table selection work_length buffer_length) (complete_list section empty_table selection)

-- The whole program: what it prints for what it reads.
unfoldable pub program_text : List ℕ → List ℕ
program_text input =
    let numbers = numbers_of input in
    cond (unreadable input) (listing_text (Refused (refusal WrongSection 0)) []) (listing_of (section_part numbers) (selection_part numbers))
