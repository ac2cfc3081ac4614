-- Section and selection: "Both are lent slices of u32: a size first, then two parallel arrays."
use Rattle.std.specs.Prelude.{ℕ, ◌+◌, ◌*◌, ◌/◌, ◌%◌, Bool, ◌&&◌, List, leb, eqb, length, get_or}
use Rattle.model.specs.Limits.{radix}

abbrev pub size : List ℕ → ℕ
size lent = get_or lent 0 0

-- what the two arrays hold at an index, counted from 1
abbrev pub first_at : List ℕ → ℕ → ℕ
first_at lent i = get_or lent i 0

abbrev pub second_at : List ℕ → ℕ → ℕ
second_at lent i = get_or lent (size lent + i) 0

-- A size within the limits, and the length 1 + 2 × size. No number at all is a wrong length.
unfoldable pub well_sized : ℕ → ℕ → List ℕ → Bool
well_sized least most lent = leb least (size lent) && leb (size lent) most && eqb (length lent) (1 + 2 * size lent)

-- "A section is n (0 to 4,096), n word numbers, n places. Length is 1 + 2n. A place is paragraph × 65,536 + sentence. Positions run from 1."
abbrev pub word_at : List ℕ → ℕ → ℕ
word_at section p = first_at section p

abbrev pub sentence_at : List ℕ → ℕ → ℕ
sentence_at section p = second_at section p % radix

abbrev pub paragraph_at : List ℕ → ℕ → ℕ
paragraph_at section p = second_at section p / radix

-- What the rules read of a section: n, and the word, sentence and paragraph at a position. "Token positions, sentence numbers and paragraph
-- numbers are three countings, as in the standard, and none stands for another."
pub record Section : Type 0 where
  pub tokens : ℕ
  pub word : ℕ → ℕ
  pub sentence : ℕ → ℕ
  pub paragraph : ℕ → ℕ

abbrev pub section_of : List ℕ → Section
section_of lent = record { tokens = size lent; word = word_at lent; sentence = sentence_at lent; paragraph = paragraph_at lent }
