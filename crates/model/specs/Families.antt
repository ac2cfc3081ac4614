-- Document 02, F-6, word families: "The caller lends a family table: a size of at most 2,048, then two parallel arrays, word numbers rising strictly and
-- their family numbers."
use Rattle.std.specs.Prelude.{ℕ, Bool, false, ◌||◌, List, [], ◌∷◌, eqb}
use Rattle.std.specs.Prelude.{Option, Some, None, option_map}
use Rattle.model.specs.Lists.{first, from_to}
use Rattle.model.specs.Section.{Section, size, first_at, second_at, section_of}

-- "An empty table": the one number 0
abbrev pub empty_table : List ℕ
empty_table = 0 ∷ []

-- the first entry that has a word, counted from 1 (where words rise there is no other), and the family there
unfoldable pub entry_of : List ℕ → ℕ → Option ℕ
entry_of families word = first (λ i. eqb (first_at families i) word) (from_to 1 (size families))

unfoldable pub family_of : List ℕ → ℕ → Option ℕ
family_of families word = option_map (second_at families) (entry_of families word)

-- "both are in the table with the same family"
abbrev pub same_family : Option ℕ → Option ℕ → Bool
same_family (Some f) (Some g) = eqb f g
same_family (Some f) None = false
same_family None g = false

-- "each word equals its token or both are in the table with the same family"
unfoldable pub word_fits : List ℕ → ℕ → ℕ → Bool
word_fits families token word = eqb token word || same_family (family_of families token) (family_of families word)

-- What the rules read: the section, and whether the word of a token is fitted by the word of a phrase. Only phrase reads the second.
pub record Searched : Type 0 where
  pub section : Section
  pub fits : ℕ → ℕ → Bool

abbrev pub searched_of : List ℕ → List ℕ → Searched
searched_of section families = record { section = section_of section; fits = word_fits families }

-- Document 01 alone: a word fits the tokens that it equals. No part of the meaning: the promises on an empty table speak of it, and the search by equality.
abbrev pub equal_words : List ℕ → Searched
equal_words section = record { section = section_of section; fits = eqb }
