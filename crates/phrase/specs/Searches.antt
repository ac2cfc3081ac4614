-- The words of a phrase in the family table.
use Rattle.std.specs.Prelude.{ℕ, ◌+◌, ◌≤◌, ◌<◌, Bool, List, Option, None, ◌≡◌, length, get_or}
use Rattle.model.specs.Families.{family_of, word_fits}
use Rattle.model.specs.Section.{word_at}

-- none of the words is in the family table
abbrev pub OutOfTable : List ℕ → List ℕ → Type 0
OutOfTable table words = (i : ℕ) → i < length words → family_of table (get_or words i 0) ≡ None

-- the families of the words
abbrev pub FamiliesOf : List ℕ → List ℕ → List (Option ℕ) → Type 0
FamiliesOf table words families = (length words ≤ length families) × ((i : ℕ) → i < length words → get_or families i None ≡ family_of table (get_or words i 0))

-- does the word number i fit in the row from position p on?
abbrev pub fits_at : List ℕ → List ℕ → List ℕ → ℕ → ℕ → Bool
fits_at section table words p i = word_fits table (word_at section (p + i)) (get_or words i 0)
