-- The strings of a choice as memory has them: those of one sort, and one string turned.
use Rattle.std.specs.Prelude.{ℕ, zero, suc, ◌+◌, ◌*◌, ◌/◌, ◌%◌, cond, List, [], ◌∷◌, eqb, get_or}
use Rattle.model.specs.Choices.{choices, turned_strings}
use Rattle.model.specs.Matches.{Str, Match}
use Rattle.model.specs.Rules.{no_strings}
use Rattle.strings.specs.Strings.{strs_of}

-- a match's strings of one sort (0: includes, 1: excludes), and their numbers
abbrev pub side : ℕ → Match → List Str
side zero m = m.includes
side (suc k) m = m.excludes

unfoldable pub side_numbers : ℕ → Match → List ℕ
side_numbers sort m = strs_of sort (side sort m)

-- a string's numbers, turned to a sort; none, if it is of that sort already
unfoldable pub turned_numbers : ℕ → ℕ → ℕ → List ℕ
turned_numbers sort span tag = cond (eqb (tag % 2) sort) [] (span ∷ (tag / 2 * 2 + sort) ∷ [])

-- the strings of choice number c one by one, each turned and alone in a match
unfoldable pub chosen : List Match → ℕ → List Match
chosen [] c = []
chosen (m ∷ ms) c = get_or (turned_strings m) (c / choices ms) no_strings ∷ chosen ms (c % choices ms)
