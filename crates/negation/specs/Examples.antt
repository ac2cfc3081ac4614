-- Worked examples: a not's matches are its operand's choices in the order of their numbers, and its sizes at the limits.
use Rattle.std.specs.Prelude.{ℕ, ◌≡◌, refl, true}
use mathlib.Core.List.{List, [], ◌∷◌, map, flat_map}
use Rattle.model.specs.Choices.{choices, turned_strings, choice}
use Rattle.model.specs.Lists.{up_from}
use Rattle.model.specs.Matches.{Str, Match, strings}
use Rattle.model.specs.Rules.{no_strings, not_list}
use Rattle.store.specs.Built.{built_of, made, over}

abbrev str : ℕ → Str
str p = record { start = p; end = p; query = 1; contiguous = true }

-- a match of the includes at positions 1 to n
abbrev included : ℕ → Match
included n = record { includes = map str (up_from 1 n); excludes = [] }

-- +1 +2 -3, and +4 -5
abbrev two : List Match
two = record { includes = str 1 ∷ str 2 ∷ []; excludes = str 3 ∷ [] } ∷ record { includes = str 4 ∷ []; excludes = str 5 ∷ [] } ∷ []

-- one string of the first match and one of the second, turned
pub of_two : not_list two
    ≡ record { includes = []; excludes = str 1 ∷ str 4 ∷ [] }
    ∷ record { includes = str 5 ∷ []; excludes = str 1 ∷ [] }
    ∷ record { includes = []; excludes = str 2 ∷ str 4 ∷ [] }
    ∷ record { includes = str 5 ∷ []; excludes = str 2 ∷ [] }
    ∷ record { includes = str 3 ∷ []; excludes = str 4 ∷ [] }
    ∷ record { includes = str 3 ∷ str 5 ∷ []; excludes = [] }
    ∷ []
unfolding not_list flat_map
of_two = refl

pub choices_of_two : map (choice two) (up_from 0 6) ≡ not_list two
unfolding not_list flat_map up_from choice choices turned_strings
choices_of_two = refl

-- of no matches; with a match without strings, whatever the others; with 256 choices of two strings, and with more matches or strings than the limits
pub sizes : (built_of (not_list []) ≡ made 1 0)
    × (built_of (not_list (included 16 ∷ included 17 ∷ no_strings ∷ [])) ≡ made 0 0)
    × (built_of (not_list (included 16 ∷ included 16 ∷ [])) ≡ made 256 512)
    × (built_of (not_list (included 16 ∷ included 17 ∷ [])) ≡ over)
    × (built_of (not_list (included 5 ∷ included 5 ∷ included 7 ∷ [])) ≡ over)
unfolding not_list flat_map up_from strings
sizes = (refl, refl, refl, refl, refl)
