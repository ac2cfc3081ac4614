-- A not by mixed radix digits: what the laws and the code's contracts say of a not. Each of its matches is a choice of one string from each match
-- of the list, and the choices are numbered from 0, the first match's string being the digit of most weight. (The choices of an occurs are `choose`, in
-- `Lists`.)
use Rattle.std.specs.Prelude.{ℕ, ◌*◌, ◌/◌, ◌%◌, List, [], ◌∷◌, ◌++◌, map, get_or}
use Rattle.model.specs.Matches.{Match, strings_in}
use Rattle.model.specs.Rules.{joined, no_strings, with_include, with_exclude}

-- how many choices there are
unfoldable pub choices : List Match → ℕ
choices [] = 1
choices (m ∷ ms) = strings_in m * choices ms

-- the strings of a match, includes then excludes, each turned to the other sort and alone in a match
unfoldable pub turned_strings : Match → List Match
turned_strings m = map (λ s. with_exclude s no_strings) m.includes ++ map (λ s. with_include s no_strings) m.excludes

-- choice number c
unfoldable pub choice : List Match → ℕ → Match
choice [] c = no_strings
choice (m ∷ ms) c = joined (get_or (turned_strings m) (c / choices ms) no_strings) (choice ms (c % choices ms))
