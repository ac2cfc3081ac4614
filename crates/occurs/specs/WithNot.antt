-- Both occurs as one list over the strings of a phrase's finds: every choice of a or more, joined with every match of the not of 'at least b + 1'.
-- That not goes by the excess: of m finds, where at most b are wanted, m - b are too many.
-- 0: no find is too many. The not is one match without strings, and the list is at least a alone.
-- 1: 'at least b + 1' is one match with all finds. Its not has a match for each find, with that find as its exclude.
-- 2, of two finds: 'at least 1' is each find and then both. Its not has two matches, with both finds and then one of them again as excludes.
-- Any other excess makes the list too long.
use Rattle.std.specs.Prelude.{ℕ, zero, suc, ◌+◌, length, take, drop}
use mathlib.Core.List.{List, [], ◌++◌, map, flat_map}
use Rattle.model.specs.Lists.{choose, up_from, from_to}
use Rattle.model.specs.Matches.{Str, Match}
use Rattle.occurs.specs.declared.counts.Excess.{Excess}
use Rattle.occurs.specs.declared.counts.Excess.TheVariants.{No, One, Both}

-- an excess as a number
abbrev pub excess_of : Excess → ℕ
excess_of No = 0
excess_of One = 1
excess_of Both = 2

-- the match of these includes and excludes
abbrev pub match_of : List Str → List Str → Match
match_of is es = record { includes = is; excludes = es }

-- by the excess and the number of finds, m: how many matches the not has ..
abbrev pub not_matches : ℕ → ℕ → ℕ
not_matches zero m = 1
not_matches (suc excess) m = m

-- .. how many strings each of them has, all of them excludes ..
abbrev pub not_strings : ℕ → ℕ → ℕ
not_strings zero m = 0
not_strings (suc zero) m = 1
not_strings (suc (suc excess)) m = m + 1

-- .. and the excludes of its match number d, from 0
unfoldable pub not_excludes : ℕ → List Str → ℕ → List Str
not_excludes zero ss d = []
not_excludes (suc zero) ss d = take 1 (drop d ss)
not_excludes (suc (suc excess)) ss d = ss ++ take 1 (drop d ss)

-- the choice `is` joined with every match of the not; every choice of k finds, each so joined; and every choice of a finds or more
unfoldable pub choice_with_not : ℕ → List Str → List Str → List Match
choice_with_not excess ss is = map (λ d. match_of is (not_excludes excess ss d)) (up_from 0 (not_matches excess (length ss)))

unfoldable pub choices_with_not : ℕ → List Str → ℕ → List Match
choices_with_not excess ss k = flat_map (choice_with_not excess ss) (choose k ss)

unfoldable pub at_least_with_not : ℕ → ℕ → List Str → List Match
at_least_with_not a excess ss = flat_map (choices_with_not excess ss) (from_to a (length ss))
