-- The match that has the strings of two slices.
use Rattle.std.specs.Prelude.{ℕ, List}
use Rattle.model.specs.Matches.{Match}
use Rattle.strings.specs.Strings.{strs_at}

abbrev pub match_at : List ℕ → List ℕ → Match
match_at includes excludes = record { includes = strs_at includes; excludes = strs_at excludes }
