-- "A string has a span (start, end), a query position and a contiguous mark. A match is a list of includes and a list of excludes."
use Rattle.std.specs.Prelude.{ℕ, ◌+◌, Bool, ◌||◌, List, [], ◌∷◌, ltb, length}
use Rattle.model.specs.Limits.{max_matches, max_strings}
use Rattle.model.specs.Lists.{any_of, is_empty}

pub record Str : Type 0 where
  pub start : ℕ
  pub end : ℕ
  pub query : ℕ
  pub contiguous : Bool

pub record Match : Type 0 where
  pub includes : List Str
  pub excludes : List Str

-- "looks for a match without excludes": yes where there is one, also where it has no strings at all
abbrev pub no_exclude : Match → Bool
no_exclude m = is_empty m.excludes

abbrev pub is_yes : List Match → Bool
is_yes ms = any_of no_exclude ms

-- how many strings a match has, and a list
abbrev pub strings_in : Match → ℕ
strings_in m = length m.includes + length m.excludes

unfoldable pub strings : List Match → ℕ
strings [] = 0
strings (m ∷ ms) = strings_in m + strings ms

-- "its list has over 256 matches or 512 strings"
abbrev pub too_long : List Match → Bool
too_long ms = ltb max_matches (length ms) || ltb max_strings (strings ms)
