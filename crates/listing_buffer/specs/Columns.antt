-- The spans, or the tags, of a list as they lie in memory: every second number of each match.
use Rattle.std.specs.Prelude.{ℕ, ◌+◌, ◌≤◌, List, ◌++◌, ◌≡◌, length}
use Rattle.listing_buffer.specs.declared.Column.{Column}
use Rattle.listing_buffer.specs.declared.Column.TheVariants.{Spans, Tags}
use Rattle.model.specs.Matches.{Match, strings_in, strings}
use Rattle.slices.specs.EverySecond.{every_second}
use Rattle.strings.specs.Strings.{strs_of}
use Rattle.store.specs.Stream.{Remaining}

-- where the number of a column stands in a string
abbrev pub offset_of : Column → ℕ
offset_of Spans = 0
offset_of Tags = 1

-- a number of each string of a match: its span for 0, its tag for 1
unfoldable pub column_in : ℕ → Match → List ℕ
column_in column m = every_second (strs_of 0 m.includes ++ strs_of 1 m.excludes) column (strings_in m)

-- n matches from `from` on, and room for a number of each of their strings from `at` on, in a buffer of so many numbers
pub record ColumnAt (mem : List ℕ) (from n size at : ℕ) : Type 0 where
  pub list : List Match
  pub end : ℕ
  pub stream : Remaining list mem from end
  pub count : length list ≡ n
  pub room : at + strings list ≤ size
