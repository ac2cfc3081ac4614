-- How a list of matches lies in working memory, as a stream of numbers: how many matches and how many strings, then for each match a header (its
-- includes × 65,536 + its excludes) and its strings, the includes before the excludes.
use Rattle.std.specs.Prelude.{ℕ, ◌+◌, ◌-◌, ◌*◌, ◌/◌, ◌%◌, ◌≤◌, ◌≡◌, length, take, drop, get_or}
use mathlib.Core.List.{List, ◌∷◌, ◌++◌, flat_map}
use Rattle.model.specs.Limits.{radix}
use Rattle.model.specs.Matches.{Match, strings}
use Rattle.strings.specs.Strings.{strs_of}
use Rattle.store.specs.declared.bounds.Bounds.{Bounds}

-- a header, and its two counts back
abbrev pub header_of : ℕ → ℕ → ℕ
header_of includes excludes = includes * radix + excludes

abbrev pub includes_in : ℕ → ℕ
includes_in header = header / radix

abbrev pub excludes_in : ℕ → ℕ
excludes_in header = header % radix

-- the header of the match at `at`, whose includes end before `excludes` and whose excludes before `end`
abbrev pub header_between : ℕ → ℕ → ℕ → ℕ
header_between at excludes end = header_of ((excludes - (at + 1)) / 2) ((end - excludes) / 2)

-- how many numbers a match takes, by its header
abbrev pub match_length : ℕ → ℕ
match_length header = 1 + 2 * (includes_in header + excludes_in header)

-- the bounds of a match at `at` with this header: its includes lie after the header, and its excludes after them
pub record BoundsOf (header at : ℕ) (b : Bounds) : Type 0 where
  pub includes : b.includes ≡ at + 1
  pub excludes : b.excludes ≡ b.includes + 2 * includes_in header
  pub end : b.end ≡ at + match_length header

unfoldable pub match_numbers : Match → List ℕ
match_numbers m = header_of (length m.includes) (length m.excludes) ∷ (strs_of 0 m.includes ++ strs_of 1 m.excludes)

unfoldable pub matches_numbers : List Match → List ℕ
matches_numbers ms = flat_map match_numbers ms

unfoldable pub slot_numbers : List Match → List ℕ
slot_numbers ms = length ms ∷ strings ms ∷ matches_numbers ms

-- the two numbers of a slot's header: how many matches its list has, and how many strings
abbrev pub matches_at : List ℕ → ℕ → ℕ
matches_at mem at = get_or mem at 0

abbrev pub strings_at : List ℕ → ℕ → ℕ
strings_at mem at = get_or mem (at + 1) 0

-- how many numbers the list in the slot at `at` takes
abbrev pub slot_length : List ℕ → ℕ → ℕ
slot_length mem at = 2 + matches_at mem at + 2 * strings_at mem at

-- how many strings the matches of the slot at `at` have, by their number and the index after them
abbrev pub strings_before : ℕ → ℕ → ℕ → ℕ
strings_before next at matches = (next - (at + 2) - matches) / 2

-- how many numbers a slot takes at most, 2 + 256 + 2 × 512; and where the slot after k others lies
abbrev pub slot_size : ℕ
slot_size = 1282

abbrev pub slot_at : ℕ → ℕ
slot_at k = k * slot_size

-- where the slot to build in lies: after eight others
abbrev pub scratch : ℕ
scratch = 10256

-- memory holds the numbers xs from the index at on
pub record Holds (mem : List ℕ) (at : ℕ) (xs : List ℕ) : Type 0 where
  pub within : at + length xs ≤ length mem
  pub part : take (length xs) (drop at mem) ≡ xs
