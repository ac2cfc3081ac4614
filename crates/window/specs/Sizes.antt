-- How many windows there are, and how many strings they hold.
use Rattle.std.specs.Prelude.{ℕ, ◌+◌, ◌-◌, ◌≤◌, min, max, List, [], ◌∷◌, ◌≡◌, length}
use Rattle.model.specs.Limits.{max_matches, max_strings}
use Rattle.model.specs.Matches.{Match, Str, strings, strings_in}
use Rattle.model.specs.AllStrings.{AllMatch}
use Rattle.store.specs.ValidStr.{ValidStr}
use Rattle.window.specs.Inside.{WindowSize}

-- "each W from (greatest end − N + 1) up to least start": how many
abbrev pub windows_around : ℕ → ℕ → ℕ → ℕ
windows_around n start end = start + n - end

-- how many windows hold each of the strings, summed: as many as there are around it and the join
unfoldable pub times_inside : ℕ → ℕ → ℕ → List Str → ℕ
times_inside n start end [] = 0
times_inside n start end (s ∷ ss) = windows_around n (min start s.start) (max end s.end) + times_inside n start end ss

-- a match, and a list of so many matches and strings, within the limits
pub record SizeAt (n : ℕ) (item : Match) (matches strs : ℕ) : Type 0 where
  pub list : List Match
  pub size : WindowSize n
  pub valid : AllMatch ValidStr item
  pub few : strings_in item ≤ max_strings
  pub matches_are : length list ≡ matches
  pub strings_are : strings list ≡ strs
  pub few_matches : matches ≤ max_matches
  pub few_strings : strs ≤ max_strings
