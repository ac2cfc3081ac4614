-- A match in memory, and the matches of a list one after the other. Each is a record of facts about a list, and a record that holds the list too:
-- the second is what a function requires, and what its contract speaks of.
use Rattle.std.specs.Prelude.{ℕ, ◌+◌, ◌≤◌, List, ◌≡◌, length, get_or}
use Rattle.model.specs.AllStrings.{AllMatch, AllList}
use Rattle.model.specs.Limits.{max_strings}
use Rattle.model.specs.Matches.{Match, strings_in, strings}
use Rattle.store.specs.ValidStr.{ValidStr}
use Rattle.store.specs.Layout.{Holds, includes_in, excludes_in, match_length, match_numbers, matches_numbers}

-- what the header at `at` says: a match that lies within memory, with strings within the limits
pub record MatchHeader (mem : List ℕ) (at : ℕ) : Type 0 where
  pub within : at + match_length (get_or mem at 0) ≤ length mem
  pub few : includes_in (get_or mem at 0) + excludes_in (get_or mem at 0) ≤ max_strings

-- the match m lies at `at`; its header's numbers besides, for what a proof about numbers reads by itself
pub record MatchHolds (mem : List ℕ) (at : ℕ) (m : Match) : Type 0 where
  pub holds : Holds mem at (match_numbers m)
  pub few : strings_in m ≤ max_strings
  pub valid : AllMatch ValidStr m
  pub header : MatchHeader mem at

-- of a list the matches todo are left to a loop: they lie from `from` up to end
pub record Remaining (todo : List Match) (mem : List ℕ) (from end : ℕ) : Type 0 where
  pub holds : Holds mem from (matches_numbers todo)
  pub up_to : from + length (matches_numbers todo) ≡ end
  pub few : strings todo ≤ max_strings
  pub valid : AllList ValidStr todo

-- A clause of each call, not a type: the loops that ask it answer where a match lies.
pub record RemainingAt (mem : List ℕ) (from end : ℕ) : Type 0 where
  pub list : List Match
  pub stream : Remaining list mem from end

-- n matches lie from `from` on
pub record StreamAt (mem : List ℕ) (from n : ℕ) : Type 0 where
  pub list : List Match
  pub end : ℕ
  pub stream : Remaining list mem from end
  pub count : length list ≡ n

-- a loop that looks for a result: f gives it of the matches that are left
pub record SearchInvariant {A : Type 0} (result : A) (f : List Match → A) (mem : List ℕ) (from end : ℕ) : Type 0 where
  pub todo : List Match
  pub left : Remaining todo mem from end
  pub same : f todo ≡ result
