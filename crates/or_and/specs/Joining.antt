-- What the steps of `and` require: a record of facts about matches, and a record that holds the matches too.
use Rattle.std.specs.Prelude.{ℕ, ◌+◌, ◌-◌, ◌≤◌, ◌≡◌, List, map, length, get_or}
use Rattle.model.specs.Matches.{Match}
use Rattle.model.specs.Rules.{joined}
use Rattle.store.specs.Layout.{match_length, matches_numbers}
use Rattle.store.specs.Stream.{MatchHolds, Remaining}

-- in a memory of so many numbers, the numbers from a up to e and those from b up to f lie below `to`, and there is room there for all of them
pub record CopyBoth (size a e b f to : ℕ) : Type 0 where
  pub first : a ≤ e
  pub second : b ≤ f
  pub below_first : e ≤ to
  pub below_second : f ≤ to
  pub room : to + (e - a) + (f - b) ≤ size

-- the matches at pl and pr lie below q, and there is room there for both as one: their numbers, with one header for two
pub record Joinable (left right : Match) (mem : List ℕ) (pl pr q : ℕ) : Type 0 where
  pub held_left : MatchHolds mem pl left
  pub held_right : MatchHolds mem pr right
  pub below_left : pl + match_length (get_or mem pl 0) ≤ q
  pub below_right : pr + match_length (get_or mem pr 0) ≤ q
  pub room : q + match_length (get_or mem pl 0) + match_length (get_or mem pr 0) ≤ length mem + 1

pub record JoinableAt (mem : List ℕ) (pl pr q : ℕ) : Type 0 where
  pub left : Match
  pub right : Match
  pub pair : Joinable left right mem pl pr q

-- the match at pl and the n matches from pr on lie below q, and there is room there for the one joined with each of the others
pub record Row (left : Match) (rights : List Match) (mem : List ℕ) (pl pr n q : ℕ) : Type 0 where
  pub end : ℕ
  pub held : MatchHolds mem pl left
  pub stream : Remaining rights mem pr end
  pub count : length rights ≡ n
  pub below_left : pl + match_length (get_or mem pl 0) ≤ q
  pub below_right : end ≤ q
  pub room : q + length (matches_numbers (map (joined left) rights)) ≤ length mem

pub record RowAt (mem : List ℕ) (pl pr n q : ℕ) : Type 0 where
  pub left : Match
  pub rights : List Match
  pub row : Row left rights mem pl pr n q
