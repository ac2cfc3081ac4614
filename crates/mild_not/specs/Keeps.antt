-- What a match of L against R requires, and what is said of it.
use Rattle.std.specs.Prelude.{◌≡◌, ℕ, Bool, List, Option, Some}
use Rattle.model.specs.Lists.{all_of}
use Rattle.model.specs.Matches.{Match}
use Rattle.model.specs.Rules.{has_uncovered}
use Rattle.candidates.specs.declared.Candidates.{Candidates}
use Rattle.candidates.specs.declared.edges.Edges.{Edges}
use Rattle.candidates.specs.Candidates.{KnownAre}
use Rattle.candidates.specs.Edges.{edges_of}
use Rattle.store.specs.Stream.{MatchHolds, Remaining}

-- a match with these edges at `left`, and matches of R from `from` up to `end`
pub record SearchAt (mem : List ℕ) (left : ℕ) (edges : Edges) (from end : ℕ) : Type 0 where
  pub item : Match
  pub held : MatchHolds mem left item
  pub edges_are : edges_of item.includes ≡ Some edges
  pub rights : List Match
  pub stream : Remaining rights mem from end

-- what is said of a match l, and what is known of R after it
pub record KeptIs (l : Match) (rights : List Match) (mem : List ℕ) (r : ℕ) (known : Option Candidates) (answer : Bool) : Type 0 where
  pub kept : answer ≡ all_of (has_uncovered l) rights
  pub candidates : KnownAre rights mem r known
