-- The part of R that can cover a match of L.
use Rattle.std.specs.Prelude.{ℕ, ◌+◌, ◌≤◌, true, List, Option, None, Some, ◌≡◌}
use Rattle.model.specs.Lists.{all_of}
use Rattle.model.specs.Matches.{Match}
use Rattle.model.specs.Rules.{covered, has_uncovered}
use Rattle.store.specs.Layout.{slot_size}
use Rattle.store.specs.Slot.{SlotHolds}
use Rattle.store.specs.Stream.{MatchHolds, Remaining, StreamAt}
use Rattle.candidates.specs.Edges.{Within}
use Rattle.candidates.specs.declared.Candidates.{Candidates}

-- for every match that covers a position of each range, the part decides as all of `rights` does; it ends within the slot at r
pub record CandidatesAre (rights : List Match) (mem : List ℕ) (r : ℕ) (candidates : Candidates) : Type 0 where
  pub part : List Match
  pub stream : Remaining part mem candidates.from candidates.end
  pub within : candidates.end ≤ r + slot_size
  pub same : (p q : ℕ) → Within candidates.ranges.start p → Within candidates.ranges.end q → (l : Match) → covered l.includes p ≡ true → covered l.includes q ≡ true
      → all_of (has_uncovered l) part ≡ all_of (has_uncovered l) rights

-- .. if any part is known
abbrev pub KnownAre : List Match → List ℕ → ℕ → Option Candidates → Type 0
KnownAre rights mem r None = Unit {0}
KnownAre rights mem r (Some candidates) = CandidatesAre rights mem r candidates

-- a match at `left`, the first of n, R in the slot at r, and a part of it
pub record CandidatesAt (mem : List ℕ) (left n r : ℕ) (known : Option Candidates) : Type 0 where
  pub item : Match
  pub rights : List Match
  pub held : MatchHolds mem left item
  pub ahead : StreamAt mem left n
  pub slot : SlotHolds mem r rights
  pub candidates : KnownAre rights mem r known
