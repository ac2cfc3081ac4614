-- A rule that goes over a list match by match and writes what it makes of each, F, from an index above the list on.
use Rattle.std.specs.Prelude.{ℕ, ◌+◌, ◌≤◌, ◌≡◌, length, get_or}
use mathlib.Core.List.{List, flat_map}
use Rattle.model.specs.Matches.{Match}
use Rattle.store.specs.Layout.{match_length, matches_numbers}
use Rattle.store.specs.Put.{Put}
use Rattle.store.specs.Stream.{MatchHolds, Remaining}
use Rattle.std.specs.Borrow.{MutBor}

module _ (F : Match → List Match) where
  -- the match m at `from`, below q, and room there for what the rule makes of it
  pub record One (m : Match) (mem : List ℕ) (from q : ℕ) : Type 0 where
    pub held : MatchHolds mem from m
    pub below : from + match_length (get_or mem from 0) ≤ q
    pub room : q + length (matches_numbers (F m)) ≤ length mem

  pub record OneAt (mem : List ℕ) (from q : ℕ) : Type 0 where
    pub item : Match
    pub one : One item mem from q

  -- the n matches of a list from `from` on, below `at`, and room there for what the rule makes of them
  pub record Each (list : List Match) (mem : List ℕ) (from n at : ℕ) : Type 0 where
    pub end : ℕ
    pub stream : Remaining list mem from end
    pub count : length list ≡ n
    pub below : end ≤ at
    pub room : at + length (matches_numbers (flat_map F list)) ≤ length mem

-- A rule's writer by what it requires and ensures, pre and post: of the match at p it puts what F makes of it to q, where what is written before it, from `at` to q,
-- is all that is changed. Pre and post are of memory as it is lent, the two indices, and then the index after and memory as it is left.
pub record Writer (pre : MutBor (List ℕ) → ℕ → ℕ → Type 0) (post : MutBor (List ℕ) → ℕ → ℕ → ℕ → MutBor (List ℕ) → Type 0) (mem : List ℕ) (from n at : ℕ) : Type 0 where
  pub rule : Match → List Match
  pub list : List Match
  pub each : Each rule list mem from n at
  pub may : (m : MutBor (List ℕ)) (p q : ℕ) (written : List ℕ) → Put mem m.now at written q → OneAt rule m.now p q → pre m p q
  pub does : (m m' : MutBor (List ℕ)) (p q next : ℕ) (written : List ℕ) → Put mem m.now at written q → (o : OneAt rule m.now p q) → post m p q next m'
      → Put m.now m'.now q (matches_numbers (rule o.item)) next
