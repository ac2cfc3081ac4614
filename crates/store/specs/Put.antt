-- What is written: numbers or matches, from q on, with nothing else changed.
use Rattle.std.specs.Prelude.{ℕ, ◌+◌, List, ◌≡◌, length}
use Rattle.std.proofs.lemmas.List.Edits.{sets}
use Rattle.model.specs.Matches.{Match}
use Rattle.store.specs.Layout.{matches_numbers}

-- the numbers xs, and the index after them
pub record Put (entry exit : List ℕ) (q : ℕ) (xs : List ℕ) (next : ℕ) : Type 0 where
  pub wrote : exit ≡ sets entry q xs
  pub next_is : next ≡ q + length xs

-- the matches ms, the index after them, and how many they are
pub record PutMatches (entry exit : List ℕ) (q : ℕ) (ms : List Match) (next count : ℕ) : Type 0 where
  pub put : Put entry exit q (matches_numbers ms) next
  pub count_is : length ms ≡ count
