-- The finds of a phrase: its list has a match for each, with the find's string as its one include.
use Rattle.std.specs.Prelude.{ℕ, ◌+◌, ◌-◌, true, List, [], ◌∷◌, map, length}
use Rattle.model.specs.Lists.{keep, from_to}
use Rattle.model.specs.Matches.{Str, Match}
use Rattle.model.specs.Rules.{stand_from}
use Rattle.model.specs.Families.{Searched}
use Rattle.store.specs.Slot.{SlotHolds}

-- the match of a find
abbrev pub find : Str → Match
find s = record { includes = s ∷ []; excludes = [] }

-- the strings of a phrase's finds
unfoldable pub finds_of : Searched → ℕ → List ℕ → List Str
finds_of s rank ws =
    map (λ p. record { start = p; end = p + length ws - 1; query = rank; contiguous = true }) (keep (stand_from s ws) (from_to 1 s.section.tokens))

-- the finds of a phrase lie in the slot at src
-- A clause, not a type: memory is lent to be written.
pub record FindsAt (mem : List ℕ) (src : ℕ) : Type 0 where
  pub finds : List Str
  pub slot : SlotHolds mem src (map find finds)
