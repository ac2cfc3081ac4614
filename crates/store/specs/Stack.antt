-- The lists that wait, the last first, each in its slot: the first of them all at 0.
use Rattle.std.specs.Prelude.{ℕ, List, [], ◌∷◌, length}
use Rattle.model.specs.Matches.{Match}
use Rattle.store.specs.Layout.{slot_at}
use Rattle.store.specs.Slot.{SlotHolds}

unfoldable pub Stack : List ℕ → List (List Match) → Type 0
Stack mem [] = Unit {0}
Stack mem (ms ∷ below) = SlotHolds mem (slot_at (length below)) ms × Stack mem below
