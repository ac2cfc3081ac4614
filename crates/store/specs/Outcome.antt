-- What a rule leaves: its answer; and, where the list isn't too long, the list in the slot at `at` and nothing else changed.
use Rattle.std.specs.Prelude.{ℕ, false, List, [], ◌∷◌, ◌≡◌}
use Rattle.std.proofs.lemmas.List.Edits.{sets}
use Rattle.model.specs.Matches.{Match, too_long}
use Rattle.store.specs.declared.Size.{Size}
use Rattle.store.specs.Built.{Built, built_of}
use Rattle.store.specs.Layout.{slot_numbers, strings_before}

pub record Outcome (list : List Match) (entry exit : List ℕ) (at : ℕ) (built : Built) : Type 0 where
  pub answered : built ≡ built_of list
  pub written : too_long list ≡ false → exit ≡ sets entry at (slot_numbers list)

-- a slot's header put, where its matches, so many, end before next
pub record Closed (entry exit : List ℕ) (at next matches : ℕ) (size : Size) : Type 0 where
  pub counted : size ≡ record { matches = matches; strings = strings_before next at matches }
  pub header : exit ≡ sets entry at (matches ∷ strings_before next at matches ∷ [])
