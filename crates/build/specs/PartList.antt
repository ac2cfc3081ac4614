-- What building a part comes to: its complete list in the first slot, or refusal 9 at the first of its codes whose list is too long.
use Rattle.std.specs.Prelude.{ℕ, List, ◌≡◌}
use Rattle.std.specs.Prelude.{Some, None, option_map, Result, Ok, Err}
use Rattle.model.specs.declared.Reason.TheVariants.{LongList}
use Rattle.model.specs.declared.Refusal.{Refusal}
use Rattle.model.specs.AllMatches.{all_matches}
use Rattle.model.specs.Checks.{refusal}
use Rattle.model.specs.Families.{Searched}
use Rattle.model.specs.Trees.{Tree, parts}
use Rattle.model.specs.Walk.{first_too_long}
use Rattle.store.specs.Slot.{SlotHolds}

pub record PartList (s : Searched) (t : Tree) (mem : List ℕ) (part : Result (Unit {0}) Refusal) : Type 0 where
  pub slot : part ≡ Ok tt → SlotHolds mem 0 (all_matches s t)
  pub valid : part ≡ Ok tt → first_too_long s (parts t) ≡ None
  pub refused : (r : Refusal) → part ≡ Err r → option_map (refusal LongList) (first_too_long s (parts t)) ≡ Some r
