-- What writing a not requires: a list in a slot below, its number of choices, and room.
use Rattle.std.specs.Prelude.{ℕ, ◌+◌, ◌≤◌, ◌<◌, List, ◌≡◌, length, get_or}
use Rattle.model.specs.Choices.{choices, choice}
use Rattle.model.specs.Matches.{Match}
use Rattle.model.specs.Rules.{not_list}
use Rattle.store.specs.Layout.{match_numbers, matches_numbers, slot_size}
use Rattle.store.specs.Slot.{SlotHolds}
use Rattle.negation.specs.Turned.{side_numbers, turned_numbers}

-- a string at a, and room at q for it turned to a sort
pub record TurnAt (mem : List ℕ) (a sort q : ℕ) : Type 0 where
  pub sort_is : sort ≤ 1
  pub reads : a + 2 ≤ length mem
  pub room : q + length (turned_numbers sort (get_or mem a 0) (get_or mem (a + 1) 0)) ≤ length mem

-- a list in the slot at src, which lies below at, and its number of choices
pub record Source (list : List Match) (mem : List ℕ) (src total at : ℕ) : Type 0 where
  pub slot : SlotHolds mem src list
  pub below : src + slot_size ≤ at
  pub total_is : total ≡ choices list

-- room for choice number c's strings of a sort ..
pub record SideAt (mem : List ℕ) (src total c sort at : ℕ) : Type 0 where
  pub list : List Match
  pub source : Source list mem src total at
  pub in_range : c < total
  pub sort_is : sort ≤ 1
  pub room : at + length (side_numbers sort (choice list c)) ≤ length mem

-- .. for the whole of it ..
pub record ChoiceAt (mem : List ℕ) (src total c at : ℕ) : Type 0 where
  pub list : List Match
  pub source : Source list mem src total at
  pub in_range : c < total
  pub room : at + length (match_numbers (choice list c)) ≤ length mem

-- .. and for all choices
pub record ChoicesAt (mem : List ℕ) (src total at : ℕ) : Type 0 where
  pub list : List Match
  pub source : Source list mem src total at
  pub room : at + length (matches_numbers (not_list list)) ≤ length mem
