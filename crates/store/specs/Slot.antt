-- A list in a slot: a record of facts about a list, and a record that holds the list too.
use Rattle.std.specs.Prelude.{ℕ, ◌+◌, ◌≤◌, List, length}
use Rattle.model.specs.AllStrings.{AllList}
use Rattle.model.specs.Limits.{max_matches, max_strings}
use Rattle.model.specs.Matches.{Match, strings}
use Rattle.store.specs.ValidStr.{ValidStr}
use Rattle.store.specs.Layout.{Holds, matches_at, strings_at, slot_length, slot_numbers}

-- what the header of the slot at `at` says: a list that lies within memory and is within the limits
pub record SlotHeader (mem : List ℕ) (at : ℕ) : Type 0 where
  pub within : at + slot_length mem at ≤ length mem
  pub few : matches_at mem at ≤ max_matches
  pub strs : strings_at mem at ≤ max_strings

-- the list ms lies in the slot at `at`; its header's numbers besides, for what a proof about numbers reads by itself
pub record SlotHolds (mem : List ℕ) (at : ℕ) (ms : List Match) : Type 0 where
  pub holds : Holds mem at (slot_numbers ms)
  pub few : length ms ≤ max_matches
  pub strs : strings ms ≤ max_strings
  pub valid : AllList ValidStr ms
  pub header : SlotHeader mem at

-- A clause of each call, not a type: memory is lent to be written, and other slots lie in it.
pub record SlotAt (mem : List ℕ) (at : ℕ) : Type 0 where
  pub list : List Match
  pub slot : SlotHolds mem at list

-- a left and a right list in their slots: what a rule of two lists requires, and what its contract speaks of
pub record TwoSlots (mem : List ℕ) (l r : ℕ) : Type 0 where
  pub lefts : List Match
  pub rights : List Match
  pub left : SlotHolds mem l lefts
  pub right : SlotHolds mem r rights
