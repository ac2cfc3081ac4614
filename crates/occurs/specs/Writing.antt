-- What writing the choices requires: a phrase's finds in a slot below, how many choices there are, how many finds are too many, and room.
use Rattle.std.specs.Prelude.{ℕ, ◌+◌, ◌*◌, ◌≤◌, ◌<◌, List, map, ◌≡◌, length}
use Rattle.model.specs.Limits.{max_matches}
use Rattle.model.specs.Matches.{Str}
use Rattle.store.specs.Layout.{slot_size, match_numbers, matches_numbers}
use Rattle.store.specs.Slot.{SlotHolds}
use Rattle.occurs.specs.Binomial.{binomial, chosen}
use Rattle.occurs.specs.Counts.{choices_from}
use Rattle.occurs.specs.Finds.{find}
use Rattle.occurs.specs.WithNot.{match_of, not_matches, not_strings, not_excludes, choice_with_not, choices_with_not, at_least_with_not}

-- the finds in the slot at src, which lies below at
pub record Source (finds : List Str) (mem : List ℕ) (src at : ℕ) : Type 0 where
  pub slot : SlotHolds mem src (map find finds)
  pub below : src + slot_size ≤ at

-- there are so many choices of k finds, within the limit
pub record Total (finds : List Str) (k total : ℕ) : Type 0 where
  pub total_is : total ≡ binomial (length finds) k
  pub few : total ≤ max_matches
  pub small : k ≤ max_matches

-- so many of the finds are too many: none or one, or both of two
pub record Excess (finds : List Str) (excess : ℕ) : Type 0 where
  pub up_to : excess ≤ length finds
  pub two : 2 ≤ excess → length finds ≡ 2

pub record ExcessAt (mem : List ℕ) (src excess : ℕ) : Type 0 where
  pub finds : List Str
  pub slot : SlotHolds mem src (map find finds)
  pub too_many : Excess finds excess

-- room for the includes of choice number c of k finds ..
pub record IncludesAt (mem : List ℕ) (src k total c at : ℕ) : Type 0 where
  pub finds : List Str
  pub source : Source finds mem src at
  pub size : Total finds k total
  pub in_range : c < total
  pub room : at + 2 * k ≤ length mem

-- .. for find number d as an exclude ..
pub record ExcludeAt (mem : List ℕ) (src d at : ℕ) : Type 0 where
  pub finds : List Str
  pub source : Source finds mem src at
  pub in_range : d < length finds
  pub room : at + 2 ≤ length mem

-- .. for the excludes of the not's match number d ..
pub record ExcludesAt (mem : List ℕ) (src excess d at : ℕ) : Type 0 where
  pub finds : List Str
  pub source : Source finds mem src at
  pub too_many : Excess finds excess
  pub in_range : d < not_matches excess (length finds)
  pub room : at + 2 * not_strings excess (length finds) ≤ length mem

-- .. for the two as one match ..
pub record JoinedAt (mem : List ℕ) (src k total c excess d at : ℕ) : Type 0 where
  pub finds : List Str
  pub source : Source finds mem src at
  pub size : Total finds k total
  pub too_many : Excess finds excess
  pub choice : c < total
  pub in_range : d < not_matches excess (length finds)
  pub room : at + length (match_numbers (match_of (chosen k finds c) (not_excludes excess finds d))) ≤ length mem

-- .. for the choice joined with every match of the not ..
pub record ChoiceAt (mem : List ℕ) (src k total c excess at : ℕ) : Type 0 where
  pub finds : List Str
  pub source : Source finds mem src at
  pub size : Total finds k total
  pub too_many : Excess finds excess
  pub in_range : c < total
  pub room : at + length (matches_numbers (choice_with_not excess finds (chosen k finds c))) ≤ length mem

-- .. for every choice of k finds ..
pub record ChoicesAt (mem : List ℕ) (src k total excess at : ℕ) : Type 0 where
  pub finds : List Str
  pub source : Source finds mem src at
  pub size : Total finds k total
  pub too_many : Excess finds excess
  pub room : at + length (matches_numbers (choices_with_not excess finds k)) ≤ length mem

-- .. and for every choice of a finds or more, of which so many have a, the fewest
pub record SizesAt (mem : List ℕ) (src a fewest excess at : ℕ) : Type 0 where
  pub finds : List Str
  pub source : Source finds mem src at
  pub too_many : Excess finds excess
  pub fewest_is : fewest ≡ binomial (length finds) a
  pub few : choices_from (length finds) a ≤ max_matches
  pub room : at + length (matches_numbers (at_least_with_not a excess finds)) ≤ length mem
