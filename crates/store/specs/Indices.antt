-- What the functions require of indices in memory, as plain numbers.
use Rattle.std.specs.Prelude.{ℕ, ◌+◌, ◌-◌, ◌/◌, ◌≤◌, ◌<◌}
use Rattle.model.specs.Limits.{radix}
use Rattle.store.specs.Layout.{slot_size}

-- in a memory of so many numbers, those from `from` up to `end` end before `to`, and there is room there for as many
pub record CopyUp (size from end to : ℕ) : Type 0 where
  pub in_order : from ≤ end
  pub below : end ≤ to
  pub room : to + (end - from) ≤ size

-- counts that a header can hold
pub record Counts (includes excludes : ℕ) : Type 0 where
  pub few_includes : includes < radix
  pub few_excludes : excludes < radix

-- the slot at src lies below the slot at `at`, and that within memory
-- A clause of each call, not a type: it speaks of where two slots lie in memory that is lent to be written.
pub record SlotBelow (size src at : ℕ) : Type 0 where
  pub below : src + slot_size ≤ at
  pub room : at + slot_size ≤ size

-- the matches of the slot at `at`, so many, end before next
pub record Closing (size at next matches : ℕ) : Type 0 where
  pub headers : at + 2 + matches ≤ next
  pub within : next ≤ at + slot_size
  pub room : at + slot_size ≤ size

-- the includes of the match at `at` end before `excludes`, and its excludes before `end`
pub record ClosingMatch (size at excludes end : ℕ) : Type 0 where
  pub within : at < size
  pub includes_end : at + 1 ≤ excludes
  pub excludes_end : excludes ≤ end
  pub counts : Counts ((excludes - (at + 1)) / 2) ((end - excludes) / 2)
