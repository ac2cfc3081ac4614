-- Entries of a family table: how many there are and whether their words rise, and the next entry of a family.
use Rattle.std.specs.Prelude.{ℕ, ◌+◌, ◌*◌, ◌≤◌, ◌<◌, List, Option, ◌≡◌, MatchOption, length}
use Rattle.model.specs.Limits.{max_entries}
use Rattle.model.specs.Section.{size, first_at, second_at}

-- a slice of the right length for so many entries
pub record TableSized (families : List ℕ) (m : ℕ) : Type 0 where
  pub m_is : m ≡ size families
  pub few : m ≤ max_entries
  pub sized : length families ≡ 1 + 2 * size families

-- the words of the n entries after entry p are each above the one before it
abbrev pub RisesFrom : List ℕ → ℕ → ℕ → Type 0
RisesFrom families p n = (i : ℕ) → i < n → first_at families (p + i) < first_at families (p + i + 1)

-- none of the entries from `from` on and before i has the family, and i isn't after the entry that would come after the last
pub record PassedBy (families : List ℕ) (family from i : ℕ) : Type 0 where
  pub not_before : from ≤ i
  pub up_to : i ≤ size families + 1
  pub none_has : (j : ℕ) → from ≤ j → j < i → second_at families j ≡ family → ⊥

-- i is the first entry from `from` on that has the family
pub record MemberAt (families : List ℕ) (family from i : ℕ) : Type 0 where
  pub passed : PassedBy families family from i
  pub in_table : i ≤ size families
  pub has : second_at families i ≡ family

-- the first entry from `from` on that has the family, where there is one
abbrev pub NextMember : List ℕ → ℕ → ℕ → Option ℕ → Type 0
NextMember families family from next = MatchOption next (PassedBy families family from (size families + 1)) (MemberAt families family from)
