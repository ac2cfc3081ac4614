-- What stands nowhere in a block of positions.
use Rattle.std.specs.Prelude.{ℕ, ◌+◌, ◌<◌, false, List, ◌≡◌, eqb, get_or}
use Rattle.model.specs.Lists.{any_of}

-- the two words are nowhere both at the same offset of n numbers from left on and of n from right on
abbrev pub LacksPair : List ℕ → ℕ → ℕ → ℕ → ℕ → ℕ → Type 0
LacksPair section left one right other n = (i : ℕ) → i < n → get_or section (left + i) 0 ≡ one → get_or section (right + i) 0 ≡ other → ⊥

-- none of the n numbers from an index on is one of the kin
abbrev pub LacksKin : List ℕ → ℕ → List ℕ → ℕ → Type 0
LacksKin section at kin n = (i : ℕ) → i < n → any_of (eqb (get_or section (at + i) 0)) kin ≡ false
