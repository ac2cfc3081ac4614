-- The kin of a word: the words of its family, or the word alone where it is in no family.
use Rattle.std.specs.Prelude.{ℕ, ◌≤◌, ◌<◌, true, List, ◌≡◌, eqb}
use Rattle.model.specs.Families.{word_fits}
use Rattle.model.specs.Lists.{any_of}
use Rattle.model.specs.Section.{first_at, second_at}

-- the most kin that are told; src/kin.rt has the same number for the code
abbrev pub most_kin : ℕ
most_kin = 32

-- they are the words that fit
abbrev pub KinOf : List ℕ → ℕ → List ℕ → Type 0
KinOf families word kin = (token : ℕ) → word_fits families token word ≡ any_of (eqb token) kin

-- an entry before i that has a word and a family
pub record EntryBefore (families : List ℕ) (i word family : ℕ) : Type 0 where
  pub at : ℕ
  pub from_one : 1 ≤ at
  pub before : at < i
  pub has_word : first_at families at ≡ word
  pub has_family : second_at families at ≡ family

-- the words of the entries before i that have a family
pub record Gathered (families : List ℕ) (family : ℕ) (kin : List ℕ) (i : ℕ) : Type 0 where
  pub some_entry : (token : ℕ) → any_of (eqb token) kin ≡ true → EntryBefore families i token family
  pub every_entry : (j : ℕ) → 1 ≤ j → j < i → second_at families j ≡ family → any_of (eqb (first_at families j)) kin ≡ true
