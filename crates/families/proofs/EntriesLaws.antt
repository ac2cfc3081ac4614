-- The entry that has a word gives its family; entries that are passed don't have the family that is looked for.
use Prim.Native.Nat.{ℕ, zero, suc, ◌+◌, ◌≤◌, ◌<◌}
use native.Mathlib.Nat.{eq-or-lt_of_le}
use native.Mathlib.Omega.{arith}
use mathlib.Core.Path.{◌≡◌, refl, sym, ◌∙◌, subst}
use mathlib.Core.List.{List}
use mathlib.Core.Logic.{⊎_elim}
use Rattle.std.specs.Prelude.{Option, Some, None, MatchOption, option_map}
use lib.ListN.{get_or}
use Rattle.model.specs.Accepted.{RisingStrictly}
use Rattle.model.specs.Families.{entry_of, family_of}
use Rattle.model.specs.Section.{size, first_at, second_at}
use Rattle.model.proofs.FamiliesLaws.{entry_some, entry_none, entry_at}
use Rattle.slices.specs.Blocks.{Lacks, block_size}
use Rattle.families.specs.Entries.{PassedBy, NextMember}
use Rattle.model.proofs.TestsLaws.{lt-or-le}

-- ---- family_of

-- an entry that has a word, and its family
pub record EntryHas (families : List ℕ) (word family : ℕ) : Type 0 where
  pub at : ℕ
  pub from_one : 1 ≤ at
  pub up_to : at ≤ size families
  pub has_word : first_at families at ≡ word
  pub has_family : second_at families at ≡ family

module _ (families : List ℕ) (word : ℕ) where
  pub family_none : ((i : ℕ) → 1 ≤ i → i ≤ size families → first_at families i ≡ word → ⊥) → family_of families word ≡ None
  unfolding family_of
  family_none h = rw (entry_none families word h)

  pub family_missing : {entry : Option ℕ} → entry ≡ entry_of families word → entry ≡ None → family_of families word ≡ None
  unfolding family_of
  family_missing e h = rw (sym e ∙ h)

  pub family_found : {entry : Option ℕ} → entry ≡ entry_of families word → (i : ℕ) → entry ≡ Some i → family_of families word ≡ Some (second_at families i)
  unfolding family_of
  family_found e i h = rw (sym e ∙ h)

  pub entry_in : {entry : Option ℕ} → entry ≡ entry_of families word → (i : ℕ) → entry ≡ Some i → i ≤ size families
  entry_in e i h = (entry_some families word i (sym e ∙ h)).1

  pub family_at : RisingStrictly (first_at families) (size families) → (i : ℕ) → 1 ≤ i → i ≤ size families → first_at families i ≡ word
      → family_of families word ≡ Some (second_at families i)
  unfolding family_of
  family_at r i a b e = rw (entry_at families word r i a b e)

  pub family_some : (family : ℕ) → family_of families word ≡ Some family → EntryHas families word family
  unfolding family_of
  family_some family e = at (entry_of families word) refl e
    where
      at : (o : Option ℕ) → entry_of families word ≡ o → option_map (second_at families) o ≡ Some family → EntryHas families word family
      at (Some i) f g = let h = entry_some families word i f in record { at = i; from_one = h.0; up_to = h.1; has_word = h.2; has_family = cc }
      at None f g = absurd (cc)

-- ---- PassedBy

module _ {families : List ℕ} {family : ℕ} where
  pub passed_none : {from : ℕ} → from ≤ size families + 1 → PassedBy families family from from
  passed_none h = record { not_before = omega arith; up_to = h; none_has = λ j a b. absurd (omega arith) }

  -- on to the next entry
  pub passed-next : {from i : ℕ} → PassedBy families family from i → i ≤ size families → (second_at families i ≡ family → ⊥) → PassedBy families family from (i + 1)
  passed-next {from} {i} g h other = record { not_before = omega (arith, g.not_before); up_to = omega arith; none_has = none_has }
    where
      none_has : (j : ℕ) → from ≤ j → j < i + 1 → second_at families j ≡ family → ⊥
      none_has j a b e =
          let k : j ≤ i = omega arith in
          ⊎_elim (λ q. other (subst (λ (x : ℕ). second_at families x ≡ family) q e)) (λ l. g.none_has j a l e) (eq-or-lt_of_le k)

  -- on over n entries that don't have the family
  pub passed-more : (n : ℕ) {from i : ℕ} → PassedBy families family from i → i + n ≤ size families + 1
      → ((j : ℕ) → j < n → second_at families (i + j) ≡ family → ⊥) → PassedBy families family from (i + n)
  passed-more zero {from} {i} g h lacks = let end : i ≡ i + 0 = omega arith in subst (λ (x : ℕ). PassedBy families family from x) end g
  passed-more (suc n) {from} {i} g h lacks =
      let end : i + n + 1 ≡ i + suc n = omega arith in
      let most = passed-more n g (omega arith) (λ j l. lacks j (omega arith)) in
      subst (λ (x : ℕ). PassedBy families family from x) end (passed-next most (omega arith) (lacks n (omega arith)))

  pub passed_block : {from i m : ℕ} → m ≡ size families → PassedBy families family from i → i + block_size ≤ m + 1 → Lacks families (m + i) family block_size
      → PassedBy families family from (i + block_size)
  passed_block {from} {i} {m} e g h lacks =
      passed-more block_size g (omega arith)
      (λ j l q. let at : size families + (i + j) ≡ m + i + j = omega arith in lacks j l (subst (λ (x : ℕ). get_or families x 0 ≡ family) at q))

-- the next entry that has the family, from the one that is reached on
abbrev Reached : List ℕ → ℕ → ℕ → Option ℕ → ℕ → Type 0
Reached families family begin next m =
    MatchOption next ((k : ℕ) → begin ≤ k → k < m + 1 → get_or families (m + k) 0 ≡ family → ⊥)
    (λ i. (begin ≤ i) × (i < m + 1) × (get_or families (m + i) 0 ≡ family) × ((k : ℕ) → begin ≤ k → k < i → get_or families (m + k) 0 ≡ family → ⊥))

module _ {families : List ℕ} {family : ℕ} where
  pub next_from : (m : ℕ) → m ≡ size families → {from begin : ℕ} → PassedBy families family from begin → (next : Option ℕ) → Reached families family begin next m → NextMember families family from next
  next_from m e {from} {begin} g next reached = told next (subst (Reached families family begin next) e reached)
    where
      passed : {i : ℕ} → begin ≤ i → i ≤ size families + 1 → ((k : ℕ) → begin ≤ k → k < i → second_at families k ≡ family → ⊥) → PassedBy families family from i
      passed h l none_in =
          record { not_before = omega (arith, g.not_before); up_to = l; none_has = λ j a b. ⊎_elim (λ c. g.none_has j a c) (λ c. none_in j c b) (lt-or-le j begin) }

      told : (next : Option ℕ) → Reached families family begin next (size families) → NextMember families family from next
      told None h = passed g.up_to (omega arith) h
      told (Some i) h = record { passed = passed h.0 (omega (arith, h.1)) h.3; in_table = omega (arith, h.1); has = h.2 }
