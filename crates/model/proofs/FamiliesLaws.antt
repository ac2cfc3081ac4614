-- Where a word stands in a family table, and what fits it.
use Prim.Native.Nat.{ℕ, ◌+◌, ◌-◌, ◌≤◌}
use native.Mathlib.Omega.{arith}
use mathlib.Core.Path.{◌≡◌, refl, ap, ◌∙◌, fun_ext}
use mathlib.Core.Bool.{Bool, false, ◌||◌, or-false}
use mathlib.Core.List.{List}
use Rattle.std.specs.Prelude.{Option, Some, None}
use lib.Dec.{eqb}
use borrow.Author.Tests.{eqb-true, eq-eqb, ne_eqb}
use Rattle.model.specs.Accepted.{RisingStrictly}
use Rattle.model.specs.Families.{empty_table, entry_of, family_of, same_family, word_fits, searched_of, equal_words}
use Rattle.model.specs.Lists.{first, from_to}
use Rattle.model.specs.Section.{size, first_at, second_at}
use Rattle.model.proofs.ListsLaws.{range-append, first-append, first-range-here, range-first-none, first-range-some}

-- ---- entry_of

module _ (families : List ℕ) (word : ℕ) where
  -- an entry that has the word
  pub entry_some : (i : ℕ) → entry_of families word ≡ Some i → (1 ≤ i) × (i ≤ size families) × (first_at families i ≡ word)
  unfolding entry_of
  entry_some i e =
      let f = first-range-some (λ j. eqb (first_at families j) word) 1 (size families) i e in
      (f.0, f.1, eqb-true _ _ f.2)

  pub entry_none : ((i : ℕ) → 1 ≤ i → i ≤ size families → first_at families i ≡ word → ⊥) → entry_of families word ≡ None
  unfolding entry_of
  entry_none h = range-first-none _ 1 (size families) (λ i a b. ne_eqb _ _ (h i a b))

  -- in a table whose words rise it is the only one
  pub entry_at : RisingStrictly (first_at families) (size families) → (i : ℕ) → 1 ≤ i → i ≤ size families → first_at families i ≡ word → entry_of families word ≡ Some i
  unfolding entry_of
  entry_at r i a b e =
      ap (first has) (range-append 1 (i - 1) (size families) (omega arith) (omega arith))
      ∙ first-append has (from_to 1 (i - 1)) (from_to (i - 1 + 1) (size families))
      ∙ rw (range-first-none has 1 (i - 1) before) (here (i - 1 + 1) (omega arith))
    where
      has : ℕ → Bool
      has j = eqb (first_at families j) word

      before : (j : ℕ) → 1 ≤ j → j ≤ i - 1 → has j ≡ false
      before j h k = ne_eqb (first_at families j) word (λ f. absurd (omega (arith, r j i h (omega arith) b, f, e)))

      here : (k : ℕ) → k ≡ i → first has (from_to k (size families)) ≡ Some i
      here k f = rw f (first-range-here has i (size families) b (eq-eqb _ _ e))

-- ---- family_of, word_fits

family_out : (families : List ℕ) (word : ℕ) → entry_of families word ≡ None → family_of families word ≡ None
unfolding family_of
family_out families word e = rw e

family_in : (families : List ℕ) (word i : ℕ) → entry_of families word ≡ Some i → family_of families word ≡ Some (second_at families i)
unfolding family_of
family_in families word i e = rw e

same_none : (o : Option ℕ) → same_family o None ≡ false
same_none (Some f) = refl
same_none None = refl

-- what fits a word out of the table, or is out of it itself, equals it
module _ (families : List ℕ) (token word : ℕ) where
  pub fits_out : entry_of families word ≡ None → word_fits families token word ≡ eqb token word
  unfolding word_fits
  fits_out e = rw (family_out families word e, same_none (family_of families token)) (or-false (eqb token word))

  pub out_fits : entry_of families token ≡ None → word_fits families token word ≡ eqb token word
  unfolding word_fits
  out_fits e = rw (family_out families token e) (or-false (eqb token word))

  -- where both are in the table, their families decide
  pub fits_in : (i j : ℕ) → entry_of families token ≡ Some i → entry_of families word ≡ Some j
      → word_fits families token word ≡ (eqb token word || eqb (second_at families i) (second_at families j))
  unfolding word_fits
  fits_in i j e f = rw (family_in families token i e, family_in families word j f)

-- ---- the empty table

pub fits_empty : (token word : ℕ) → word_fits empty_table token word ≡ eqb token word
fits_empty token word = fits_out empty_table token word (entry_none empty_table word (λ i a b. absurd (omega arith)))

pub searched_empty : (section : List ℕ) → searched_of section empty_table ≡ equal_words section
searched_empty section = ap (λ (f : ℕ → ℕ → Bool). record { section = (equal_words section).section; fits = f }) (fun_ext (λ token. fun_ext (λ word. fits_empty token word)))
