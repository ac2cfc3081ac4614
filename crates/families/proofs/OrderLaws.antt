-- Where the words of some entries rise, none of these is out of order, and the first that doesn't is the first out of order; what the table's check comes to,
-- case by case.
use Prim.Native.Nat.{ℕ, zero, suc, ◌+◌, ◌-◌, ◌≤◌, ◌<◌}
use native.Mathlib.Omega.{arith}
use mathlib.Core.Path.{◌≡◌, sym, ap, ◌∙◌}
use mathlib.Core.Bool.{Bool, true, false}
use mathlib.Core.List.{List}
use Rattle.std.specs.Prelude.{Some, None}
use borrow.Author.Tests.{le-leb, lt-leb}
use lib.Dec.{leb}
use Rattle.model.specs.declared.Reason.TheVariants.{WrongFamilies}
use Rattle.model.specs.Checks.{refusal, tried, out_of_order, wrong_families, entry_out_of_order, families_refusal}
use Rattle.model.specs.Limits.{max_entries}
use Rattle.model.specs.Lists.{first, from_to}
use Rattle.model.specs.Section.{size, first_at, well_sized}
use Rattle.model.proofs.ListsLaws.{range-append, first-append, range-first-none, first-range-here, first-range-later}
use Rattle.families.specs.Entries.{RisesFrom}

module _ (families : List ℕ) (p : ℕ) where
  before : p + 1 - 1 ≡ p
  before = omega arith

  pub out_of_order_lem : first_at families (p + 1) ≤ first_at families p → out_of_order families (p + 1) ≡ true
  out_of_order_lem h = ap (λ (q : ℕ). leb (first_at families (p + 1)) (first_at families q)) before ∙ le-leb _ _ h

  pub rises : first_at families p < first_at families (p + 1) → out_of_order families (p + 1) ≡ false
  rises h = ap (λ (q : ℕ). leb (first_at families (p + 1)) (first_at families q)) before ∙ lt-leb _ _ h

-- the search goes on after them
pub rises_on : (families : List ℕ) (p n m : ℕ) → RisesFrom families p n → p + n ≤ m
    → first (out_of_order families) (from_to (p + 1) m) ≡ first (out_of_order families) (from_to (p + n + 1) m)
rises_on families p zero m r h = let e : p + 1 ≡ p + 0 + 1 = omega arith in ap (λ (q : ℕ). first (out_of_order families) (from_to q m)) e
rises_on families p (suc n) m r h =
    let e : p + n + 1 + 1 ≡ p + suc n + 1 = omega arith in
    rises_on families p n m (λ i l. r i (omega arith)) (omega arith)
    ∙ first-range-later (out_of_order families) (p + n + 1) m (omega arith) (rises families (p + n) (r n (omega arith)))
    ∙ ap (λ (q : ℕ). first (out_of_order families) (from_to q m)) e

-- ---- entry_out_of_order

-- the first number of a range that passes
first_is : (p : ℕ → Bool) (a b i : ℕ) → a ≤ i → i ≤ b → p i ≡ true → ((j : ℕ) → a ≤ j → j < i → p j ≡ false) → first p (from_to a b) ≡ Some i
first_is p zero b zero h l e before = first-range-here p 0 b l e
first_is p (suc a) b zero h l e before = absurd (omega arith)
first_is p a b (suc i) h l e before =
    let q : i + 1 ≡ suc i = omega arith in
    ap (first p) (range-append a i b (omega arith) (omega arith))
    ∙ first-append p (from_to a i) (from_to (i + 1) b)
    ∙ rw (range-first-none p a i (λ j k m. before j k (omega arith)), q) (first-range-here p (suc i) b l e)

-- the search from entry p on is the whole one
abbrev pub Whole : List ℕ → ℕ → ℕ → Type 0
Whole families m p = entry_out_of_order families ≡ first (out_of_order families) (from_to (p + 1) m)

module _ (families : List ℕ) (m : ℕ) where
  pub whole_at_1 : m ≡ size families → Whole families m 1
  unfolding entry_out_of_order
  whole_at_1 e = rw e

  pub whole_on : (p n : ℕ) → Whole families m p → p + n ≤ m → RisesFrom families p n → Whole families m (p + n)
  whole_on p n w h r = w ∙ rises_on families p n m r h

  module _ (begin : ℕ) (w : Whole families m begin) (one : 1 ≤ begin) where
    pub none_falls : ((k : ℕ) → begin ≤ k → k < m → first_at families k < first_at families (k + 1)) → entry_out_of_order families ≡ None
    none_falls rise =
        w ∙ range-first-none (out_of_order families) (begin + 1) m (λ j h l. let q : j - 1 + 1 ≡ j = omega arith in ap (out_of_order families) (sym q) ∙ rises families (j - 1) (rise (j - 1) (omega arith) (omega arith)))

    pub first_falls : (i : ℕ) → begin ≤ i → i < m → first_at families (i + 1) ≤ first_at families i → ((k : ℕ) → begin ≤ k → k < i → first_at families k < first_at families (k + 1))
        → entry_out_of_order families ≡ Some (i + 1)
    first_falls i h l falls rise =
        w ∙ first_is (out_of_order families) (begin + 1) m (i + 1) (omega arith) (omega arith) (out_of_order_lem families i falls)
        (λ j a b. let q : j - 1 + 1 ≡ j = omega arith in ap (out_of_order families) (sym q) ∙ rises families (j - 1) (rise (j - 1) (omega arith) (omega arith)))

-- ---- families_refusal

module _ (families : List ℕ) where
  pub wrong_size : well_sized 0 max_entries families ≡ false → families_refusal families ≡ Some (refusal WrongFamilies 0)
  unfolding families_refusal tried wrong_families
  wrong_size e = rw e

  pub wrong_order : well_sized 0 max_entries families ≡ true → (place : ℕ) → entry_out_of_order families ≡ Some place → families_refusal families ≡ Some (refusal WrongFamilies place)
  unfolding families_refusal tried wrong_families
  wrong_order e place f = rw (e, f)

  pub right-order : well_sized 0 max_entries families ≡ true → entry_out_of_order families ≡ None → families_refusal families ≡ None
  unfolding families_refusal tried wrong_families
  right-order e f = rw (e, f)
