-- The number of choices, counted with a ceiling by a walk over the list: a ceiling on the way is as good as one at the end, for a 0 to come makes 0 of
-- either. What is counted so far times the choices of the matches left stays the same.
use Prim.Native.Nat.{ℕ, zero, suc, ◌*◌, ◌≤◌, ◌<◌}
use native.Mathlib.Omega.{arith}
use native.Mathlib.Nat.{mul-zero, mul-suc, mul_assoc, mul-one, mul_comm}
use mathlib.Core.Path.{◌≡◌, refl, sym, ap, ap₂, ◌∙◌}
use mathlib.Core.Bool.{Bool, true, false}
use mathlib.Core.List.{List, [], ◌∷◌}
use mathlib.Core.Logic.{inl}
use borrow.Author.Tests.{leb-true, leb-false, lt-ltb}
use lib.Dec.{leb}
use lib.ListN.{length}
use Rattle.model.specs.Choices.{choices}
use Rattle.model.specs.Limits.{max_matches, max_strings}
use Rattle.model.specs.Matches.{Match, strings, strings_in}
use Rattle.model.specs.Rules.{not_list}
use Rattle.model.proofs.RulesLaws.{length-not, strings-not}
use Rattle.store.specs.Built.{built_of, sized_as}
use Rattle.store.specs.Layout.{matches_at}
use Rattle.store.specs.Slot.{SlotAt}
use Rattle.store.proofs.SlotsLaws.{matches_held, built_long}
use Rattle.negation.specs.Sizes.{capped, ceiling}

-- ---- capped

pub capped-mul : (a k : ℕ) → capped (capped a * k) ≡ capped (a * k)
capped-mul a k = at (leb a ceiling) refl k
  where
    at : (b : Bool) → leb a ceiling ≡ b → (k : ℕ) → capped (capped a * k) ≡ capped (a * k)
    at true e k = let same : capped a ≡ a = omega (arith, leb-true) in ap (λ x. capped (x * k)) same
    at false e zero = omega (arith, mul-zero (capped a), mul-zero a)
    at false e (suc k) = omega (arith, leb-false, mul-suc (capped a) k, mul-suc a k)

-- ---- the count

-- what is counted times the choices of the matches left is the number of choices from all
pub record Counting (list left : List Match) (total : ℕ) : Type 0 where
  pub same : capped (total * choices left) ≡ capped (choices list)
  pub few : strings left ≤ max_strings

pub start : {list left : List Match} → left ≡ list → strings list ≤ max_strings → Counting list left 1
start {list} e f = record { same = ap capped (omega (arith, ap choices e)); few = omega (arith, ap strings e) }

module _ {list left : List Match} {total : ℕ} (g : Counting list left total) where
  module _ {m : Match} {rest : List Match} (e : left ≡ m ∷ rest) where
    pub few_strings : strings_in m ≤ max_strings
    unfolding strings
    few_strings = omega (arith, g.few, ap strings e)

    pub step : {k total' : ℕ} → k ≡ strings_in m → total' ≡ capped (total * k) → Counting list rest total'
    unfolding choices strings
    step {k} {total'} f t =
        let R : ℕ = choices rest in
        let more : capped (total * choices (m ∷ rest)) ≡ capped (total' * R) =
        sym (ap (λ x. capped (x * R)) t ∙ capped-mul (total * k) R ∙ ap capped (mul_assoc total k R) ∙ ap (λ x. capped (total * (x * R))) f) in
        record { same = sym more ∙ ap (λ ms. capped (total * choices ms)) (sym e) ∙ g.same; few = omega (arith, g.few, ap strings e) }

  pub finish : total ≤ ceiling → left ≡ [] → total ≡ capped (choices list)
  unfolding choices
  finish h e =
      let low : total ≡ capped (total * 1) = omega (arith, mul-one total) in
      low ∙ ap (λ ms. capped (total * choices ms)) (sym e) ∙ g.same

-- ---- the sizes of a not

module _ {mem : List ℕ} {src matches : ℕ} (w : SlotAt mem src) (e : matches ≡ capped (choices w.list)) where
  -- up to the limit the count is exact; above it, the list is too long
  pub not-sized : sized_as matches (matches * matches_at mem src) ≡ built_of (not_list w.list)
  not-sized = at (leb matches max_matches) refl
    where
      at : (b : Bool) → leb matches max_matches ≡ b → sized_as matches (matches * matches_at mem src) ≡ built_of (not_list w.list)
      at true f =
          let matches_are : length (not_list w.list) ≡ matches = omega (arith, length-not w.list, leb-true) in
          let strings_are : strings (not_list w.list) ≡ matches * matches_at mem src =
          strings-not w.list ∙ ap₂ ◌*◌ (sym (matches_held w.slot)) matches_are ∙ mul_comm (matches_at mem src) matches in
          ap₂ (λ m s. sized_as m s) (sym matches_are) (sym strings_are)
      at false f =
          let over : max_matches < matches = omega (arith, leb-false) in
          rw (lt-ltb max_matches matches over) (built_long (not_list w.list) (inl (omega (arith, length-not w.list))))
