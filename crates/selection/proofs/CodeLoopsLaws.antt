-- One turn of each loop over the codes of a selection: what is left gives the same.
use Prim.Native.Nat.{ℕ, zero, suc, ◌+◌, ◌-◌, ◌<◌}
use native.Mathlib.Omega.{arith}
use mathlib.Core.Path.{◌≡◌, refl, sym, ap, ap₂, ◌∙◌}
use mathlib.Core.Bool.{Bool, true, false, ◌||◌}
use mathlib.Core.List.{List}
use Rattle.std.specs.Prelude.{Option, Some, None, cond, map}
use lib.ListN.{drop}
use Rattle.model.specs.Checks.{wrong_shape}
use Rattle.model.specs.Kinds.{Shape, shapes_of}
use Rattle.std.specs.List.{list_any, range_with_len}
use Rattle.model.specs.Lists.{any_of, up_from}
use Rattle.model.specs.Parts.{well_formed, is_not_code, stops, trees_needed, scan_back}
use Rattle.model.specs.Selection.{up_to}
use Rattle.model.specs.Waiting.{fits, is_complete, lists_after, words_after, first_misfit_from}
use Rattle.model.proofs.PartsLaws.{scan_back-none, scan_back_stop, scan_back-on}
use Rattle.model.proofs.SelectionLaws.{up_to-map}
use Rattle.model.proofs.WaitingLaws.{misfit_none, misfit_here, misfit_on, misfit_end}

-- ---- the waiting rule

module _ (at : ℕ → Shape) (m : ℕ) where
  abbrev misfit_after : ℕ → ℕ → ℕ → Option ℕ
  misfit_after c w p = first_misfit_from c (drop c (up_to at m)) w p

  module _ (c w p : ℕ) (h : c < m) (code : Shape) (e : code ≡ at (c + 1)) where
    pub misfits_here : fits code w p ≡ false → misfit_after c w p ≡ Some (c + 1)
    misfits_here f = misfit_here at m c w p h (ap (λ k. fits k w p) (sym e) ∙ f)

    pub misfits_on : fits code w p ≡ true → (v q : ℕ) → v ≡ lists_after code w → q ≡ words_after code p → misfit_after (c + 1) v q ≡ misfit_after c w p
    misfits_on f v q a b =
        ap₂ (misfit_after (c + 1)) (a ∙ ap (λ k. lists_after k w) e) (b ∙ ap (λ k. words_after k p) e)
        ∙ sym (misfit_on at m c w p h (ap (λ k. fits k w p) (sym e) ∙ f))

  module _ (c w p : ℕ) (e : c ≡ m) where
    pub misfits_end : (complete : Bool) → complete ≡ is_complete w p → cond complete None (Some m) ≡ misfit_after c w p
    misfits_end complete is = ap (λ b. cond b None (Some m)) is ∙ sym (ap (λ k. misfit_after k w p) e ∙ misfit_end at m w p)

-- where no code breaks the rule, the codes are one tree's
pub none_misfits : (selection : List ℕ) → wrong_shape selection ≡ None → well_formed (shapes_of selection) ≡ true
unfolding wrong_shape
none_misfits selection e = (misfit_none (shapes_of selection)).0 e

-- ---- the start of a part

module _ (at : ℕ → Shape) (c n : ℕ) (h : 0 < c) (code : Shape) (e : code ≡ at c) where
  pub scan_back-here : stops code n ≡ true → c ≡ scan_back at c n
  scan_back-here s = sym (scan_back_stop at c n h (ap (λ k. stops k n) (sym e) ∙ s))

  pub scan_back-before : stops code n ≡ false → (k : ℕ) → k ≡ trees_needed code n → scan_back at (c - 1) k ≡ scan_back at c n
  scan_back-before s k d = ap (scan_back at (c - 1)) (d ∙ ap (λ x. trees_needed x n) e) ∙ sym (scan_back-on at c n h (ap (λ x. stops x n) (sym e) ∙ s))

pub scan_back-zero : (at : ℕ → Shape) (c n : ℕ) → c ≡ 0 → 0 ≡ scan_back at c n
scan_back-zero at c n e = sym (ap (λ k. scan_back at k n) e ∙ scan_back-none at n)

-- ---- a not among the codes of a part

module _ (at : ℕ → Shape) where
  not_range : (lo c i n : ℕ) → c + 1 ≡ lo + i → list_any (λ k. is_not_code (at (k + 1))) (range_with_len c n) ≡ any_of is_not_code (map (λ j. at (lo + j)) (up_from i n))
  unfolding up_from any_of
  not_range lo c i zero e = refl
  not_range lo c i (suc n) e = ap₂ ◌||◌ (ap (λ k. is_not_code (at k)) e) (not_range lo (c + 1) (i + 1) n (omega arith))

  -- so many codes after the first lo have one
  pub any_not : (lo n : ℕ) → list_any (λ k. is_not_code (at (k + 1))) (range_with_len lo n) ≡ any_of is_not_code (up_to (λ i. at (lo + i)) n)
  any_not lo n = not_range lo lo 1 n refl ∙ ap (any_of is_not_code) (sym (up_to-map (λ i. at (lo + i)) n))
