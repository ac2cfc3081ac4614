-- A match without includes has no window. Any other has a join of one string, whose span is from least start to greatest end: so it says where the windows
-- end.
use Prim.Native.Nat.{ℕ, ◌+◌, ◌-◌, ◌/◌, ◌%◌, ◌≤◌, ◌<◌}
use native.Mathlib.Omega.{arith}
use mathlib.Core.Path.{◌≡◌, refl, sym, ap, ap₂, ◌∙◌}
use mathlib.Core.List.{List, [], ◌∷◌}
use lib.ListN.{length}
use Rattle.model.specs.AllStrings.{AllStrs}
use Rattle.model.specs.Answers.{span_of, tag_of}
use Rattle.model.specs.Limits.{max_tokens, radix}
use Rattle.model.specs.Lists.{Every, from_to}
use Rattle.model.specs.Matches.{Match, Str}
use Rattle.model.specs.Rules.{join, window, window_ends}
use Rattle.model.proofs.RulesLaws.{length_none, start-least_start, window-none}
use Rattle.strings.specs.Strings.{strs_at, strs_of}
use Rattle.join.specs.Joined.{joined, Extent}
use Rattle.join.proofs.JoinLaws.{end_bound, join-some, strs_of-join}
use Rattle.store.specs.ValidStr.{ValidStr}
use Rattle.strings.specs.declared.packed.Packed.{Packed}
use Rattle.strings.specs.declared.positions.Run.{Run}
use Rattle.std.specs.Prelude.{MatchOption, Option, None, Some}
use Rattle.window.specs.Windows.{JoinIs}

-- the last positions of the windows around strings, by their join
pub ends_some : (n : ℕ) (ss : List Str) → (length ss ≡ 0 → ⊥) → window_ends n ss ≡ from_to (joined ss).end ((joined ss).start + n - 1)
unfolding window_ends joined join
ends_some n [] h = absurd (h refl)
ends_some n (s ∷ ss) h = refl

pub start-some : (ss : List Str) → AllStrs ValidStr ss → (joined ss).start ≤ max_tokens
unfolding joined join Every
start-some [] f = omega arith
start-some (s ∷ ss) f = omega (arith, (start-least_start s ss).0, f.0.in_order, f.0.end_up_to)

-- no includes
pub ends_none : (n : ℕ) {ss : List Str} → ss ≡ [] → window_ends n ss ≡ []
unfolding window_ends
ends_none n e = ap (window_ends n) e

pub window_dropped : (n : ℕ) (m : Match) → m.includes ≡ [] → window n m ≡ []
window_dropped n m e = window-none n m e

-- .. and some, by their extent
module _ {ss : List Str} {run : Run} (x : Extent ss run) where
  some-strs : length ss ≡ 0 → ⊥
  some-strs z = x.some (length_none ss z)

  pub length-join-one : length (join ss) ≡ 1
  length-join-one = ap length (join-some ss some-strs)

  pub ends-are : (n : ℕ) → window_ends n ss ≡ from_to run.hi.0 (run.lo.0 + n - 1)
  ends-are n = ends_some n ss some-strs ∙ ap₂ (λ e s. from_to e (s + n - 1)) (sym x.hi_value) (sym x.lo_value)

  pub start-low : AllStrs ValidStr ss → run.lo.0 < radix
  start-low f = omega (arith, x.lo_value, start-some ss f)

-- the join's numbers say where the windows end
module _ (l : List ℕ) (n : ℕ) {run : Run} (x : Extent (strs_at l) run) where
  pub join_is : {s : Packed} → strs_of 0 (join (strs_at l)) ≡ s.span ∷ s.tag ∷ [] → JoinIs n (strs_at l) s
  join_is {s} e =
      let same : s.span ∷ s.tag ∷ [] ≡ span_of (joined (strs_at l)) ∷ tag_of 0 (joined (strs_at l)) ∷ [] = sym e ∙ strs_of-join (strs_at l) (some-strs x) in
      let span : s.span ≡ span_of (joined (strs_at l)) = cc in
      let low = end_bound l in
      let start : run.lo.0 ≡ s.span / radix = omega (arith, x.lo_value) in
      let end : run.hi.0 ≡ s.span % radix = omega (arith, x.hi_value) in
      record { joins = e; ends = ends-are x n ∙ ap₂ (λ b a. from_to b (a + n - 1)) end start }

  pub no_join : join (strs_at l) ≡ [] → ⊥
  no_join e = let one : length (join (strs_at l)) ≡ 1 = length-join-one x in let none : length (join (strs_at l)) ≡ 0 = ap length e in omega arith

  pub join_or_none : (o : Option Packed) → MatchOption o (join (strs_at l) ≡ []) (λ s. strs_of 0 (join (strs_at l)) ≡ s.span ∷ s.tag ∷ [])
      → MatchOption o (window_ends n (strs_at l) ≡ []) (JoinIs n (strs_at l))
  join_or_none None e = absurd (no_join e)
  join_or_none (Some s) e = join_is e
