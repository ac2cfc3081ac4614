-- The starts from a position on are those from the next start on, and none lies among the positions skipped.
use Prim.Native.Nat.{ℕ, zero, suc, ◌+◌, ◌-◌, ◌≤◌, ◌<◌}
use native.Mathlib.Omega.{arith}
use mathlib.Core.Path.{◌≡◌, refl, sym, subst, ◌∙◌}
use mathlib.Core.Bool.{true, false, not}
use mathlib.Core.List.{List, [], ◌∷◌}
use lib.ListN.{length}
use Rattle.model.specs.Lists.{is_empty, keep}
use Rattle.model.specs.Rules.{stand_from, phrase_list}
use Rattle.model.specs.Families.{Searched}
use Rattle.model.proofs.ListsLaws.{range_empty, range_cons}
use Rattle.std.specs.Prelude.{Option, Some, None}
use Rattle.std.specs.Option.{is_some}
use Rattle.phrase.specs.Starts.{starts_from, Skipped, NextStart}
use Rattle.phrase.proofs.RowsLaws.{stands_beyond}

-- ---- starts_from

module _ (s : Searched) (words : List ℕ) (p : ℕ) where
  pub starts_none : s.section.tokens < p → starts_from s words p ≡ []
  unfolding starts_from keep
  starts_none h = rw (range_empty p s.section.tokens h)

  module _ (h : p ≤ s.section.tokens) where
    pub starts-here : stand_from s words p ≡ true → starts_from s words p ≡ p ∷ starts_from s words (p + 1)
    unfolding starts_from keep
    starts-here e = rw (range_cons p s.section.tokens h, e)

    pub starts-later : stand_from s words p ≡ false → starts_from s words p ≡ starts_from s words (p + 1)
    unfolding starts_from keep
    starts-later e = rw (range_cons p s.section.tokens h, e)

-- ---- Skipped

module _ {s : Searched} {words : List ℕ} where
  pub skipped-none : {from to : ℕ} → from ≤ to → Skipped s words from to from
  skipped-none h = record { not_before = omega arith; up_to = h; same = refl }

  pub skipped-on : {from p q to to' end : ℕ} → Skipped s words from to p → Skipped s words p to' q → q ≤ end → Skipped s words from end q
  skipped-on a b h = record { not_before = omega (arith, a.not_before, b.not_before); up_to = h; same = a.same ∙ b.same }

  -- on to the next position
  pub skipped-next : {from p to : ℕ} → Skipped s words from to p → p < to → p ≤ s.section.tokens → stand_from s words p ≡ false → Skipped s words from to (p + 1)
  skipped-next {p = p} a h k e = record { not_before = omega (arith, a.not_before); up_to = omega arith; same = a.same ∙ starts-later s words p k e }

  -- on over k positions, none of them a start
  pub skipped_all : (k : ℕ) {from p to : ℕ} → Skipped s words from to p → p + k ≤ s.section.tokens + 1 → p + k ≤ to → ((q : ℕ) → q < k → stand_from s words (p + q) ≡ false)
      → Skipped s words from to (p + k)
  skipped_all zero {from} {p} {to} a h l none_in = let end : p ≡ p + 0 = omega arith in subst (λ (q : ℕ). Skipped s words from to q) end a
  skipped_all (suc k) {from} {p} {to} a h l none_in =
      let end : p + k + 1 ≡ p + suc k = omega arith in
      let most = skipped_all k a (omega arith) (omega arith) (λ q m. none_in q (omega arith)) in
      subst (λ (q : ℕ). Skipped s words from to q) end (skipped-next most (omega arith) (omega arith) (none_in k (omega arith)))

  -- on over the positions before q
  pub skipped_between : {from p to end q : ℕ} → Skipped s words from to p → p ≤ q → q ≤ s.section.tokens + 1 → q ≤ end → ((k : ℕ) → p ≤ k → k < q → stand_from s words k ≡ false)
      → Skipped s words from end q
  skipped_between {from} {p} {to} {end} {q} a h k l none_in =
      let same : p + (q - p) ≡ q = omega arith in
      let here : Skipped s words from q p = record { not_before = a.not_before; up_to = h; same = a.same } in
      let most = skipped_all (q - p) here (omega arith) (omega arith) (λ j m. none_in (p + j) (omega arith) (omega arith)) in
      let all = subst (λ (x : ℕ). Skipped s words from q x) same most in
      record { not_before = all.not_before; up_to = l; same = all.same }

  -- too few tokens are left for a row
  pub skipped_beyond : {from p to : ℕ} → Skipped s words from to p → p ≤ s.section.tokens + 1 → s.section.tokens + 1 < p + length words
      → Skipped s words from (s.section.tokens + 1) (s.section.tokens + 1)
  skipped_beyond {from} {p} a h k =
      skipped_between a h (omega arith) (omega arith) (λ q m l. sym (stands_beyond s words q (omega arith) (omega arith)))

-- ---- NextStart

-- there is a find where there is a next start
pub starts-some : (s : Searched) (words : List ℕ) (next : Option ℕ) (rank : ℕ) → NextStart s words 1 next → is_some next ≡ not (is_empty (phrase_list s rank words))
unfolding phrase_list starts_from is_empty
starts-some s words (Some p) rank f = rw (f.0.skipped.same ∙ starts-here s words p f.1 (f.0.stands (omega (arith, f.1))))
starts-some s words None rank f = rw (f.same ∙ starts_none s words (s.section.tokens + 1) (omega arith))
