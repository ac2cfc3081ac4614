-- Where the summed rises are the rise from first to last, nothing falls. Then no paragraph is faulty unless they rise from zero; and no sentence, unless they
-- do and one was nonzero before.
use Rattle.std.proofs.Common.{◌≡◌, ℕ, zero, suc, ◌+◌, ◌-◌, ◌*◌, ◌/◌, ◌%◌, ◌^◌, ◌<◌, ◌≤◌, Bool, true, false, not, ◌&&◌, eqb, ◌⊎◌, List, sym, refl, ap, ◌∙◌, subst, inl, inr, ⊎_elim, eq-or-lt_of_le, arith, le-ltb, eq-eqb, ne_eqb, eqb-true}
use mathlib.Core.Bool.{xor}
use borrow.Author.Tests.{eqb-false, not-false}
use Rattle.model.specs.Checks.{breaks_order, last_nonzero, falls_below, faulty_at}
use Rattle.model.specs.Limits.{max_tokens, radix}
use Rattle.model.specs.Section.{second_at, sentence_at, paragraph_at}
use Rattle.model.proofs.ChecksLaws.{last-zero, last_some, below_none}
use Rattle.model.proofs.ListsLaws.{range-first-none}
use Rattle.model.proofs.TestsLaws.{false-true}
use Rattle.section.specs.Looks.{faulty_after, last_after, Faultless}
use Rattle.section.specs.Rises.{NoFall, SummedRises}

-- ---- one difference

-- the carry of the lower halves into the upper ones, and that of the whole sum
abbrev carry : ℕ → ℕ → ℕ
carry d y = (d % radix + y % radix) / radix

abbrev wraps : ℕ → ℕ → ℕ
wraps d y = (d + y) / 2 ^ 32

module _ (d y : ℕ) {x : ℕ} (e : (d + y) % 2 ^ 32 ≡ x) where
  upper_halves : d / radix + carry d y + y / radix ≡ x / radix + radix * wraps d y
  upper_halves = omega (arith, e)

  lower_rises : carry d y ≡ 0 → y % radix ≤ x % radix
  lower_rises z = omega (arith, e, z)

  upper_rises : wraps d y ≡ 0 → y / radix ≤ x / radix
  upper_rises z = omega (arith, e, z)

-- ---- the sum, position by position

module _ (section : List ℕ) (from : ℕ) where
  pub summed_none : SummedRises section from from 0
  summed_none = record { sentence_falls = 0; place_falls = 0; few = omega arith; bounded = omega arith; balance = omega arith; no_falls = λ z o q h k. absurd (omega arith) }

  pub summed_more : (p sum d : ℕ) → from ≤ p → d < 2 ^ 32 → (d + second_at section p) % 2 ^ 32 ≡ second_at section (p + 1) → SummedRises section from p sum
      → SummedRises section from (p + 1) (sum + d / radix)
  summed_more p sum d f h e r =
      record {
        sentence_falls = r.sentence_falls + carry d (second_at section p);
        place_falls = r.place_falls + wraps d (second_at section p);
        few = omega (arith, r.few);
        bounded = omega (arith, r.bounded, h, f);
        balance = omega (arith, r.balance, upper_halves d (second_at section p) e);
        no_falls = λ z o q l m. ⊎_elim
            (λ w. last q w (omega (arith, z)) (omega (arith, o)))
            (λ w. r.no_falls (omega (arith, z)) (omega (arith, o)) q l (omega (arith, w)))
            (eq-or-lt_of_le m);
      }
    where
      last : (q : ℕ) → q ≡ p + 1 → carry d (second_at section p) ≡ 0 → wraps d (second_at section p) ≡ 0 → NoFall section q
      last q w z o =
          let before : q - 1 ≡ p = omega arith in
          record { in_sentence = rw (before, w) (lower_rises d (second_at section p) e z); in_paragraph = rw (before, w) (upper_rises d (second_at section p) e o) }

-- ---- numbers that never fall

module _ (u : ℕ → ℕ) (from to : ℕ) (rises : (q : ℕ) → from < q → q ≤ to → u (q - 1) ≤ u q) where
  ascends : (k p : ℕ) → from ≤ p → p + k ≤ to → u p ≤ u (p + k)
  ascends zero p h l = let e : p + 0 ≡ p = omega arith in rw e (omega arith)
  ascends (suc k) p h l =
      let e : p + suc k - 1 ≡ p + k = omega arith in
      let step : u (p + k) ≤ u (p + suc k) = subst (λ (i : ℕ). u i ≤ u (p + suc k)) e (rises (p + suc k) (omega arith) l) in
      omega (arith, ascends k p h (omega arith), step)

  up : (p q : ℕ) → from ≤ p → p ≤ q → q ≤ to → u p ≤ u q
  up p q h k l = let e : p + (q - p) ≡ q = omega arith in subst (λ (i : ℕ). u p ≤ u i) e (ascends (q - p) p h (omega arith))

  in_order : (eqb (u from) 0 && not (eqb (u to) 0)) ≡ false → (q : ℕ) → from < q → q ≤ to → breaks_order (u (q - 1)) (u q) ≡ false
  unfolding xor
  in_order b q h k = rw (le-ltb (u q) (u (q - 1)) (rises q h k)) (at (eqb (u from) 0) refl b)
    where
      low : u from ≤ u (q - 1)
      low = up from (q - 1) (omega arith) (omega arith) (omega arith)

      high : u q ≤ u to
      high = up q to (omega arith) k (omega arith)

      at : (t : Bool) → eqb (u from) 0 ≡ t → (t && not (eqb (u to) 0)) ≡ false → xor (eqb (u q) 0) (eqb (u (q - 1)) 0) ≡ false
      at true z b =
          let end : u to ≡ 0 = eqb-true (u to) 0 (not-false (eqb (u to) 0) b) in
          rw (eq-eqb (u q) 0 (omega (arith, high, end)), eq-eqb (u (q - 1)) 0 (omega (arith, rises q h k, high, end)))
      at false z b =
          let nonzero : u from ≡ 0 → ⊥ = eqb-false (u from) 0 z in
          rw (ne_eqb (u q) 0 (λ e. nonzero (omega (arith, low, rises q h k, e))), ne_eqb (u (q - 1)) 0 (λ e. nonzero (omega (arith, low, e))))

  -- the last nonzero one is the last number; before the first nonzero one it is what it was
  last_along : 1 ≤ from → (k : ℕ) → from + k ≤ to → last_nonzero u (from + k) ≡ last_after (last_nonzero u from) (u (from + k))
  last_along one zero l = let e : from + 0 ≡ from = omega arith in rw e (at (u from) refl)
    where
      at : (x : ℕ) → u from ≡ x → last_nonzero u from ≡ last_after (last_nonzero u from) (u from)
      at zero z = rw z
      at (suc x) z = rw (ne_eqb (u from) 0 (λ e. omega (arith, z, e))) (last_some u from one (omega (arith, z)))
  last_along one (suc k) l = at (u (from + suc k)) refl (last_along one k (omega arith))
    where
      e : from + suc k - 1 ≡ from + k
      e = omega arith

      step : u (from + k) ≤ u (from + suc k)
      step = up (from + k) (from + suc k) (omega arith) (omega arith) l

      at : (x : ℕ) → u (from + suc k) ≡ x → last_nonzero u (from + k) ≡ last_after (last_nonzero u from) (u (from + k))
          → last_nonzero u (from + suc k) ≡ last_after (last_nonzero u from) (u (from + suc k))
      at zero z before =
          let here : u (from + k) ≡ 0 = omega (arith, step, z) in
          rw z (last-zero u (from + suc k) (omega arith) z ∙ ap (last_nonzero u) e ∙ before ∙ rw here)
      at (suc x) z before =
          rw (ne_eqb (u (from + suc k)) 0 (λ f. omega (arith, z, f))) (last_some u (from + suc k) (omega arith) (omega (arith, z)))

  last-at : 1 ≤ from → (q : ℕ) → from ≤ q → q ≤ to → last_nonzero u q ≡ last_after (last_nonzero u from) (u q)
  last-at one q h k = let e : from + (q - from) ≡ q = omega arith in rw e at (last_along one (q - from) (omega arith))

  -- none was nonzero before, or they don't rise from zero
  abbrev MayRise : Type 0
  MayRise = (last_nonzero u from ≡ 0) ⊎ ((eqb (u from) 0 && not (eqb (u to) 0)) ≡ false)

  none_below : 1 ≤ from → MayRise → (q : ℕ) → from < q → q ≤ to → falls_below (last_nonzero u (q - 1)) (u q) ≡ false
  none_below one may q h k = below_none (last_nonzero u (q - 1)) (u q) (λ here. at (u (q - 1)) refl here may)
    where
      before : last_nonzero u (q - 1) ≡ last_after (last_nonzero u from) (u (q - 1))
      before = last-at one (q - 1) (omega arith) (omega arith)

      zeros : u (q - 1) ≡ 0 → last_nonzero u (q - 1) ≡ last_nonzero u from
      zeros z = before ∙ rw z

      at : (x : ℕ) → u (q - 1) ≡ x → 1 ≤ u q → MayRise → last_nonzero u (q - 1) ≤ u q
      at zero z here (inl none_before) = omega (arith, zeros z, none_before)
      at zero z here (inr b) =
          let first : u from ≡ 0 = omega (arith, up from (q - 1) (omega arith) (omega arith) (omega arith), z) in
          let end : u to ≡ 0 → ⊥ = λ e. omega (arith, up q to (omega arith) k (omega arith), here, e) in
          false-true (sym b ∙ rw (eq-eqb (u from) 0 first, ne_eqb (u to) 0 end))
      at (suc x) z here m = omega (arith, rises q h k, last_some u (q - 1) (omega arith) (omega (arith, z)))

-- ---- no position is faulty

module _ (section : List ℕ) (from to : ℕ) (one : 1 ≤ from) (h : from ≤ to) where
  -- neither number falls
  module _ (no-fall : (q : ℕ) → from < q → q ≤ to → NoFall section q) where
    in_sentence : (q : ℕ) → from < q → q ≤ to → sentence_at section (q - 1) ≤ sentence_at section q
    in_sentence q l k = (no-fall q l k).in_sentence

    in_paragraph : (q : ℕ) → from < q → q ≤ to → paragraph_at section (q - 1) ≤ paragraph_at section q
    in_paragraph q l k = (no-fall q l k).in_paragraph

    no_faults : (eqb (paragraph_at section from) 0 && not (eqb (paragraph_at section to) 0)) ≡ false
        → (last_nonzero (sentence_at section) from ≡ 0) ⊎ ((eqb (sentence_at section from) 0 && not (eqb (sentence_at section to) 0)) ≡ false)
        → Faultless section from to
    unfolding faulty_after faulty_at
    no_faults b may =
        record {
          none_faulty =
              range-first-none (faulty_at section) (from + 1) to
              (λ q l k. rw (none_below (sentence_at section) from to in_sentence one may q (omega arith) k, in_order (paragraph_at section) from to in_paragraph b q (omega arith) k));
          last_is = last-at (sentence_at section) from to in_sentence one to h (omega arith);
        }

  -- by the sum and the places at both ends
  pub faultless : {sum last first end : ℕ} → to ≤ max_tokens → SummedRises section from to sum → first ≡ second_at section from → end ≡ second_at section to
      → sum + first / radix ≡ end / radix
      → (eqb (first / radix) 0 && not (eqb (end / radix) 0)) ≡ false
      → last ≡ last_nonzero (sentence_at section) from
      → (last ≡ 0) ⊎ ((eqb (first % radix) 0 && not (eqb (end % radix) 0)) ≡ false)
      → Faultless section from to
  faultless {sum} few r f e total b is may =
      no_faults (r.no_falls none_fell.0 none_fell.1) (rw (f, e) at b) (⊎_elim (λ z. inl (sym is ∙ z)) (λ m. inr (rw (f, e) at m)) may)
    where
      balanced : sum + paragraph_at section from ≡ paragraph_at section to
      balanced = rw (f, e) at total

      none_fell : (r.sentence_falls ≡ 0) × (r.place_falls ≡ 0)
      none_fell = (omega (arith, r.few, r.balance, balanced, few), omega (arith, r.few, r.balance, balanced, few))
