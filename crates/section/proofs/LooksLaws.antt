-- Looks at positions that follow each other: the first that finds a fault decides, and the last nonzero sentence goes on from each to the next.
use Rattle.std.proofs.Common.{◌≡◌, ℕ, zero, suc, ◌+◌, ◌-◌, ◌/◌, ◌%◌, ◌<◌, ◌≤◌, Bool, true, false, ◌||◌, List, sym, refl, ap, ◌∙◌, arith}
use Rattle.std.specs.Prelude.{Option, Some, None}
use Rattle.std.specs.Option.{option_or}
use Rattle.model.specs.Checks.{breaks_order, last_nonzero, falls_below, faulty_at, faulty_position}
use Rattle.model.specs.Limits.{radix}
use Rattle.model.specs.Lists.{first, from_to}
use Rattle.model.specs.Section.{size, second_at, sentence_at}
use Rattle.model.proofs.ChecksLaws.{last-zero, last_some}
use Rattle.model.proofs.ListsLaws.{first-append, range-append, first-range_empty, first-range-here, first-range-later}
use Rattle.section.specs.Looks.{faulty_after, look_of, last_after, Faultless}
use Rattle.std.specs.Prelude.{Ok, Err}
use Rattle.std.specs.Result.{result_err}
use Rattle.model.specs.declared.Sentence.{Sentence}

-- ---- look_of

module _ (o : Option ℕ) (last : ℕ) where
  pub look_err : (place : ℕ) → look_of o last ≡ Err place → o ≡ Some place
  look_err place e = at o e
    where
      at : (o : Option ℕ) → look_of o last ≡ Err place → o ≡ Some place
      at (Some p) f = cc
      at None f = absurd (cc)

  pub look_ok : (after : Sentence) → look_of o last ≡ Ok after → (o ≡ None) × (after.0 ≡ last)
  look_ok after e = at o e
    where
      at : (o : Option ℕ) → look_of o last ≡ Ok after → (o ≡ None) × (after.0 ≡ last)
      at (Some p) f = absurd (cc)
      at None f = let same : record { 0 = last } ≡ after = cc in (refl, ap (λ (s : Sentence). s.0) (sym same))

  pub look_first : result_err (look_of o last) ≡ o
  look_first = at o
    where
      at : (o : Option ℕ) → result_err (look_of o last) ≡ o
      at (Some p) = refl
      at None = refl

module _ (section : List ℕ) where
  -- ---- faulty_after, over all positions, over none, and from one to the next

  pub whole : faulty_after section 1 (size section) ≡ faulty_position section
  unfolding faulty_after faulty_position
  whole = refl

  pub no_position : (from to : ℕ) → to ≤ from → faulty_after section from to ≡ None
  unfolding faulty_after
  no_position from to h = first-range_empty (faulty_at section) (from + 1) to (omega arith)

  pub faulty_next : (p to : ℕ) → p < to → faulty_at section (p + 1) ≡ true → faulty_after section p to ≡ Some (p + 1)
  unfolding faulty_after
  faulty_next p to h e = first-range-here (faulty_at section) (p + 1) to (omega arith) e

  pub sound_next : (p to : ℕ) → p < to → faulty_at section (p + 1) ≡ false → faulty_after section p to ≡ faulty_after section (p + 1) to
  unfolding faulty_after
  sound_next p to h e = first-range-later (faulty_at section) (p + 1) to (omega arith) e

  -- ---- faulty_after, over two looks

  module _ (from mid to : ℕ) (h : from ≤ mid) (k : mid ≤ to) where
    two_looks : faulty_after section from to ≡ option_or (faulty_after section from mid) (faulty_after section mid to)
    unfolding faulty_after
    two_looks =
        ap (first (faulty_at section)) (range-append (from + 1) mid to (omega arith) k)
        ∙ first-append (faulty_at section) (from_to (from + 1) mid) (from_to (mid + 1) to)

    pub found_first : (p : ℕ) → faulty_after section from mid ≡ Some p → faulty_after section from to ≡ Some p
    found_first p e = two_looks ∙ rw e

    pub found-later : faulty_after section from mid ≡ None → faulty_after section from to ≡ faulty_after section mid to
    found-later e = two_looks ∙ rw e

  -- ---- position 1

  pub last-first : (here : ℕ) → here ≡ sentence_at section 1 → here ≡ last_nonzero (sentence_at section) 1
  unfolding last_nonzero
  last-first here e = e ∙ at (sentence_at section 1) refl
    where
      at : (x : ℕ) → sentence_at section 1 ≡ x → sentence_at section 1 ≡ last_nonzero (sentence_at section) 1
      at zero z = z ∙ sym (last-zero (sentence_at section) 1 (omega arith) z)
      at (suc x) z = sym (last_some (sentence_at section) 1 (omega arith) (omega (arith, z)))

  -- ---- a position after p, by the two places

  module _ (p last : ℕ) {before here : ℕ} (b : before ≡ second_at section p) (h : here ≡ second_at section (p + 1)) (l : last ≡ last_nonzero (sentence_at section) p) where
    pub faulty_told : (r : Bool) → r ≡ (falls_below last (here % radix) || breaks_order (before / radix) (here / radix)) → faulty_at section (p + 1) ≡ r
    unfolding faulty_at
    faulty_told r told = let at : p + 1 - 1 ≡ p = omega arith in rw (at, ← l, ← b, ← h) (sym told)

    pub last-told : (r : ℕ) → r ≡ last_after last (here % radix) → r ≡ last_nonzero (sentence_at section) (p + 1)
    unfolding last_nonzero
    last-told r told = let next : p + 1 ≡ suc p = omega arith in rw (next, ← l) (rw (h, next) at told)

  -- ---- the end of a block without faults

  pub last_of_block : (from to last : ℕ) {here : ℕ} (r : ℕ) → here ≡ second_at section to → last ≡ last_nonzero (sentence_at section) from → Faultless section from to
      → r ≡ last_after last (here % radix) → r ≡ last_nonzero (sentence_at section) to
  last_of_block from to last r h l f told = rw (h, l) at told ∙ sym f.last_is
