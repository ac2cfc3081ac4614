-- What a section's check comes to, case by case, and which snippet it leaves.
use Rattle.std.proofs.Common.{◌≡◌, ℕ, ◌+◌, ◌-◌, ◌*◌, ◌<◌, ◌≤◌, true, false, List, [], take, drop, arith, le-leb}
use Rattle.std.specs.Prelude.{Some, None}
use borrow.Author.Tests.{lt-leb}
use Rattle.model.specs.declared.Reason.TheVariants.{WrongSection, FaultyPosition}
use Rattle.model.specs.declared.Refusal.{Refusal}
use Rattle.model.specs.Answers.{has_positions, snippet_of, snippet_start, stands_at}
use Rattle.model.specs.Checks.{refusal, tried, wrong_section, faulty_position, section_refusal}
use Rattle.model.specs.Limits.{max_tokens}
use Rattle.model.specs.Section.{size, well_sized}

-- ---- section_refusal

module _ (section : List ℕ) where
  pub wrong_size : well_sized 0 max_tokens section ≡ false → section_refusal section ≡ Some (refusal WrongSection 0)
  unfolding section_refusal tried wrong_section
  wrong_size e = rw e

  pub wrong_order : well_sized 0 max_tokens section ≡ true → (place : ℕ) → faulty_position section ≡ Some place → section_refusal section ≡ Some (refusal FaultyPosition place)
  unfolding section_refusal tried wrong_section
  wrong_order e place f = rw (e, f)

  pub right-order : well_sized 0 max_tokens section ≡ true → faulty_position section ≡ None → section_refusal section ≡ None
  unfolding section_refusal tried wrong_section
  right-order e f = rw (e, f)

  -- ---- snippet_of, snippet_start

  module _ (from to : ℕ) where
    -- An empty part holds nothing and starts where the section does.
    module _ (e : has_positions section from to ≡ false) where
      pub no_words : [] ≡ snippet_of section from to
      unfolding snippet_of
      no_words = rw e

      pub at_the_start : (start : ℕ × ℕ) → start ≡ stands_at start (snippet_start section from to)
      unfolding snippet_start
      at_the_start start = let same : start.1 ≡ 0 * 4 + start.1 = omega arith in rw e (λ i. (start.0, same i))

    -- The words are those from the index `from` on, and start there.
    module _ (e : has_positions section from to ≡ true) where
      pub the_words : take (to + 1 - from) (drop from section) ≡ snippet_of section from to
      unfolding snippet_of
      the_words = rw e

      pub at_from : (start : ℕ × ℕ) → (start.0, from * 4 + start.1) ≡ stands_at start (snippet_start section from to)
      unfolding snippet_start
      at_from start = rw e

    -- ---- has_positions, by the tests of the code

    pub no_section : {r : Refusal} → section_refusal section ≡ Some r → has_positions section from to ≡ false
    no_section e = rw e

    module _ (a : section_refusal section ≡ None) where
      pub from_zero : from < 1 → has_positions section from to ≡ false
      from_zero h = rw (a, lt-leb 1 from h)

      pub to_below : 1 ≤ from → to < from → has_positions section from to ≡ false
      to_below h k = rw (a, le-leb 1 from h, lt-leb from to k)

      pub to_beyond : 1 ≤ from → from ≤ to → size section < to → has_positions section from to ≡ false
      to_beyond h k l = rw (a, le-leb 1 from h, le-leb from to k, lt-leb to (size section) l)

      pub within : 1 ≤ from → from ≤ to → to ≤ size section → has_positions section from to ≡ true
      within h k l = rw (a, le-leb 1 from h, le-leb from to k, le-leb to (size section) l)
