-- The listing is decided by its table (`listing_table_lem`); a given one holds the complete list, which is within the limits, and its numbers determine
-- that list since every span ends within the section.
use Prim.Native.Nat.{ℕ, ◌≤◌, ◌<◌}
use native.Mathlib.Omega.{arith}
use mathlib.Core.List.{List, ◌++◌}
use mathlib.Core.Logic.Iff
use mathlib.Core.Logic.{◌↔◌}
use Rattle.std.specs.Prelude.{Option, Some, None}
use Rattle.model.proofs.OptionLaws.{some-ne-none}
use mathlib.Core.Path.{◌≡◌, refl, sym, ◌∙◌}
use lib.ListN.{length, drop}
use Rattle.model.specs.declared.Refusal.{Refusal}
use Rattle.model.specs.Accepted.{max_phrases}
use Rattle.model.specs.AllStrings.{Within}
use Rattle.model.specs.Answers.{complete_list, answer_unless, listing_answer, listing_numbers, listing_buffer}
use Rattle.model.specs.Checks.{input_refusal}
use Rattle.model.specs.Families.{searched_of}
use Rattle.model.specs.Limits.{radix}
use Rattle.model.specs.Matches.{Str, Match}
use Rattle.model.specs.Section.{size}
use Rattle.model.specs.Trees.{tree_of}
use Rattle.model.proofs.AllStringsLaws.{within_matches}
use Rattle.model.proofs.AnswersLaws.{listing_refusal-none, complete_fits, listing_answer-listed, length-listing_numbers, listing_buffer-listed}
use Rattle.model.proofs.ChecksLaws.{faulty_position-none, entry_out_of_order-none, accepted-section, accepted-selection, input_none}
use Rattle.model.proofs.EveryLaws.{every_weaker}
use Rattle.theorems.specs.Demands.{ListingGiven, ListingRefuses, listing_table, EndsBelowRadix, Demand2}
use Rattle.theorems.proofs.NumbersLaws.{same-list}
use Rattle.theorems.proofs.TableLaws.{first_fall, first_fall_none, first_fall_some, listing_table_lem}
use Rattle.theorems.proofs.WordsLaws.{yes_exists}

-- ---- what an answer tells of the table

refused-some : (o : Option Refusal) (ms : List Match) (r : Refusal) → ListingRefuses (answer_unless o ms) r ↔ (o ≡ Some r)
refused-some None ms r = (λ e. cc, λ e. cc)
refused-some (Some q) ms r = (λ e. cc, λ e. cc)

given_none : (o : Option Refusal) (ms : List Match) → ListingGiven (answer_unless o ms) ↔ (o ≡ None)
given_none None ms = (λ e. refl, λ e. (_, _, _, refl))
given_none (Some q) ms = (λ w. let z : ◌≡◌ {A = ℕ} 0 1 = cc w.3 in absurd (omega arith), λ e. absurd (some-ne-none q e))

-- ---- what a given listing holds

module _ (section families selection : List ℕ) (work : ℕ) (buffer : List ℕ) where
  abbrev all : List Match
  all = complete_list section families selection

  -- every span ends within the section
  complete_ends : input_refusal section families selection ≡ None → EndsBelowRadix all
  complete_ends e =
      let passed = input_none section families selection e in
      let few = (accepted-section section passed.0).few in
      let below : (s : Str) → Within (size section) s → s.end < radix = λ s w. omega (arith, few, w.up_to) in
      every_weaker _ _
      (λ m a. record { includes = every_weaker _ _ below m.includes a.includes; excludes = every_weaker _ _ below m.excludes a.excludes })
      all (within_matches (searched_of section families) max_phrases (tree_of selection) (accepted-selection selection passed.2).ranks)

  holds : ListingGiven (listing_answer section families selection work (length buffer))
      → (length (listing_numbers all) ≤ length buffer)
      × (listing_buffer section families selection work buffer ≡ listing_numbers all ++ drop (length (listing_numbers all)) buffer)
  holds w =
      let none_refuses = (listing_answer-listed section families selection work (length buffer) w.0 w.1 w.2 w.3).0 in
      let fits = complete_fits section families selection work (length buffer) none_refuses in
      let room = (listing_refusal-none section families selection work (length buffer) none_refuses).room in
      (omega (arith, room, fits.0, fits.1, length-listing_numbers all), listing_buffer-listed section families selection work buffer none_refuses)

  no_other : ListingGiven (listing_answer section families selection work (length buffer))
      → EndsBelowRadix all
      × ((ms : List Match) (rest : List ℕ) → EndsBelowRadix ms → listing_buffer section families selection work buffer ≡ listing_numbers ms ++ rest → ms ≡ all)
  no_other w =
      let none_refuses = (listing_answer-listed section families selection work (length buffer) w.0 w.1 w.2 w.3).0 in
      let ends = complete_ends (listing_refusal-none section families selection work (length buffer) none_refuses).passes.checks in
      (ends, λ ms rest short e. same-list ms all rest (drop (length (listing_numbers all)) buffer) short ends (sym e ∙ (holds w).1))

pub demand_2 : Demand2
unfolding listing_answer
demand_2 section families selection work buffer =
    let table = listing_table section families selection work (length buffer) in
    let is = listing_table_lem section families selection work (length buffer) in
    record {
      refused_exactly = λ r. rw is (Iff.trans (refused-some (first_fall table) (complete_list section families selection) r) (first_fall_some table r));
      given_exactly = rw is (Iff.trans (given_none (first_fall table) (complete_list section families selection)) (first_fall_none table));
      units_exactly = faulty_position-none section;
      words_exactly = entry_out_of_order-none families;
      counts_complete = λ m s y e. let given = listing_answer-listed section families selection work (length buffer) m s y e in (given.1, given.2);
      holds_complete = holds section families selection work buffer;
      holds_no_other = no_other section families selection work buffer;
      yes_exactly = λ m s y e. rw (listing_answer-listed section families selection work (length buffer) m s y e).3 (yes_exists (complete_list section families selection));
    }
