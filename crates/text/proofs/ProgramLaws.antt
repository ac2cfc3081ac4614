-- What the program `ftlist` needs of the parts: that its checks of the input are `program_text`'s, and that what the full listing answers and leaves in
-- the buffer can be printed, as the complete AllMatches.
use Prim.Native.Nat.{ℕ, ◌%◌, ◌≤◌, ◌<◌}
use native.Mathlib.Omega.{arith}
use mathlib.Core.Path.{◌≡◌, refl}
use mathlib.Core.Bool.{or-true}
use mathlib.Core.List.{List, [], ◌++◌}
use Rattle.std.specs.Prelude.{Option, Some, None}
use borrow.Author.Tests.{lt-ltb, le-ltb, ne_eqb}
use lib.ListN.{length, drop, length-append}
use lib.Seq.{take-append_seam}
use Rattle.model.specs.declared.Reason.TheVariants.{WrongSection}
use Rattle.model.specs.Answers.{complete_list, answer_unless, listing_refusal, listing_answer, listing_numbers, buffer_unless, listing_buffer}
use Rattle.model.specs.Checks.{refusal}
use Rattle.model.specs.Matches.{Match, strings}
use Rattle.model.specs.Families.{searched_of}
use Rattle.model.specs.Trees.{tree_of}
use Rattle.model.specs.declared.Listing.{Listing}
use Rattle.model.specs.declared.Listing.TheVariants.{Refused}
use Rattle.model.specs.declared.Refusal.{Refusal}
use Rattle.model.proofs.AnswersLaws.{listing_refusal-none, complete_fits}
use Rattle.model.proofs.ChecksLaws.{accepted-section, accepted-selection, input_none}
use Rattle.store.proofs.ValidStrLaws.{valid_matches}
use Rattle.text.specs.Input.{max_input, numbers_of, section_part, selection_part, listing_of, program_text}
use Rattle.text.specs.Printable.{ListingIn, PrintableAs, Printable}
use Rattle.text.specs.Printed.{listing_text}

-- ---- program_text

module _ (input : List ℕ) where
  pub program_long : max_input < length input → program_text input ≡ listing_text (Refused (refusal WrongSection 0)) []
  unfolding program_text
  program_long h = rw (lt-ltb max_input (length input) h)

  pub program_uneven : (length input % 4 ≡ 0 → ⊥) → program_text input ≡ listing_text (Refused (refusal WrongSection 0)) []
  unfolding program_text
  program_uneven h = rw (ne_eqb (length input % 4) 0 h, or-true)

  pub program_listed : length input ≤ max_input → length input % 4 ≡ 0 → program_text input ≡ listing_of (section_part (numbers_of input)) (selection_part (numbers_of input))
  unfolding program_text
  program_listed h e = rw (le-ltb max_input (length input) h, e)

-- ---- Printable

module _ (section families selection : List ℕ) (work : ℕ) (b : List ℕ) where
  -- what the buffer holds where nothing refuses
  listing_kept : listing_refusal section families selection work (length b) ≡ None
      → let ms = complete_list section families selection in
      ListingIn (length ms) (strings ms) ms (listing_numbers ms ++ drop (length (listing_numbers ms)) b)
  listing_kept e =
      let ms = complete_list section families selection in
      let xs = listing_numbers ms in
      let fits = complete_fits section families selection work (length b) e in
      let checks = input_none section families selection (listing_refusal-none section families selection work (length b) e).passes.checks in
      record {
        matches_are = refl;
        strings_are = refl;
        holds = record { within = omega (arith, length-append xs (drop (length xs) b)); part = take-append_seam xs (drop (length xs) b) };
        few = fits.0;
        short = fits.1;
        valid = valid_matches (searched_of section families) (tree_of selection) (accepted-section section checks.0).few (accepted-selection selection checks.2).ranks;
      }

  pub listing_held : PrintableAs (listing_answer section families selection work (length b)) (complete_list section families selection) (listing_buffer section families selection work b)
  unfolding listing_answer listing_buffer
  listing_held = at (listing_refusal section families selection work (length b)) listing_kept
    where
      ms : List Match
      ms = complete_list section families selection

      at : (r : Option Refusal) → (r ≡ None → ListingIn (length ms) (strings ms) ms (listing_numbers ms ++ drop (length (listing_numbers ms)) b))
          → PrintableAs (answer_unless r ms) ms (buffer_unless r (listing_numbers ms) b)
      at (Some r) h = tt
      at None h = h refl

  -- what the full listing answers and leaves can be printed
  abbrev pub listing_printable : {answer : Listing} {buffer : List ℕ} → answer ≡ listing_answer section families selection work (length b) → buffer ≡ listing_buffer section families selection work b
      → Printable answer buffer
  listing_printable e f =
      record { list = complete_list section families selection; held = rw (e, f) listing_held }
