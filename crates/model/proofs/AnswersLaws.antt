-- What the calls' answers come to where the checks pass, and what a given listing tells of the checks.
use Prim.Native.Nat.{ℕ, ◌+◌, ◌*◌, ◌≤◌}
use native.Mathlib.Omega.{arith}
use mathlib.Core.Path.{◌≡◌, refl, ap₂, ◌∙◌}
use mathlib.Core.Bool.{Bool, false, ◌&&◌}
use mathlib.Core.List.{List, [], ◌∷◌, ◌++◌, map, flat_map}
use Rattle.std.specs.Prelude.{Option, Some, None, option_map}
use Rattle.model.specs.declared.Reason.TheVariants.{LongList, ShortMemory}
use Rattle.model.proofs.OptionLaws.{map-eq-none_iff}
use lib.Dec.{leb, ltb}
use lib.ListN.{length, drop, length-append, length-map}
use borrow.Author.Tests.{leb-true, le-leb, ltb-false}
use Rattle.std.specs.Prelude.{Ok, Err}
use Rattle.model.specs.declared.Listing.TheVariants.{Listed, Refused}
use Rattle.model.specs.Walk.{answered}
use Rattle.model.specs.Walk.{Quick}
use Rattle.model.specs.declared.Refusal.{Refusal}
use Rattle.model.specs.Answers.{checked_of, complete_list, listing_refusal, answer_unless, listing_answer, spans_in, tags_in, span_of, tag_of, listing_numbers, listing_buffer, walk_unless, quick_answer}
use Rattle.model.specs.Checks.{refusal, room_refusal, input_refusal, listing_checks, quick_checks}
use Rattle.model.specs.Accepted.{Passes}
use Rattle.model.specs.Limits.{max_matches, max_strings, work_length, buffer_length}
use Rattle.model.specs.Matches.{Str, Match, is_yes, strings_in, strings, too_long}
use Rattle.model.specs.Families.{searched_of}
use Rattle.model.specs.Trees.{tree_of, parts}
use Rattle.model.specs.Walk.{first_too_long, unless_too_long, walk}
use Rattle.model.specs.Walked.{walk_builds, walk_reaches}
use Rattle.model.proofs.ChecksLaws.{otherwise-none}
use Rattle.model.proofs.TestsLaws.{both_true, both_false, cond-none}
use Rattle.model.proofs.WalkLaws.{first_too_long_whole, walk_is, walk_answer_complete}

-- ---- checked_of

pub checked_accepted : (size : ℕ) (o : Option Refusal) {n : ℕ} → checked_of size o ≡ Ok n → (o ≡ None) × (n ≡ size)
checked_accepted size (Some r) e = let z : ◌≡◌ {A = ℕ} 0 1 = cc in absurd (omega arith)
checked_accepted size None e = (refl, cc)

pub checked_refused : (size : ℕ) (o : Option Refusal) {r : Refusal} → checked_of size o ≡ Err r → o ≡ Some r
checked_refused size (Some q) e = cc
checked_refused size None e = let z : ◌≡◌ {A = ℕ} 0 1 = cc in absurd (omega arith)

-- ---- too_long

pub fits_limits : (ms : List Match) → too_long ms ≡ false → (length ms ≤ max_matches) × (strings ms ≤ max_strings)
fits_limits ms e =
    let both = both_false (ltb max_matches (length ms)) (ltb max_strings (strings ms)) e in
    (ltb-false max_matches (length ms) both.0, ltb-false max_strings (strings ms) both.1)

-- ---- listing_refusal, listing_answer

-- what holds where the listing does not refuse
pub record ListingPasses (section families selection : List ℕ) (work buffer : ℕ) : Type 0 where
  pub passes : Passes section families selection work
  pub room : buffer_length ≤ buffer
  pub fits : first_too_long (searched_of section families) (parts (tree_of selection)) ≡ None

answer_unless-listed : (r : Option Refusal) (ms : List Match) (m k : ℕ) (y : Bool) → answer_unless r ms ≡ Listed m k y
    → (r ≡ None) × (m ≡ length ms) × (k ≡ strings ms) × (y ≡ is_yes ms)
answer_unless-listed None ms m k y e = (refl, cc, cc, cc)
answer_unless-listed (Some r) ms m k y e = let z : ◌≡◌ {A = ℕ} 0 1 = cc in absurd (omega arith)

answer_unless-refused : (o : Option Refusal) (ms : List Match) (r : Refusal) → answer_unless o ms ≡ Refused r → o ≡ Some r
answer_unless-refused None ms r e = let z : ◌≡◌ {A = ℕ} 0 1 = cc in absurd (omega arith)
answer_unless-refused (Some q) ms r e = cc

module _ (section families selection : List ℕ) (work buffer : ℕ) where
  pub listing_refusal-passes : Passes section families selection work → buffer_length ≤ buffer
      → listing_refusal section families selection work buffer ≡ option_map (refusal LongList) (first_too_long (searched_of section families) (parts (tree_of selection)))
  unfolding listing_refusal listing_checks
  listing_refusal-passes p room = rw (p.checks, le-leb work_length work p.enough, le-leb buffer_length buffer room)

  pub listing_refusal-none : listing_refusal section families selection work buffer ≡ None → ListingPasses section families selection work buffer
  unfolding listing_refusal listing_checks
  listing_refusal-none e =
      let long = first_too_long (searched_of section families) (parts (tree_of selection)) in
      let first = otherwise-none (listing_checks section families selection work buffer) (option_map (refusal LongList) long) e in
      let checks = otherwise-none (input_refusal section families selection) (room_refusal (leb work_length work && leb buffer_length buffer)) first.0 in
      let rooms = both_true (leb work_length work) (leb buffer_length buffer) (cond-none (leb work_length work && leb buffer_length buffer) (refusal ShortMemory 0) checks.1) in
      record {
        passes = record { checks = checks.0; enough = leb-true work_length work rooms.0 };
        room = leb-true buffer_length buffer rooms.1;
        fits = (map-eq-none_iff (refusal LongList) long).0 first.1;
      }

  -- Where nothing refuses, the complete list is within the limits.
  pub complete_fits : listing_refusal section families selection work buffer ≡ None
      → (length (complete_list section families selection) ≤ max_matches) × (strings (complete_list section families selection) ≤ max_strings)
  complete_fits e =
      let passed = listing_refusal-none e in
      fits_limits (complete_list section families selection) (first_too_long_whole (searched_of section families) (tree_of selection) passed.fits)

  -- A given listing tells that nothing refuses, and its three numbers are the complete list's.
  pub listing_answer-listed : (m k : ℕ) (y : Bool) → listing_answer section families selection work buffer ≡ Listed m k y
      → (listing_refusal section families selection work buffer ≡ None)
      × (m ≡ length (complete_list section families selection))
      × (k ≡ strings (complete_list section families selection))
      × (y ≡ is_yes (complete_list section families selection))
  unfolding listing_answer
  listing_answer-listed m k y e = answer_unless-listed (listing_refusal section families selection work buffer) (complete_list section families selection) m k y e

-- ---- listing_numbers

-- a number for each string
length-flat_map : (f : Match → List ℕ) → ((m : Match) → length (f m) ≡ strings_in m) → (ms : List Match) → length (flat_map f ms) ≡ strings ms
unfolding flat_map strings
length-flat_map f h [] = refl
length-flat_map f h (m ∷ ms) = length-append (f m) (flat_map f ms) ∙ ap₂ ◌+◌ (h m) (length-flat_map f h ms)

pub length_columns : {A : Type 0} (f g : Str → A) (m : Match) → length (map f m.includes ++ map g m.excludes) ≡ strings_in m
length_columns f g m = length-append (map f m.includes) (map g m.excludes) ∙ ap₂ ◌+◌ (length-map m.includes f) (length-map m.excludes g)

pub length-spans : (ms : List Match) → length (flat_map spans_in ms) ≡ strings ms
length-spans ms = length-flat_map spans_in (length_columns span_of span_of) ms

pub length-tags : (ms : List Match) → length (flat_map tags_in ms) ≡ strings ms
length-tags ms = length-flat_map tags_in (length_columns (tag_of 0) (tag_of 1)) ms

pub length-listing_numbers : (ms : List Match) → length (listing_numbers ms) ≡ 2 + length ms + 2 * strings ms
unfolding listing_numbers
length-listing_numbers ms = simp (length-append, length-map, length-spans, length-tags) (omega arith)

-- ---- listing_buffer

module _ (section families selection : List ℕ) (work : ℕ) (buffer : List ℕ) where
  -- A call that refuses leaves the buffer unchanged; one that lists puts the complete list's numbers at its front.
  pub listing_buffer-refused : (r : Refusal) → listing_answer section families selection work (length buffer) ≡ Refused r
      → listing_buffer section families selection work buffer ≡ buffer
  unfolding listing_answer listing_buffer
  listing_buffer-refused r e = rw (answer_unless-refused (listing_refusal section families selection work (length buffer)) (complete_list section families selection) r e)

  pub listing_buffer-listed : listing_refusal section families selection work (length buffer) ≡ None
      → listing_buffer section families selection work buffer
      ≡ listing_numbers (complete_list section families selection) ++ drop (length (listing_numbers (complete_list section families selection))) buffer
  unfolding listing_buffer
  listing_buffer-listed e = rw e

-- ---- quick_answer

walk_unless-answered : (r : Option Refusal) (walked : Quick) (y : Bool) (n : ℕ) → walk_unless r walked ≡ answered y n → (r ≡ None) × (walked ≡ answered y n)
walk_unless-answered None walked y n e = (refl, e)
walk_unless-answered (Some r) walked y n e = let z : ◌≡◌ {A = ℕ} 0 1 = cc in absurd (omega arith)

module _ (section families selection : List ℕ) (work : ℕ) where
  pub quick_checks-passes : Passes section families selection work → quick_checks section families selection work ≡ None
  unfolding quick_checks
  quick_checks-passes p = rw (p.checks, le-leb work_length work p.enough)

  pub quick_checks-none : quick_checks section families selection work ≡ None → Passes section families selection work
  unfolding quick_checks
  quick_checks-none e =
      let checks = otherwise-none (input_refusal section families selection) (room_refusal (leb work_length work)) e in
      record { checks = checks.0; enough = leb-true work_length work (cond-none (leb work_length work) (refusal ShortMemory 0) checks.1) }

  -- A given answer tells that the checks pass, and is the walk's.
  pub quick_answer-answered : (y : Bool) (n : ℕ) → quick_answer section families selection work ≡ answered y n
      → Passes section families selection work × (walk (searched_of section families) (tree_of selection) ≡ answered y n)
  unfolding quick_answer
  quick_answer-answered y n e =
      let given = walk_unless-answered (quick_checks section families selection work) (walk (searched_of section families) (tree_of selection)) y n e in
      (quick_checks-none given.0, given.1)

  -- Where the checks pass, the quick answer refuses at the first list too long that its walk builds; where none is, it answers whether the
  -- complete list has a match without excludes, and counts what its walk reaches.
  pub quick_answer-is : Passes section families selection work
      → quick_answer section families selection work
      ≡ unless_too_long (first_too_long (searched_of section families) (walk_builds (searched_of section families) (tree_of selection))) (is_yes (complete_list section families selection))
      (length (walk_reaches (searched_of section families) (tree_of selection)))
  unfolding quick_answer
  quick_answer-is p = rw (quick_checks-passes p, walk_is (searched_of section families) (tree_of selection), walk_answer_complete (searched_of section families) (tree_of selection))
