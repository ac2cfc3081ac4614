-- Texts as document 01 shows them, as entries of one list checked by one fact: its example under `ftlist` from the four matches and from the bytes
-- that the program reads, and a line of each other form.
use Rattle.std.specs.Prelude.{ℕ, ◌/◌, ◌%◌, ◌≡◌, refl, Bool, true, false, ◌&&◌, eqb}
use Prim.Native.String.{String}
use Rattle.std.proofs.Math.Bool.{xor}
use mathlib.Core.List.{List, [], ◌∷◌, ◌++◌, flat_map}
use Rattle.model.specs.declared.Reason.TheVariants.{LongList}
use Rattle.model.specs.AllMatches.{filter_list, all_matches}
use Rattle.model.specs.Answers.{listed, listing_refusal, listing_answer}
use Rattle.model.specs.Bytes.{bytes}
use Rattle.model.specs.Checks.{refusal, tried, wrong_section, last_nonzero, faulty_at, faulty_position, wrong_families, entry_out_of_order, wrong_selection, unknown_kind, filter_operand_fits, operand_fits, wrong_operand, wrong_shape, not_over_phrase, not_under_mild_not, section_refusal, families_refusal, selection_refusal, input_refusal, listing_checks}
use Rattle.model.specs.Families.{entry_of, family_of, word_fits}
use Rattle.model.specs.Kinds.{shapes_of}
use Rattle.model.specs.Lists.{all_of, any_of, is_empty, keep, first, all_pairs, neighbours, insert_sorted, sort, up_from, from_to}
use Rattle.model.specs.Matches.{Str, Match, strings}
use Rattle.model.specs.Rules.{stand_from, phrase_list, no_strings, and_list, least_start, greatest_end, join, window_ends, window}
use Rattle.model.specs.Section.{well_sized}
use Rattle.model.specs.Selection.{up_to}
use Rattle.model.specs.Trees.{place_of, combine, change_last, read, read_all, top_tree, tree_of, parts}
use Rattle.model.specs.Waiting.{first_misfit_from}
use Rattle.model.specs.Walk.{first_too_long}
use Rattle.model.specs.declared.Listing.TheVariants.{Refused}
use Rattle.text.specs.Printed.{digits, decimal, span_text, query_text, string_text, line_of, match_text, head_text, answer_text, listing_text}
use Rattle.text.specs.Input.{numbers_of, program_text}

-- what is printed, and what document 01 says
pub record Example : Type 0 where
  pub printed : List ℕ
  pub says : String

same_bytes : List ℕ → List ℕ → Bool
same_bytes [] [] = true
same_bytes [] (y ∷ ys) = false
same_bytes (x ∷ xs) [] = false
same_bytes (x ∷ xs) (y ∷ ys) = eqb x y && same_bytes xs ys

pub right : Example → Bool
right e = same_bytes e.printed (bytes e.says)

-- a string: its contiguous mark, query position, start and end
string : Bool → ℕ → ℕ → ℕ → Str
string c q a b = record { start = a; end = b; query = q; contiguous = c }

one : Str → Match
one s = record { includes = s ∷ []; excludes = [] }

printed : List Match → List ℕ
printed ms = listing_text (listed ms) ms

-- numbers as they come in
wire : List ℕ → List ℕ
wire numbers = flat_map (λ n. n % 256 ∷ n / 256 % 256 ∷ n / 65536 % 256 ∷ n / 16777216 ∷ []) numbers

-- "Words 10 20 30 10 40 20; sentences 1 1 1 2 2 2; paragraph 1"; "kinds 0 1 0 1 3 7, operands 10 1 20 1 0 3"
six : List ℕ
six = 6 ∷ 10 ∷ 20 ∷ 30 ∷ 10 ∷ 40 ∷ 20 ∷ 65537 ∷ 65537 ∷ 65537 ∷ 65538 ∷ 65538 ∷ 65538 ∷ []

selected : List ℕ
selected = 6 ∷ 0 ∷ 1 ∷ 0 ∷ 1 ∷ 3 ∷ 7 ∷ 10 ∷ 1 ∷ 20 ∷ 1 ∷ 0 ∷ 3 ∷ []

pub entries : List Example
entries =
    -- "For 10 and 20, window 3"
    record {
      printed = printed (one (string true 1 1 2) ∷ one (string true 1 1 2) ∷ one (string false 1 2 4) ∷ one (string false 1 4 6) ∷ []);
      says = "yes 4 4\n+1-2 q1 c\n+1-2 q1 c\n+2-4 q1 n\n+4-6 q1 n\n";
    }
    -- the same, from what the program reads
    ∷ record { printed = program_text (wire (six ++ selected)); says = "yes 4 4\n+1-2 q1 c\n+1-2 q1 c\n+2-4 q1 n\n+4-6 q1 n\n" }
    -- a selection of which the last code is unknown
    ∷ record { printed = program_text (wire (six ++ 3 ∷ 0 ∷ 1 ∷ 22 ∷ 10 ∷ 1 ∷ 0 ∷ [])); says = "refused 4 3\n" }
    -- "`refused 1 0`": a count not divisible by 4, and no input
    ∷ record { printed = program_text (6 ∷ 0 ∷ 0 ∷ 0 ∷ 10 ∷ []); says = "refused 1 0\n" }
    ∷ record { printed = program_text []; says = "refused 1 0\n" }
    -- "any refusal prints `refused`, number, place"
    ∷ record { printed = listing_text (Refused (refusal LongList 64)) []; says = "refused 9 64\n" }
    -- an empty list
    ∷ record { printed = printed []; says = "no 0 0\n" }
    -- "`.` for a match with none"
    ∷ record { printed = printed (no_strings ∷ []); says = "yes 1 0\n.\n" }
    -- "! exclude", "strings parted by a blank"
    ∷ record {
      printed = printed (record { includes = string true 1 4 4 ∷ string true 2 4096 4096 ∷ []; excludes = string true 32 10 10 ∷ [] } ∷ []);
      says = "no 1 3\n+4-4 q1 c +4096-4096 q2 c !10-10 q32 c\n";
    }
    ∷ []

pub examples_hold : all_of right entries ≡ true
unfolding same_bytes right string one printed wire six selected entries digits decimal span_text query_text string_text line_of match_text head_text answer_text listing_text numbers_of program_text
    xor all_of any_of is_empty keep first all_pairs neighbours insert_sorted sort up_from from_to flat_map well_sized entry_of family_of word_fits up_to shapes_of first_misfit_from place_of combine change_last read read_all top_tree tree_of parts strings
    stand_from phrase_list and_list least_start greatest_end join window_ends window filter_list all_matches
    tried wrong_section last_nonzero faulty_at faulty_position wrong_families entry_out_of_order wrong_selection unknown_kind filter_operand_fits operand_fits wrong_operand wrong_shape not_over_phrase not_under_mild_not section_refusal families_refusal selection_refusal input_refusal listing_checks
    first_too_long listing_refusal listing_answer
examples_hold = refl
