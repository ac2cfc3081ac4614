-- Document 01's starred examples, and the one under `ftlist`, "proved of the definitions jointly, as entries of one list checked by one fact", and worked
-- examples of document 02's F-3 to F-6. Each is put to the calls' definitions as lent numbers, with everything that is said of it.
use Rattle.std.specs.Prelude.{ℕ, ◌+◌, ◌*◌, ◌≡◌, refl, Bool, true, false, ◌&&◌, eqb, length, take, replicate}
use Rattle.std.specs.Bool.{beq}
use Rattle.std.proofs.Math.Bool.{xor}
use mathlib.Core.List.{List, [], ◌∷◌, ◌++◌, map, flat_map}
use Rattle.std.specs.Prelude.{Ok, Err}
use Rattle.model.specs.declared.Listing.{Listing}
use Rattle.model.specs.declared.Listing.TheVariants.{Listed, Refused}
use Rattle.model.specs.declared.Refusal.{Refusal}
use Rattle.model.specs.AllMatches.{filter_list, all_matches}
use Rattle.model.specs.Answers.{complete_list, listing_refusal, listing_answer, listing_numbers, listing_buffer, quick_answer}
use Rattle.model.specs.Checks.{number_of, tried, wrong_section, last_nonzero, faulty_at, faulty_position, wrong_families, entry_out_of_order, wrong_selection, unknown_kind, filter_operand_fits, times_operand_fits, operand_fits, wrong_operand, wrong_shape, not_over_phrase, not_under_mild_not, section_refusal, families_refusal, selection_refusal, input_refusal, listing_checks, quick_checks}
use Rattle.model.specs.Limits.{work_length, buffer_length, radix}
use Rattle.model.specs.Lists.{all_of, any_of, is_empty, keep, first, all_pairs, neighbours, insert_sorted, sort, choose, up_from, from_to}
use Rattle.model.specs.Matches.{Str, Match, strings}
use Rattle.model.specs.Rules.{stand_from, phrase_list, no_strings, and_list, not_list, mild_not_list, least_start, greatest_end, join, kept, window_ends, window, in_unit_for, joined_all, choices_of, at_least, from_to_times}
use Rattle.model.specs.Section.{well_sized}
use Rattle.model.specs.Families.{empty_table, entry_of, family_of, word_fits}
use Rattle.model.specs.Selection.{up_to}
use Rattle.model.specs.Kinds.{shapes_of}
use Rattle.model.specs.Trees.{place_of, combine, change_last, read, read_all, top_tree, tree_of, parts}
use Rattle.model.specs.Waiting.{first_misfit_from}
use Rattle.model.specs.Walk.{Quick, first_too_long, build, filter_walk, walk}

-- What is said of a selection.
pub data Claim : Type 0 where
  has_matches : ℕ → Claim
  has_strings : ℕ → Claim
  lists : List Match → Claim
  answers : Bool → Claim
  -- both calls refuse it: number and place
  refused : ℕ → ℕ → Claim
  -- the listing is refused 9 at a place, and the quick answer given, with a count of codes
  quick_only : ℕ → Bool → ℕ → Claim

pub record Example : Type 0 where
  pub section : List ℕ
  pub selection : List ℕ
  pub claims : List Claim

-- a family table, and examples with it
pub record WithTable : Type 0 where
  pub families : List ℕ
  pub examples : List Example

-- ---- do the definitions say so?

each_same : {A : Type 0} → (A → A → Bool) → List A → List A → Bool
each_same equal [] [] = true
each_same equal [] (y ∷ ys) = false
each_same equal (x ∷ xs) [] = false
each_same equal (x ∷ xs) (y ∷ ys) = equal x y && each_same equal xs ys

same_str : Str → Str → Bool
same_str s t = eqb s.start t.start && eqb s.end t.end && eqb s.query t.query && beq s.contiguous t.contiguous

same_match : Match → Match → Bool
same_match l m = each_same same_str l.includes m.includes && each_same same_str l.excludes m.excludes

counts_matches : Listing → ℕ → Bool
counts_matches (Listed m s y) m' = eqb m m'
counts_matches (Refused r) m' = false

counts_strings : Listing → ℕ → Bool
counts_strings (Listed m s y) s' = eqb s s'
counts_strings (Refused r) s' = false

listing_says : Listing → Bool → Bool
listing_says (Listed m s y) b = beq y b
listing_says (Refused r) b = false

quick_says : Quick → Bool → Bool
quick_says (Ok a) b = beq a.yes b
quick_says (Err r) b = false

quick_counts : Quick → ℕ → Bool
quick_counts (Ok a) k = eqb a.codes k
quick_counts (Err r) k = false

same_refusal : Refusal → ℕ → ℕ → Bool
same_refusal r number place = eqb (number_of r.reason) number && eqb r.place place

listing_refuses : Listing → ℕ → ℕ → Bool
listing_refuses (Listed m s y) number place = false
listing_refuses (Refused r) number place = same_refusal r number place

quick_refuses : Quick → ℕ → ℕ → Bool
quick_refuses (Ok a) number place = false
quick_refuses (Err r) number place = same_refusal r number place

-- the listing buffer after the call, which was all zeros before it
buffered : List ℕ → List ℕ → List ℕ → List ℕ
buffered section families selection = listing_buffer section families selection work_length (replicate buffer_length 0)

holds : List ℕ → List ℕ → List ℕ → Claim → Bool
holds section families selection (has_matches m) = counts_matches (listing_answer section families selection work_length buffer_length) m
holds section families selection (has_strings s) = counts_strings (listing_answer section families selection work_length buffer_length) s
holds section families selection (lists ms) = each_same same_match (complete_list section families selection) ms && each_same eqb (take (length (listing_numbers ms)) (buffered section families selection)) (listing_numbers ms)
holds section families selection (answers b) =
    listing_says (listing_answer section families selection work_length buffer_length) b && quick_says (quick_answer section families selection work_length) b
holds section families selection (refused number place) =
    listing_refuses (listing_answer section families selection work_length buffer_length) number place
    && quick_refuses (quick_answer section families selection work_length) number place
holds section families selection (quick_only place b codes) =
    listing_refuses (listing_answer section families selection work_length buffer_length) 9 place
    && quick_says (quick_answer section families selection work_length) b
    && quick_counts (quick_answer section families selection work_length) codes

right_with : List ℕ → Example → Bool
right_with families e = all_of (holds e.section families e.selection) e.claims

pub right : WithTable → Bool
right t = all_of (right_with t.families) t.examples

-- ---- sections, selections and matches, as the paper writes them

-- words with their sentence numbers, in one paragraph
in_paragraph : ℕ → List ℕ → List ℕ → List ℕ
in_paragraph paragraph words sentences = length words ∷ (words ++ map (λ s. paragraph * radix + s) sentences)

select : List ℕ → List ℕ → List ℕ
select kinds operands = length kinds ∷ (kinds ++ operands)

-- a match of one include: its contiguous mark, query position, start and end
one : Bool → ℕ → ℕ → ℕ → Match
one c q a b = record { includes = record { start = a; end = b; query = q; contiguous = c } ∷ []; excludes = [] }

-- finds of the first phrase, single words, at positions
at : List ℕ → List Str
at ps = map (λ p. record { start = p; end = p; query = 1; contiguous = true }) ps

-- a match with includes and excludes among them
these : List ℕ → List ℕ → Match
these is es = record { includes = at is; excludes = at es }

-- a match of two single words, a find of the first phrase and one of the second
both : ℕ → ℕ → Match
both a b = record { includes = at (a ∷ []) ++ record { start = b; end = b; query = 2; contiguous = true } ∷ []; excludes = [] }

-- "Words 10 20 30 10 40 20; sentences 1 1 1 2 2 2; paragraph 1."
six : List ℕ
six = in_paragraph 1 (10 ∷ 20 ∷ 30 ∷ 10 ∷ 40 ∷ 20 ∷ []) (1 ∷ 1 ∷ 1 ∷ 2 ∷ 2 ∷ 2 ∷ [])

empty_section : List ℕ
empty_section = 0 ∷ []

-- "Words 1 2 3 4"
four : List ℕ
four = in_paragraph 0 (1 ∷ 2 ∷ 3 ∷ 4 ∷ []) (0 ∷ 0 ∷ 0 ∷ 0 ∷ [])

-- the words of six: a heading of two, and one word without a sentence between words of sentence 2
headed : List ℕ
headed = in_paragraph 1 (10 ∷ 20 ∷ 30 ∷ 10 ∷ 40 ∷ 20 ∷ []) (0 ∷ 0 ∷ 1 ∷ 2 ∷ 0 ∷ 2 ∷ [])

-- n tokens of the word 7
sevens : ℕ → List ℕ
sevens n = in_paragraph 0 (replicate n 7) (replicate n 0)

-- a family table: words, and their families
table : List ℕ → List ℕ → List ℕ
table words numbers = length words ∷ (words ++ numbers)

-- a word, and a phrase of two
single : ℕ → List ℕ
single w = select (0 ∷ 1 ∷ []) (w ∷ 1 ∷ [])

phrase_of : ℕ → ℕ → List ℕ
phrase_of v w = select (0 ∷ 0 ∷ 1 ∷ []) (v ∷ w ∷ 2 ∷ [])

-- one word, and an occurs over it: its kind and its operand
occurs : ℕ → ℕ → ℕ → List ℕ
occurs word kind operand = select (0 ∷ 1 ∷ kind ∷ []) (word ∷ 1 ∷ operand ∷ [])

without_families : List Example
without_families =
    -- "10: spans 1-1, 4-4."
    record { section = six; selection = select (0 ∷ 1 ∷ []) (10 ∷ 1 ∷ []); claims = lists (one true 1 1 1 ∷ one true 1 4 4 ∷ []) ∷ [] }
    -- "10 and 20: four matches."
    ∷ record { section = six; selection = select (0 ∷ 1 ∷ 0 ∷ 1 ∷ 3 ∷ []) (10 ∷ 1 ∷ 20 ∷ 1 ∷ 0 ∷ []); claims = has_matches 4 ∷ [] }
    -- "Ordered: three."
    ∷ record { section = six; selection = select (0 ∷ 1 ∷ 0 ∷ 1 ∷ 3 ∷ 6 ∷ []) (10 ∷ 1 ∷ 20 ∷ 1 ∷ 0 ∷ 0 ∷ []); claims = has_matches 3 ∷ [] }
    -- "Distance 1 to 1: 2-4 and 4-6."
    ∷ record { section = six; selection = select (0 ∷ 1 ∷ 0 ∷ 1 ∷ 3 ∷ 8 ∷ []) (10 ∷ 1 ∷ 20 ∷ 1 ∷ 0 ∷ (1 * radix + 1) ∷ []); claims = lists (one false 1 2 4 ∷ one false 1 4 6 ∷ []) ∷ [] }
    -- "10 and not 40: no."
    ∷ record { section = six; selection = select (0 ∷ 1 ∷ 0 ∷ 1 ∷ 4 ∷ 3 ∷ []) (10 ∷ 1 ∷ 40 ∷ 1 ∷ 0 ∷ 0 ∷ []); claims = answers false ∷ [] }
    -- "The same in the same sentence: yes."
    ∷ record { section = six; selection = select (0 ∷ 1 ∷ 0 ∷ 1 ∷ 4 ∷ 3 ∷ 9 ∷ []) (10 ∷ 1 ∷ 40 ∷ 1 ∷ 0 ∷ 0 ∷ 0 ∷ []); claims = answers true ∷ [] }
    -- "not 99: one match without strings, yes."
    ∷ record { section = six; selection = select (0 ∷ 1 ∷ 4 ∷ []) (99 ∷ 1 ∷ 0 ∷ []); claims = lists (no_strings ∷ []) ∷ answers true ∷ [] }
    -- "not not 10: two matches."
    ∷ record { section = six; selection = select (0 ∷ 1 ∷ 4 ∷ 4 ∷ []) (10 ∷ 1 ∷ 0 ∷ 0 ∷ []); claims = has_matches 2 ∷ [] }
    -- "not (10 and 20): 16 matches, 64 strings, no."
    ∷ record { section = six; selection = select (0 ∷ 1 ∷ 0 ∷ 1 ∷ 3 ∷ 4 ∷ []) (10 ∷ 1 ∷ 20 ∷ 1 ∷ 0 ∷ 0 ∷ []); claims = has_matches 16 ∷ has_strings 64 ∷ answers false ∷ [] }
    -- "10 mild not the phrase 10 20: only 4-4."
    ∷ record { section = six; selection = select (0 ∷ 1 ∷ 0 ∷ 0 ∷ 1 ∷ 5 ∷ []) (10 ∷ 1 ∷ 10 ∷ 20 ∷ 2 ∷ 0 ∷ []); claims = lists (one true 1 4 4 ∷ []) ∷ [] }
    -- "Empty section, * not 10, entire content: yes; at start: no."
    ∷ record { section = empty_section; selection = select (0 ∷ 1 ∷ 4 ∷ 15 ∷ []) (10 ∷ 1 ∷ 0 ∷ 0 ∷ []); claims = answers true ∷ [] }
    ∷ record { section = empty_section; selection = select (0 ∷ 1 ∷ 4 ∷ 13 ∷ []) (10 ∷ 1 ∷ 0 ∷ 0 ∷ []); claims = answers false ∷ [] }
    -- "Words 1 2 3 4: ((1 and 3) window 3) and ((2 and 4) window 3), entire content: no."
    ∷ record {
      section = four;
      selection = select (0 ∷ 1 ∷ 0 ∷ 1 ∷ 3 ∷ 7 ∷ 0 ∷ 1 ∷ 0 ∷ 1 ∷ 3 ∷ 7 ∷ 3 ∷ 15 ∷ []) (1 ∷ 1 ∷ 3 ∷ 1 ∷ 0 ∷ 3 ∷ 2 ∷ 1 ∷ 4 ∷ 1 ∷ 0 ∷ 3 ∷ 0 ∷ 0 ∷ []);
      claims = answers false ∷ [];
    }
    -- "For 10 and 20, window 3 (kinds 0 1 0 1 3 7, operands 10 1 20 1 0 3)": "yes 4 4", and a line a match
    ∷ record {
      section = six;
      selection = select (0 ∷ 1 ∷ 0 ∷ 1 ∷ 3 ∷ 7 ∷ []) (10 ∷ 1 ∷ 20 ∷ 1 ∷ 0 ∷ 3 ∷ []);
      claims = answers true ∷ has_matches 4 ∷ has_strings 4 ∷ lists (one true 1 1 2 ∷ one true 1 1 2 ∷ one false 1 2 4 ∷ one false 1 4 6 ∷ []) ∷ [];
    }
    -- F-3: at least 2, 3 and 4 of three finds, 0 of two and of none; fewer than three of two
    ∷ record {
      section = sevens 3;
      selection = occurs 7 17 2;
      claims = lists (these (1 ∷ 2 ∷ []) [] ∷ these (1 ∷ 3 ∷ []) [] ∷ these (2 ∷ 3 ∷ []) [] ∷ these (1 ∷ 2 ∷ 3 ∷ []) [] ∷ []) ∷ answers true ∷ [];
    }
    ∷ record { section = sevens 3; selection = occurs 7 17 3; claims = lists (these (1 ∷ 2 ∷ 3 ∷ []) [] ∷ []) ∷ [] }
    ∷ record { section = sevens 3; selection = occurs 7 17 4; claims = lists [] ∷ answers false ∷ [] }
    ∷ record {
      section = six;
      selection = occurs 10 17 0;
      claims = lists (no_strings ∷ these (1 ∷ []) [] ∷ these (4 ∷ []) [] ∷ these (1 ∷ 4 ∷ []) [] ∷ []) ∷ answers true ∷ [];
    }
    ∷ record { section = six; selection = occurs 99 17 0; claims = lists (no_strings ∷ []) ∷ answers true ∷ [] }
    ∷ record { section = six; selection = select (0 ∷ 1 ∷ 17 ∷ 4 ∷ []) (10 ∷ 1 ∷ 3 ∷ 0 ∷ []); claims = answers true ∷ [] }
    -- from a to b: exactly one of one, of none and of two; none of one
    ∷ record { section = six; selection = occurs 30 16 (1 * radix + 1); claims = lists (these (3 ∷ []) [] ∷ []) ∷ answers true ∷ [] }
    ∷ record { section = six; selection = occurs 99 16 (1 * radix + 1); claims = lists [] ∷ answers false ∷ [] }
    ∷ record {
      section = six;
      selection = occurs 10 16 (1 * radix + 1);
      claims =
          lists
          (these (1 ∷ []) (1 ∷ []) ∷ these (1 ∷ []) (4 ∷ []) ∷ these (4 ∷ []) (1 ∷ []) ∷ these (4 ∷ []) (4 ∷ []) ∷ these (1 ∷ 4 ∷ []) (1 ∷ []) ∷ these (1 ∷ 4 ∷ []) (4 ∷ []) ∷ [])
          ∷ answers false
          ∷ [];
    }
    ∷ record { section = six; selection = occurs 30 16 0; claims = lists (these [] (3 ∷ []) ∷ these (3 ∷ []) (3 ∷ []) ∷ []) ∷ answers false ∷ [] }
    -- exactly one of two, in the same sentence: the other find is in another, and no longer excludes
    ∷ record { section = six; selection = select (0 ∷ 1 ∷ 16 ∷ 9 ∷ []) (10 ∷ 1 ∷ (1 * radix + 1) ∷ 0 ∷ []); claims = answers true ∷ [] }
    -- at the limits and over them
    ∷ record { section = sevens 7; selection = occurs 7 17 0; claims = has_matches 128 ∷ has_strings 448 ∷ [] }
    ∷ record { section = sevens 8; selection = occurs 7 17 5; claims = has_matches 93 ∷ has_strings 512 ∷ [] }
    ∷ record { section = sevens 8; selection = occurs 7 17 4; claims = refused 9 3 ∷ [] }
    ∷ record { section = sevens 3; selection = occurs 7 16 (1 * radix + 1); claims = refused 9 3 ∷ [] }
    -- over an and, over an occurs; under a mild not, 12 before 7; an unknown kind; operands outside the table
    ∷ record { section = six; selection = select (0 ∷ 1 ∷ 0 ∷ 1 ∷ 3 ∷ 17 ∷ []) (10 ∷ 1 ∷ 20 ∷ 1 ∷ 0 ∷ 1 ∷ []); claims = refused 12 6 ∷ [] }
    ∷ record { section = six; selection = select (0 ∷ 1 ∷ 17 ∷ 17 ∷ []) (10 ∷ 1 ∷ 1 ∷ 1 ∷ []); claims = refused 12 4 ∷ [] }
    ∷ record { section = six; selection = select (0 ∷ 1 ∷ 0 ∷ 1 ∷ 16 ∷ 5 ∷ []) (10 ∷ 1 ∷ 20 ∷ 1 ∷ 2 ∷ 0 ∷ []); claims = refused 7 6 ∷ [] }
    ∷ record { section = six; selection = select (0 ∷ 1 ∷ 0 ∷ 1 ∷ 17 ∷ 5 ∷ []) (10 ∷ 1 ∷ 20 ∷ 1 ∷ 2 ∷ 0 ∷ []); claims = has_matches 2 ∷ answers true ∷ [] }
    ∷ record { section = six; selection = select (0 ∷ 1 ∷ 4 ∷ 0 ∷ 1 ∷ 5 ∷ 17 ∷ []) (10 ∷ 1 ∷ 0 ∷ 20 ∷ 1 ∷ 0 ∷ 1 ∷ []); claims = refused 12 7 ∷ [] }
    ∷ record { section = six; selection = occurs 10 18 0; claims = refused 4 3 ∷ [] }
    ∷ record { section = six; selection = occurs 10 17 4096; claims = refused 5 3 ∷ [] }
    ∷ record { section = six; selection = occurs 10 16 (3 * radix + 2); claims = refused 5 3 ∷ [] }
    -- F-4: 10, which stands twice, in a window of 128 and of 129; under a not; right of an or, after a no
    ∷ record { section = six; selection = select (0 ∷ 1 ∷ 7 ∷ []) (10 ∷ 1 ∷ 128 ∷ []); claims = has_matches 256 ∷ answers true ∷ [] }
    ∷ record { section = six; selection = select (0 ∷ 1 ∷ 7 ∷ []) (10 ∷ 1 ∷ 129 ∷ []); claims = quick_only 3 true 2 ∷ [] }
    ∷ record { section = six; selection = select (0 ∷ 1 ∷ 7 ∷ 4 ∷ []) (10 ∷ 1 ∷ 129 ∷ 0 ∷ []); claims = quick_only 3 false 3 ∷ [] }
    ∷ record { section = six; selection = select (0 ∷ 1 ∷ 0 ∷ 1 ∷ 7 ∷ 2 ∷ []) (99 ∷ 1 ∷ 10 ∷ 1 ∷ 129 ∷ 0 ∷ []); claims = quick_only 5 true 4 ∷ [] }
    -- 10 and not 20, and 10 and not 10, in it: some window around a 10 has no 20 inside, every one has a 10
    ∷ record { section = six; selection = select (0 ∷ 1 ∷ 0 ∷ 1 ∷ 4 ∷ 3 ∷ 7 ∷ []) (10 ∷ 1 ∷ 20 ∷ 1 ∷ 0 ∷ 0 ∷ 129 ∷ []); claims = quick_only 7 true 5 ∷ [] }
    ∷ record { section = six; selection = select (0 ∷ 1 ∷ 0 ∷ 1 ∷ 4 ∷ 3 ∷ 7 ∷ []) (10 ∷ 1 ∷ 10 ∷ 1 ∷ 0 ∷ 0 ∷ 129 ∷ []); claims = quick_only 7 false 5 ∷ [] }
    -- 10 and not 30 in the same sentence: the second 10 decides
    ∷ record { section = six; selection = select (0 ∷ 1 ∷ 0 ∷ 1 ∷ 4 ∷ 3 ∷ 9 ∷ []) (10 ∷ 1 ∷ 30 ∷ 1 ∷ 0 ∷ 0 ∷ 0 ∷ []); claims = answers true ∷ [] }
    -- what is built is measured: a filter or an occurs under a filter, a filter under a mild not
    ∷ record { section = six; selection = select (0 ∷ 1 ∷ 7 ∷ 6 ∷ []) (10 ∷ 1 ∷ 129 ∷ 0 ∷ []); claims = refused 9 3 ∷ [] }
    ∷ record { section = sevens 8; selection = select (0 ∷ 1 ∷ 17 ∷ 6 ∷ []) (7 ∷ 1 ∷ 4 ∷ 0 ∷ []); claims = refused 9 3 ∷ [] }
    ∷ record { section = six; selection = select (0 ∷ 1 ∷ 7 ∷ 0 ∷ 1 ∷ 5 ∷ []) (10 ∷ 1 ∷ 129 ∷ 20 ∷ 1 ∷ 0 ∷ []); claims = refused 9 3 ∷ [] }
    -- F-5: 10 and 20 in the same sentence, in different ones, and in the same paragraph; 30 and 20 in different sentences
    ∷ record { section = headed; selection = select (0 ∷ 1 ∷ 0 ∷ 1 ∷ 3 ∷ 9 ∷ []) (10 ∷ 1 ∷ 20 ∷ 1 ∷ 0 ∷ 0 ∷ []); claims = lists (both 4 6 ∷ []) ∷ answers true ∷ [] }
    ∷ record { section = headed; selection = select (0 ∷ 1 ∷ 0 ∷ 1 ∷ 3 ∷ 11 ∷ []) (10 ∷ 1 ∷ 20 ∷ 1 ∷ 0 ∷ 0 ∷ []); claims = lists [] ∷ answers false ∷ [] }
    ∷ record { section = headed; selection = select (0 ∷ 1 ∷ 0 ∷ 1 ∷ 3 ∷ 10 ∷ []) (10 ∷ 1 ∷ 20 ∷ 1 ∷ 0 ∷ 0 ∷ []); claims = has_matches 4 ∷ answers true ∷ [] }
    ∷ record { section = headed; selection = select (0 ∷ 1 ∷ 0 ∷ 1 ∷ 3 ∷ 11 ∷ []) (30 ∷ 1 ∷ 20 ∷ 1 ∷ 0 ∷ 0 ∷ []); claims = lists (both 3 6 ∷ []) ∷ answers true ∷ [] }
    -- 10 and not 40; the same in the same sentence, where the 40 is in none and no longer excludes; the not of that
    ∷ record { section = headed; selection = select (0 ∷ 1 ∷ 0 ∷ 1 ∷ 4 ∷ 3 ∷ []) (10 ∷ 1 ∷ 40 ∷ 1 ∷ 0 ∷ 0 ∷ []); claims = answers false ∷ [] }
    ∷ record { section = headed; selection = select (0 ∷ 1 ∷ 0 ∷ 1 ∷ 4 ∷ 3 ∷ 9 ∷ []) (10 ∷ 1 ∷ 40 ∷ 1 ∷ 0 ∷ 0 ∷ 0 ∷ []); claims = lists (one true 1 4 4 ∷ []) ∷ answers true ∷ [] }
    ∷ record { section = headed; selection = select (0 ∷ 1 ∷ 0 ∷ 1 ∷ 4 ∷ 3 ∷ 9 ∷ 4 ∷ []) (10 ∷ 1 ∷ 40 ∷ 1 ∷ 0 ∷ 0 ∷ 0 ∷ 0 ∷ []); claims = answers false ∷ [] }
    -- a fall, and one after zeros; the same number after a zero, and a zero at the end; paragraph 0 after 1
    ∷ record { section = in_paragraph 1 (7 ∷ 7 ∷ 7 ∷ []) (0 ∷ 2 ∷ 1 ∷ []); selection = select (0 ∷ 1 ∷ []) (7 ∷ 1 ∷ []); claims = refused 2 3 ∷ [] }
    ∷ record { section = in_paragraph 1 (7 ∷ 7 ∷ 7 ∷ 7 ∷ []) (2 ∷ 0 ∷ 0 ∷ 1 ∷ []); selection = select (0 ∷ 1 ∷ []) (7 ∷ 1 ∷ []); claims = refused 2 4 ∷ [] }
    ∷ record { section = in_paragraph 1 (7 ∷ 7 ∷ 7 ∷ 7 ∷ []) (2 ∷ 0 ∷ 2 ∷ 0 ∷ []); selection = select (0 ∷ 1 ∷ []) (7 ∷ 1 ∷ []); claims = has_matches 4 ∷ answers true ∷ [] }
    ∷ record { section = 2 ∷ 7 ∷ 7 ∷ (1 * radix + 1) ∷ 0 ∷ []; selection = select (0 ∷ 1 ∷ []) (7 ∷ 1 ∷ []); claims = refused 2 2 ∷ [] }
    ∷ []

-- F-6: 10 and 40 are one family; so are 20 and 21, of which 21 stands nowhere in the sections. 30 and 50 are alone of their families, whose numbers are 0, which
-- is no family of the words out of the table, and 10, which is a word too.
joined : List ℕ
joined = table (10 ∷ 20 ∷ 21 ∷ 30 ∷ 40 ∷ 50 ∷ []) (1 ∷ 2 ∷ 2 ∷ 0 ∷ 1 ∷ 10 ∷ [])

with_families : List Example
with_families =
    -- a word finds its family, itself too, and also where it stands nowhere itself; one that is alone, or out of the table, itself only; nothing where none of its
    -- family stands
    record { section = six; selection = single 10; claims = lists (one true 1 1 1 ∷ one true 1 4 4 ∷ one true 1 5 5 ∷ []) ∷ answers true ∷ [] }
    ∷ record { section = six; selection = single 40; claims = lists (one true 1 1 1 ∷ one true 1 4 4 ∷ one true 1 5 5 ∷ []) ∷ [] }
    ∷ record { section = six; selection = single 21; claims = lists (one true 1 2 2 ∷ one true 1 6 6 ∷ []) ∷ answers true ∷ [] }
    ∷ record { section = six; selection = single 30; claims = lists (one true 1 3 3 ∷ []) ∷ [] }
    ∷ record { section = four; selection = single 3; claims = lists (one true 1 3 3 ∷ []) ∷ [] }
    ∷ record { section = four; selection = single 10; claims = lists [] ∷ answers false ∷ [] }
    ∷ record { section = six; selection = single 50; claims = lists [] ∷ answers false ∷ [] }
    -- each word of a phrase by its family; both words of one family; a word alone of its family beside one that isn't
    ∷ record { section = six; selection = phrase_of 10 21; claims = lists (one true 1 1 2 ∷ one true 1 5 6 ∷ []) ∷ answers true ∷ [] }
    ∷ record { section = six; selection = phrase_of 40 40; claims = lists (one true 1 4 5 ∷ []) ∷ answers true ∷ [] }
    ∷ record { section = six; selection = phrase_of 30 10; claims = lists (one true 1 3 4 ∷ []) ∷ [] }
    -- 30 and not 99, which is out of the table; 30 and not 40 in the same sentence, where a 10 excludes; in a window of two words: of the two around the 30,
    -- one has no 10
    ∷ record { section = six; selection = select (0 ∷ 1 ∷ 0 ∷ 1 ∷ 4 ∷ 3 ∷ []) (30 ∷ 1 ∷ 99 ∷ 1 ∷ 0 ∷ 0 ∷ []); claims = answers true ∷ [] }
    ∷ record { section = six; selection = select (0 ∷ 1 ∷ 0 ∷ 1 ∷ 4 ∷ 3 ∷ 9 ∷ []) (30 ∷ 1 ∷ 40 ∷ 1 ∷ 0 ∷ 0 ∷ 0 ∷ []); claims = answers false ∷ [] }
    ∷ record { section = six; selection = select (0 ∷ 1 ∷ 0 ∷ 1 ∷ 4 ∷ 3 ∷ 7 ∷ []) (30 ∷ 1 ∷ 40 ∷ 1 ∷ 0 ∷ 0 ∷ 2 ∷ []); claims = answers true ∷ [] }
    ∷ []

-- Refusal 13, beside others: after 2, before 3.
refused_with : ℕ → ℕ → List Example
refused_with number place =
    record { section = six; selection = single 10; claims = refused number place ∷ [] }
    ∷ record { section = six; selection = []; claims = refused number place ∷ [] }
    ∷ record { section = in_paragraph 1 (7 ∷ 7 ∷ []) (2 ∷ 1 ∷ []); selection = []; claims = refused 2 2 ∷ [] }
    ∷ []

pub entries : List WithTable
entries =
    record { families = empty_table; examples = without_families }
    ∷ record { families = joined; examples = with_families }
    -- no numbers; too short; too long, and with a fall; over 2,048 entries; equal words; a fall, and a later one
    ∷ record { families = []; examples = refused_with 13 0 }
    ∷ record { families = 2 ∷ 10 ∷ 20 ∷ 1 ∷ []; examples = refused_with 13 0 }
    ∷ record { families = 2 ∷ 20 ∷ 10 ∷ 1 ∷ 1 ∷ 1 ∷ []; examples = refused_with 13 0 }
    ∷ record { families = 2049 ∷ replicate 4098 0; examples = refused_with 13 0 }
    ∷ record { families = table (10 ∷ 10 ∷ []) (1 ∷ 1 ∷ []); examples = refused_with 13 2 }
    ∷ record { families = table (10 ∷ 30 ∷ 20 ∷ 10 ∷ []) (1 ∷ 1 ∷ 1 ∷ 1 ∷ []); examples = refused_with 13 3 }
    ∷ []

pub examples_hold : all_of right entries ≡ true
unfolding each_same same_str same_match counts_matches counts_strings listing_says quick_says quick_counts same_refusal listing_refuses quick_refuses buffered holds right_with right in_paragraph select one at these both six headed empty_section four sevens table single phrase_of occurs without_families joined with_families refused_with entries
    xor all_of any_of is_empty keep first all_pairs neighbours insert_sorted sort choose up_from from_to flat_map well_sized entry_of family_of word_fits up_to shapes_of first_misfit_from place_of combine change_last read read_all top_tree tree_of parts strings
    stand_from phrase_list and_list not_list mild_not_list least_start greatest_end join kept window_ends window in_unit_for joined_all choices_of at_least from_to_times filter_list all_matches
    tried wrong_section last_nonzero faulty_at faulty_position wrong_families entry_out_of_order wrong_selection unknown_kind filter_operand_fits times_operand_fits operand_fits wrong_operand wrong_shape not_over_phrase not_under_mild_not section_refusal families_refusal selection_refusal input_refusal listing_checks quick_checks
    first_too_long build filter_walk walk listing_refusal listing_answer listing_numbers listing_buffer quick_answer
examples_hold = refl
