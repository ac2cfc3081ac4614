-- What document 02's F-1 to F-6 say, request by request, over the definitions that the calls' contracts name: for the answer of its text a typed call answers
-- `typed_listing ..`, `typed_quick ..`, `read_answer ..` (engine/src/lib.rt). F-2 speaks of no call, but of what is read inside them; F-3 of the lists, F-4
-- of the walk, F-5 of refusal 2 and of two filters, F-6 of refusal 13 and of phrases, which the calls answer by. proofs/ has a proof of each.
-- Quotation marks enclose document 02's words, or document 01's where it is named. The words are those of Demands.antt.
use Rattle.std.specs.Prelude.{ℕ, suc, ◌+◌, ◌*◌, ◌-◌, ◌/◌, ◌%◌, ◌^◌, ◌≤◌, ◌<◌, Bool, true, not, ◌&&◌, ◌||◌, ◌↔◌, ◌⊎◌, ◌≡◌, leb, length, drop, get_or}
use mathlib.Core.List.{List, [], ◌∷◌, ◌++◌, map, Sublistᴰ}
use Rattle.std.specs.Prelude.{Option, Some, None, option_map}
use Rattle.model.specs.declared.Reason.TheVariants.{LongList, OverLimit, ShortMemory, WrongSelection}
use Rattle.model.specs.declared.Code.{Code}
use Rattle.model.specs.declared.Filter.{Filter}
use Rattle.model.specs.declared.Filter.TheVariants.{SameSentence, DifferentSentence}
use Rattle.model.specs.declared.Listing.{Listing}
use Rattle.model.specs.declared.Pair.TheVariants.{Or, And, MildNot}
use Rattle.model.specs.Walk.{Quick}
use Rattle.std.specs.Prelude.{Ok, Err}
use Rattle.model.specs.Walk.{answered}
use Rattle.model.specs.declared.Refusal.{Refusal}
use Rattle.model.specs.declared.Times.{Times}
use Rattle.model.specs.declared.Times.TheVariants.{FromTo, AtLeast}
use Rattle.model.specs.Accepted.{LastNonzeroBefore, NotReported, RisingStrictly}
use Rattle.model.specs.AllMatches.{filter_match, filter_list, all_matches}
use Rattle.model.specs.AllStrings.{AllList}
use Rattle.model.specs.Answers.{answer_unless, listing_answer, span_of, listing_numbers, buffer_unless, listing_buffer, walk_unless, quick_answer}
use Rattle.model.specs.Checks.{number_of, refusal, otherwise, breaks_order, faulty_position, wrong_families, entry_out_of_order, wrong_selection}
use Rattle.model.specs.Checks.{section_refusal, selection_refusal, room_refusal}
use Rattle.model.specs.Families.{empty_table, word_fits, Searched, searched_of, equal_words}
use Rattle.model.specs.Kinds.{negated, filtered, occurring}
use Rattle.model.specs.Limits.{max_entries, max_codes, max_text, work_length, buffer_length, radix, selection_length}
use Rattle.model.specs.Lists.{Every, is_empty, first, from_to}
use Rattle.model.specs.Matches.{Str, Match}
use Rattle.model.specs.Productions.{FTSelection}
use Rattle.model.specs.Rules.{found, phrase_list, joined_all}
use Rattle.model.specs.Section.{Section, size, first_at, second_at, word_at, sentence_at, paragraph_at, section_of}
use Rattle.model.specs.Selection.{code_at, up_to}
use Rattle.model.specs.TextAnswer.{TextAnswer, codes, error, AnswerOf, NotAllowed, TooLarge}
use Rattle.model.specs.Tokens.{Token, Tokens}
use Rattle.model.specs.Trees.{Tree, phrase, pair, change, place_of, tree_of, parts}
use Rattle.model.specs.Typed.{selection_of, typed_listing, typed_buffer, typed_quick, read_answer, read_selection}
use Rattle.model.specs.TypedExamples.{ExamplesHold}
use Rattle.model.specs.Walk.{first_too_long, build, turned, or_walk, and_walk, walk}
use Rattle.theorems.specs.Demands.{Has, FirstWith, ListingRefuses, QuickRefuses, RefusesForSize, WithoutExcludes, PastLimits}

-- ---- document 02's F-1, typed searches

-- The tokens of a text derive codes; "text of at most 2,048 bytes".
abbrev pub Derives : List ℕ → List Code → Type 0
Derives text cs = (ts : List Token) × Tokens 1 text ts × FTSelection ts cs

abbrev pub HasCodes : List ℕ → List Code → Type 0
HasCodes text cs = (length text ≤ max_text) × Derives text cs

-- F-1: "10 where the grammar doesn't allow it (or length + 1), else 11 for a word number over 4,294,967,295 or another number over 4,096"; "11 at place 0,
-- first of all, for too long a text"
abbrev pub FailsAt : List ℕ → Refusal → Type 0
FailsAt text r = (ts : List Token) × Tokens 1 text ts
    × (((number_of r.reason ≡ 10) × NotAllowed ts (suc (length text)) r.place) ⊎ ((number_of r.reason ≡ 11) × TooLarge ts (suc (length text)) r.place))

abbrev pub HasError : List ℕ → Refusal → Type 0
HasError text r = ((max_text < length text) × (r ≡ refusal OverLimit 0)) ⊎ ((length text ≤ max_text) × FailsAt text r)

-- for a text: it has exactly one answer, codes or an error as the productions say
pub record TextOf (text : List ℕ) : Type 0 where
  pub some_answer : (a : TextAnswer) × AnswerOf text a
  pub one_answer : (a b : TextAnswer) → AnswerOf text a → AnswerOf text b → a ≡ b
  pub codes_exactly : (cs : List Code) → AnswerOf text (codes cs) ↔ HasCodes text cs
  pub codes_unique : (cs ds : List Code) → Derives text cs → Derives text ds → cs ≡ ds
  pub error_exactly : (r : Refusal) → AnswerOf text (error r) ↔ HasError text r
  -- What document 01's checks and calls see in a selection of the codes are those codes.
  pub codes_kept : (cs : List Code) → Derives text cs → (size (selection_of cs) ≡ length cs) × (up_to (code_at (selection_of cs)) (length cs) ≡ cs)

-- a text's error by its number
abbrev pub OfText : Refusal → Type 0
OfText r = (number_of r.reason ≡ 10) ⊎ (number_of r.reason ≡ 11)

-- for a section, a family table, a text and its answer, working memory's length, the listing buffer and a lent selection: what the typed calls answer
pub record TypedOf (section families text : List ℕ) (a : TextAnswer) (work : ℕ) (buffer selection : List ℕ) : Type 0 where
  -- "What a typed search answers is what its codes answer."
  pub listing_of_codes : (cs : List Code) → HasCodes text cs
      → (typed_listing section families a work (length buffer) ≡ listing_answer section families (selection_of cs) work (length buffer))
      × (typed_buffer section families a work buffer ≡ listing_buffer section families (selection_of cs) work buffer)
  pub quick_of_codes : (cs : List Code) → HasCodes text cs → typed_quick section families a work ≡ quick_answer section families (selection_of cs) work
  -- "over 64 codes is refusal 3": so of a typed call, after 1, 2 and 13.
  pub over_64 : (cs : List Code) → max_codes < length cs → wrong_selection (selection_of cs) ≡ Some 0
  -- The text's errors come "all before document 01's refusals": whatever section, table and memory are, and nothing is written.
  pub error_first : (r : Refusal) → HasError text r
      → ListingRefuses (typed_listing section families a work (length buffer)) r
      × (typed_buffer section families a work buffer ≡ buffer)
      × QuickRefuses (typed_quick section families a work) r
      × (read_answer a (length selection) ≡ Err r)
      × (read_selection a selection ≡ selection)
  -- Refusals 10 and 11 are the text's errors, the others those of its codes.
  pub listing_error_exactly : (r : Refusal) → (ListingRefuses (typed_listing section families a work (length buffer)) r × OfText r) ↔ HasError text r
  pub quick_error_exactly : (r : Refusal) → (QuickRefuses (typed_quick section families a work) r × OfText r) ↔ HasError text r
  -- The reader alone reads the grammar and nothing else. It gives the codes of a text exactly where they are at most 64 and 129 numbers are lent,
  pub read_exactly : (m : ℕ) → (read_answer a (length selection) ≡ Ok m)
      ↔ ((cs : List Code) × HasCodes text cs × (length cs ≡ m) × (m ≤ max_codes) × (selection_length ≤ length selection))
  -- and refuses exactly by the text's error, then 3 for over 64 codes, then 8.
  pub read_refused_exactly : (r : Refusal) → (read_answer a (length selection) ≡ Err r)
      ↔ (HasError text r
      ⊎ ((cs : List Code) × HasCodes text cs
      × (((max_codes < length cs) × (r ≡ refusal WrongSelection 0)) ⊎ ((length cs ≤ max_codes) × (length selection < selection_length) × (r ≡ refusal ShortMemory 0)))))
  -- The selection then holds the codes, and the rest of it is unchanged; all of it by a refusal.
  pub read_holds : (cs : List Code) (m : ℕ) → HasCodes text cs → read_answer a (length selection) ≡ Ok m
      → (length (selection_of cs) ≤ length selection) × (read_selection a selection ≡ selection_of cs ++ drop (length (selection_of cs)) selection)
  pub read_unchanged : (r : Refusal) → read_answer a (length selection) ≡ Err r → read_selection a selection ≡ selection

pub record TypedSearches : Type 0 where
  pub texts : (text : List ℕ) → TextOf text
  pub calls : (section families text : List ℕ) (a : TextAnswer) (work : ℕ) (buffer selection : List ℕ) → AnswerOf text a
      → TypedOf section families text a work buffer selection
  -- model/specs/TypedExamples.antt
  pub examples : ExamplesHold

-- ---- document 02's F-2, what is read of a span

-- for a string: "what is read are the two numbers of document 01's span". `/` and `%` say what is read, by the contracts of `strings::start_of` and
-- `end_of` (strings/src/spans.rt); the code reads it by a shift and a mask (halves.rt).
pub record SpanReadOf (s : Str) : Type 0 where
  -- the span fits into the number that it is read from
  pub in_32_bits : span_of s < 2 ^ 32
  pub start_read : span_of s / radix ≡ s.start
  pub end_read : span_of s % radix ≡ s.end

-- "for every start and end up to 4,096", and up to 65,535
abbrev pub SpansRead : Type 0
SpansRead = (s : Str) → s.start < radix → s.end < radix → SpanReadOf s

-- ---- document 02's F-3, occurs

-- the unlimited list of an occurs over a phrase; the places of the two codes are no part of it
abbrev pub occurs_over : Searched → Times → ℕ → List ℕ → List Match
occurs_over s k rank words = all_matches s (change (occurring k) 0 (phrase 0 rank words))

-- every element of a list has R to each later one
unfoldable pub InOrder : {A : Type 0} → (A → A → Type 0) → List A → Type 0
InOrder R [] = Unit {0}
InOrder R (x ∷ xs) = Every (R x) xs × InOrder R xs

-- of two rows of positions, the first has the lower one where they first differ
pub record Precedes (ps qs : List ℕ) : Type 0 where
  pub same : List ℕ
  pub lower : ℕ
  pub higher : ℕ
  pub after_lower : List ℕ
  pub after_higher : List ℕ
  pub first_is : ps ≡ same ++ lower ∷ after_lower
  pub second_is : qs ≡ same ++ higher ∷ after_higher
  pub differ : lower < higher

abbrev pub starts : Match → List ℕ
starts m = map (λ i. i.start) m.includes

-- "fewest first, equal sizes in order of first difference by position"
abbrev pub Sooner : Match → Match → Type 0
Sooner l m = (length l.includes < length m.includes) ⊎ ((length l.includes ≡ length m.includes) × Precedes (starts l) (starts m))

-- for a phrase in what is searched, and its matches
pub record OccursOf (s : Searched) (rank : ℕ) (words : List ℕ) (finds : List Match) : Type 0 where
  -- At least a: "every choice of a or more of the phrase's matches .., each choice joined as and would", and no other match,
  pub every_choice : (a : ℕ) (m : Match) → Has (λ l. l ≡ m) (occurs_over s (AtLeast a) rank words)
      ↔ ((chosen : List Match) × Sublistᴰ chosen finds × (a ≤ length chosen) × (m ≡ joined_all chosen))
  -- in that order, and so each once.
  pub in_order : (a : ℕ) → InOrder Sooner (occurs_over s (AtLeast a) rank words)
  -- "'At least three mentions of needle'": yes exactly where there are as many, and from a to b exactly where there are a to b.
  pub at_least_yes : (a : ℕ) → Has WithoutExcludes (occurs_over s (AtLeast a) rank words) ↔ (a ≤ length finds)
  pub from_to_yes : (a b : ℕ) → Has WithoutExcludes (occurs_over s (FromTo a b) rank words) ↔ ((a ≤ length finds) × (length finds ≤ b))

abbrev pub OccursChosen : Type 0
OccursChosen = (s : Searched) (rank : ℕ) (words : List ℕ) → OccursOf s rank words (phrase_list s rank words)

-- ---- document 02's F-4, early way out of a filter

-- document 01's walk, with its answer where it reaches a filter left open: of the filter, its place and its operand
unfoldable pub walk_with : (Filter → ℕ → Tree → Quick) → Searched → Tree → Quick
walk_with at-filter s (phrase c rank ws) = answered (not (is_empty (phrase_list s rank ws))) 1
walk_with at-filter s (change negated c t) = turned (walk_with at-filter s t)
walk_with at-filter s (pair Or c t u) = let right = walk_with at-filter s u in or_walk (walk_with at-filter s t) right
walk_with at-filter s (pair And c t u) = let right = walk_with at-filter s u in and_walk (walk_with at-filter s t) right
walk_with at-filter s (pair MildNot c t u) = build s (pair MildNot c t u)
walk_with at-filter s (change (filtered f) c t) = at-filter f c t
walk_with at-filter s (change (occurring k) c t) = build s (change (occurring k) c t)

-- the walk before F-4: at a filter it builds the whole part, the filter's own list too
abbrev pub walk_before : Searched → Tree → Quick
walk_before s t = walk_with (λ f c operand. build s (change (filtered f) c operand)) s t

-- the walk that reaches a filter, at a place, over an operand
abbrev pub walk_at_filter : List ℕ → List ℕ → Filter → ℕ → Tree → Quick
walk_at_filter section families f c operand = walk (searched_of section families) (change (filtered f) c operand)

-- for a section, a family table, and a filter at a place over an operand
pub record FilterReachedOf (section families : List ℕ) (f : Filter) (c : ℕ) (operand : Tree) : Type 0 where
  -- "it should take the operand's matches one by one and stop at the first that gives a match without excludes." That it reads no match after that one
  -- can't be seen in an answer.
  pub decided_by_first : (y : Bool) (codes : ℕ) → walk_at_filter section families f c operand ≡ answered y codes
      → (y ≡ true)
      ↔ ((m : Match) × FirstWith (λ l. Has WithoutExcludes (filter_match (section_of section) f l)) (all_matches (searched_of section families) operand) m)
  -- "That filter's own list no longer counts for refusal 9; the lists under it still do."
  pub size_exactly : (place : ℕ) → RefusesForSize (walk_at_filter section families f c operand) place
      ↔ ((code : Tree) × FirstWith (PastLimits section families) (parts operand) code × (place_of code ≡ place))
  pub size_only : (r : Refusal) → QuickRefuses (walk_at_filter section families f c operand) r → number_of r.reason ≡ 9
  -- "The yes or no is held, as before, to the complete unlimited list, and the count of codes remains that of the walk."
  pub held_to_complete : (y : Bool) (codes : ℕ) → walk_at_filter section families f c operand ≡ answered y codes
      → (y ≡ true) ↔ Has WithoutExcludes (all_matches (searched_of section families) (change (filtered f) c operand))
  pub counts_part : (y : Bool) (codes : ℕ) → walk_at_filter section families f c operand ≡ answered y codes
      → codes ≡ length (parts (change (filtered f) c operand))

pub record EarlyWayOut : Type 0 where
  pub filters : (section families : List ℕ) (f : Filter) (c : ℕ) (operand : Tree) → FilterReachedOf section families f c operand
  -- Everywhere else the walk is document 01's.
  pub elsewhere : (s : Searched) (t : Tree) → walk s t ≡ walk_with (λ f c operand. walk s (change (filtered f) c operand)) s t
  -- What was answered before is answered so still, count and all; and it refuses only where the walk before refused, though perhaps at a later code.
  pub answers_as_before : (s : Searched) (t : Tree) (y : Bool) (codes : ℕ) → walk_before s t ≡ answered y codes → walk s t ≡ answered y codes
  pub refused_before : (s : Searched) (t : Tree) (r : Refusal) → QuickRefuses (walk s t) r → (q : Refusal) × QuickRefuses (walk_before s t) q

-- ---- document 02's F-5, headings

-- "a nonzero one below the last nonzero one before it", of sentences
abbrev pub SentenceFalls : List ℕ → ℕ → Type 0
SentenceFalls section p =
    (1 ≤ sentence_at section p) × ((q : ℕ) × LastNonzeroBefore (sentence_at section) p q × (sentence_at section p < sentence_at section q))

-- Document 01, of paragraphs: "below that of the position before it, or just one of the two is zero"
abbrev pub ParagraphBreaks : List ℕ → ℕ → Type 0
ParagraphBreaks section p =
    (paragraph_at section p < paragraph_at section (p - 1))
    ⊎ ((paragraph_at section p ≡ 0) × (1 ≤ paragraph_at section (p - 1)))
    ⊎ ((1 ≤ paragraph_at section p) × (paragraph_at section (p - 1) ≡ 0))

-- refusal 2 before F-5: one rule for both countings
abbrev pub faulty_before : List ℕ → Option ℕ
faulty_before section =
    first
    (λ p. breaks_order (sentence_at section (p - 1)) (sentence_at section p) || breaks_order (paragraph_at section (p - 1)) (paragraph_at section p))
    (from_to 2 (size section))

abbrev pub AllNonzero : (ℕ → ℕ) → ℕ → Type 0
AllNonzero unit n = (p : ℕ) → 1 ≤ p → p ≤ n → 1 ≤ unit p

-- for a section
pub record HeadingsOf (section : List ℕ) : Type 0 where
  -- "For sentences, refusal 2 falls on a nonzero one below the last nonzero one before it." "Paragraphs keep their rule." The place is the first position
  -- of either sort, from 2 on. (By `units_exactly` of demand 2 it falls on every section but those in which "the nonzero
  -- ones still never fall" and paragraphs keep their rule.)
  pub refused_exactly : (p : ℕ)
      → (faulty_position section ≡ Some p) ↔ FirstWith (λ q. SentenceFalls section q ⊎ ParagraphBreaks section q) (from_to 2 (size section)) p
  -- It falls on no more than before; and where sentences are all zero, or all nonzero, where it did.
  pub accepted_before : faulty_before section ≡ None → faulty_position section ≡ None
  pub as_before : NotReported (sentence_at section) (size section) ⊎ AllNonzero (sentence_at section) (size section)
      → faulty_position section ≡ faulty_before section

-- a section, and the same with some sentences zero
pub record SomeZeroed (section other : List ℕ) : Type 0 where
  pub same_size : size other ≡ size section
  pub sentences : (p : ℕ) → 1 ≤ p → p ≤ size section → (sentence_at other p ≡ 0) ⊎ (sentence_at other p ≡ sentence_at section p)
  pub paragraphs : (p : ℕ) → 1 ≤ p → p ≤ size section → paragraph_at other p ≡ paragraph_at section p

-- a string starts in a sentence and ends in one
pub record InSentences (s : Section) (i : Str) : Type 0 where
  pub starts : 1 ≤ s.sentence i.start
  pub ends : 1 ≤ s.sentence i.end

pub record Headings : Type 0 where
  pub sections : (section : List ℕ) → HeadingsOf section
  -- "Sentence zero may now stand among numbered ones, in any place": refusal 2 doesn't fall where it didn't before they were zero.
  pub in_any_place : (section other : List ℕ) → SomeZeroed section other → faulty_position section ≡ None → faulty_position other ≡ None
  -- "Section headings have no sentence": so no string of a match that same sentence or different sentence gives starts or ends at a token without a
  -- sentence, whatever the section.
  pub same_sentence : (s : Section) (ms : List Match) → AllList (InSentences s) (filter_list s SameSentence ms)
  pub different_sentence : (s : Section) (ms : List Match) → AllList (InSentences s) (filter_list s DifferentSentence ms)
  -- "The listing and quick answer hold for these sections": the demands are of every section.

-- ---- document 02's F-6, word families

-- an entry of a table, counted from 1, has a word
pub record EntryHas (families : List ℕ) (entry word : ℕ) : Type 0 where
  pub from_one : 1 ≤ entry
  pub up_to : entry ≤ size families
  pub is_word : first_at families entry ≡ word

-- "both are in the table with the same family"
pub record SameFamilyInTable (families : List ℕ) (token word : ℕ) : Type 0 where
  pub token_entry : ℕ
  pub word_entry : ℕ
  pub token_in : EntryHas families token_entry token
  pub word_in : EntryHas families word_entry word
  pub same_family : second_at families token_entry ≡ second_at families word_entry

-- "each word equals its token or both are in the table with the same family"
abbrev pub Fits : List ℕ → ℕ → ℕ → Type 0
Fits families token word = (token ≡ word) ⊎ SameFamilyInTable families token word

-- From position p on there is a token for each word of a phrase, and the word fits it.
pub record PhraseFitsFrom (section families words : List ℕ) (p : ℕ) : Type 0 where
  pub from_one : 1 ≤ p
  pub up_to : p ≤ size section
  pub each_word : (i : ℕ) → i < length words → (p + i ≤ size section) × Fits families (word_at section (p + i)) (get_or words i 0)

-- "word numbers rising strictly": an entry is out of order where one before it has the same word, or a higher one
abbrev pub OutOfOrder : List ℕ → ℕ → Type 0
OutOfOrder families entry = (before : ℕ) × (1 ≤ before) × (before < entry) × (first_at families entry ≤ first_at families before)

-- for a table
pub record TableOf (families : List ℕ) : Type 0 where
  -- "Errors: 13 at the first entry out of order, place 0 for a wrong size or length, tried after 2." (That place 0 comes before an entry, and 13 after 2, is in
  -- the table of refusals, `input_rows`. By `words_exactly` of demand 2 no entry is out of order exactly where the words rise strictly.)
  pub entry_exactly : (entry : ℕ) → (entry_out_of_order families ≡ Some entry) ↔ FirstWith (OutOfOrder families) (from_to 1 (size families)) entry
  pub place_zero_exactly : (place : ℕ)
      → (wrong_families families ≡ Some place) ↔ ((place ≡ 0) × ((max_entries < size families) ⊎ (¬ (length families ≡ 1 + 2 * size families))))
  -- A word of a phrase fits a token exactly as F-6 says, in a table whose words rise.
  pub fits_exactly : RisingStrictly (first_at families) (size families) → (token word : ℕ) → (word_fits families token word ≡ true) ↔ Fits families token word

-- The calls before F-6: no table, so no refusal 13; and a word fits the tokens that it equals. All else is the definitions as they stand, which F-6 left as they
-- were.
abbrev pub checks_before : List ℕ → List ℕ → Bool → Option Refusal
checks_before section selection enough = otherwise (otherwise (section_refusal section) (selection_refusal selection)) (room_refusal enough)

abbrev pub listing_refusal_before : List ℕ → List ℕ → ℕ → ℕ → Option Refusal
listing_refusal_before section selection work buffer =
    otherwise
    (checks_before section selection (leb work_length work && leb buffer_length buffer))
    (option_map (refusal LongList) (first_too_long (equal_words section) (parts (tree_of selection))))

abbrev pub complete_before : List ℕ → List ℕ → List Match
complete_before section selection = all_matches (equal_words section) (tree_of selection)

abbrev pub listing_before : List ℕ → List ℕ → ℕ → ℕ → Listing
listing_before section selection work buffer = answer_unless (listing_refusal_before section selection work buffer) (complete_before section selection)

abbrev pub buffer_before : List ℕ → List ℕ → ℕ → List ℕ → List ℕ
buffer_before section selection work buffer =
    buffer_unless (listing_refusal_before section selection work (length buffer)) (listing_numbers (complete_before section selection)) buffer

abbrev pub quick_before : List ℕ → List ℕ → ℕ → Quick
quick_before section selection work = walk_unless (checks_before section selection (leb work_length work)) (walk (equal_words section) (tree_of selection))

-- for a section, a selection, working memory's length and the listing buffer: "An empty table .. gives the old answers." Typed
-- calls follow by `listing_of_codes` and `quick_of_codes`; `ftlist` lends this table (text/specs/Input.antt).
pub record EmptyTableOf (section selection : List ℕ) (work : ℕ) (buffer : List ℕ) : Type 0 where
  pub listing_as_before : listing_answer section empty_table selection work (length buffer) ≡ listing_before section selection work (length buffer)
  pub buffer_as_before : listing_buffer section empty_table selection work buffer ≡ buffer_before section selection work buffer
  pub quick_as_before : quick_answer section empty_table selection work ≡ quick_before section selection work

pub record WordFamilies : Type 0 where
  pub tables : (families : List ℕ) → TableOf families
  -- "'Needle' should find 'needles'." "A phrase fits where each word equals its token or both are in the table with the same family": its list has a match for
  -- each such place, and no other. (That they ascend, each once, is `in_order` of F-3, at least 1.)
  pub phrase_exactly : (section families : List ℕ) → RisingStrictly (first_at families) (size families) → (rank : ℕ) (words : List ℕ) (m : Match)
      → Has (λ l. l ≡ m) (phrase_list (searched_of section families) rank words)
      ↔ ((p : ℕ) × PhraseFitsFrom section families words p × (m ≡ found rank (length words) p))
  -- A table only adds: what a phrase finds without one it finds with any, in the same order, perhaps with more among them.
  pub more_finds : (section families : List ℕ) (rank : ℕ) (words : List ℕ)
      → Sublistᴰ (phrase_list (equal_words section) rank words) (phrase_list (searched_of section families) rank words)
  pub with_empty_table : (section selection : List ℕ) (work : ℕ) (buffer : List ℕ) → EmptyTableOf section selection work buffer
  -- "All calls that find phrases take the table, and their meaning is over it from then on": the answers of the listing, the quick answer and both typed calls
  -- have it as an argument, and the demands are of every table. "demand 3 then speaks of every table without a fault, the same one lent to both calls":
  -- `Demand3Of`.
