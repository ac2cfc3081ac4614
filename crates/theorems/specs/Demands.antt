-- The three demands, sentence by sentence, over the definitions that the calls' contracts name (calls/src/lib.rt and engine/src/lib.rt): the listing answers
-- `listing_answer ..` and leaves `listing_buffer ..` in the buffer, the quick answer answers `quick_answer ..`, the snippet is `snippet_of ..`. So what is proved
-- of these holds of the calls. proofs/ has a proof of each. What document 02's requests say is in Requests.antt.
-- Document 01 is meant here as F-3 to F-6 change it: kinds 16 and 17 in the lists and in the walk, refusals 12 and 13 in the table; where the walk reaches
-- a filter, it builds the lists under it and not the filter's own; refusal 2 lets sentence zero stand among numbered ones; and a family table is lent beside
-- the section, over which a phrase fits.
-- Quotation marks enclose the demands' own words, or document 01's or 02's where it is named. `A ↔ B` is 'A exactly when B', `(x : A) × B` 'there is an x
-- with B', `⊎` 'or', `¬` 'not'.
use Rattle.std.specs.Prelude.{ℕ, ◌≤◌, ◌<◌, Bool, true, false, ◌&&◌, cond, List, [], ◌∷◌, ◌++◌, ◌↔◌, ◌⊎◌, ◌≡◌, leb, length, drop}
use Rattle.std.specs.Prelude.{Option, Some, None}
use Rattle.model.specs.declared.Reason.TheVariants.{WrongSection, FaultyPosition, WrongSelection, UnknownKind, WrongOperand, WrongShape, NotUnderMildNot, ShortMemory, LongList, NotOverPhrase, WrongFamilies}
use Rattle.model.specs.declared.Reason.{Reason}
use Rattle.model.specs.declared.Listing.{Listing}
use Rattle.std.specs.Prelude.{Err}
use Rattle.model.specs.declared.Listing.TheVariants.{Listed, Refused}
use Rattle.model.specs.Walk.{answered}
use Rattle.model.specs.Walk.{Quick}
use Rattle.model.specs.declared.Refusal.{Refusal}
use Rattle.model.specs.Accepted.{NonzeroNeverFall, ReportedOrNot, RisingStrictly}
use Rattle.model.specs.AllMatches.{all_matches}
use Rattle.model.specs.AllStrings.{AllList}
use Rattle.model.specs.Answers.{complete_list, listing_answer, listing_numbers, listing_buffer, quick_answer, snippet_of}
use Rattle.model.specs.Checks.{number_of, refusal, wrong_section, faulty_position, wrong_families, entry_out_of_order}
use Rattle.model.specs.Checks.{wrong_selection, unknown_kind, wrong_operand, wrong_shape, not_over_phrase, not_under_mild_not}
use Rattle.model.specs.Families.{searched_of}
use Rattle.model.specs.Limits.{max_matches, max_strings, work_length, buffer_length, radix}
use Rattle.model.specs.Lists.{Every}
use Rattle.model.specs.Matches.{Match, strings}
use Rattle.model.specs.Section.{size, first_at, sentence_at, paragraph_at}
use Rattle.model.specs.Trees.{Tree, place_of, tree_of, parts}
use Rattle.model.specs.Walk.{first_too_long, walk, own_count}
use Rattle.model.specs.Walked.{walk_builds, walk_reaches}

-- ---- words

-- some element of xs has P
pub record Has {A : Type 0} (P : A → Type 0) (xs : List A) : Type 0 where
  pub before : List A
  pub element : A
  pub after : List A
  pub order : xs ≡ before ++ element ∷ after
  pub this : P element

-- x is the first element of xs that has P
pub record FirstWith {A : Type 0} (P : A → Type 0) (xs : List A) (x : A) : Type 0 where
  pub before : List A
  pub after : List A
  pub order : xs ≡ before ++ x ∷ after
  pub none_before : Every (λ y. ¬ P y) before
  pub this : P x

-- An answer is given, or refuses by number and place. Document 01: "The listing or the quick answer is given where its call doesn't refuse."
abbrev pub ListingGiven : Listing → Type 0
ListingGiven answer = (m : ℕ) × (s : ℕ) × (y : Bool) × (answer ≡ Listed m s y)

abbrev pub ListingRefuses : Listing → Refusal → Type 0
ListingRefuses answer r = answer ≡ Refused r

abbrev pub QuickSays : Quick → Bool → Type 0
QuickSays answer y = (codes : ℕ) × (answer ≡ answered y codes)

abbrev pub QuickGiven : Quick → Type 0
QuickGiven answer = (y : Bool) × QuickSays answer y

abbrev pub QuickRefuses : Quick → Refusal → Type 0
QuickRefuses answer r = answer ≡ Err r

abbrev pub RefusesForSize : Quick → ℕ → Type 0
RefusesForSize answer place = QuickRefuses answer (refusal LongList place)

-- Document 01's table of refusals with document 02's F-3, F-5 and F-6, for some input: each row has a reason, which stands for its number, and the place where it falls, if it does.
-- model/specs/Checks.antt has the table's words beside each.
pub record Row : Type 0 where
  pub reason : Reason
  pub falls : Option ℕ

abbrev pub row : Reason → Option ℕ → Row
row reason falls = record { reason = reason; falls = falls }

abbrev pub input_rows : List ℕ → List ℕ → List ℕ → List Row
input_rows section families selection =
    row WrongSection (wrong_section section)
    ∷ row FaultyPosition (faulty_position section)
    ∷ row WrongFamilies (wrong_families families)
    ∷ row WrongFamilies (entry_out_of_order families)
    ∷ row WrongSelection (wrong_selection selection)
    ∷ row UnknownKind (unknown_kind selection)
    ∷ row WrongOperand (wrong_operand selection)
    ∷ row WrongShape (wrong_shape selection)
    ∷ row NotOverPhrase (not_over_phrase selection)
    ∷ row NotUnderMildNot (not_under_mild_not selection)
    ∷ []

-- Document 01: "8, place 0", "a lent buffer too short"; 9, "the first such code built", of the codes that are built
abbrev pub list_rows : Bool → List ℕ → List ℕ → List Tree → List Row
list_rows enough section families built = row ShortMemory (cond enough None (Some 0)) ∷ row LongList (first_too_long (searched_of section families) built) ∷ []

-- The listing builds every code but kind 0, the quick answer those that its walk builds.
abbrev pub listing_table : List ℕ → List ℕ → List ℕ → ℕ → ℕ → List Row
listing_table section families selection work buffer =
    input_rows section families selection ++ list_rows (leb work_length work && leb buffer_length buffer) section families (parts (tree_of selection))

abbrev pub quick_table : List ℕ → List ℕ → List ℕ → ℕ → List Row
quick_table section families selection work =
    input_rows section families selection ++ list_rows (leb work_length work) section families (walk_builds (searched_of section families) (tree_of selection))

-- none of a table falls; r is the first that does
abbrev pub Falls : Row → Type 0
Falls w = (place : ℕ) × (w.falls ≡ Some place)

abbrev pub NoneFalls : List Row → Type 0
NoneFalls table = Every (λ w. ¬ Falls w) table

abbrev pub FirstToFall : List Row → Refusal → Type 0
FirstToFall table r = FirstWith Falls table (row r.reason (Some r.place))

-- Document 01: "Section and selection pass the checks where no refusal other than 8 falls on them before any list is built. Working memory is enough
-- from 12,800 u32." F-6: the family table passes them too where it is "without a fault".
abbrev pub PassChecks : List ℕ → List ℕ → List ℕ → Type 0
PassChecks section families selection = NoneFalls (input_rows section families selection)

abbrev pub Enough : ℕ → Type 0
Enough work = work_length ≤ work

abbrev pub WithoutExcludes : Match → Type 0
WithoutExcludes m = m.excludes ≡ []

-- the unlimited list of a code is "past 256 matches or 512 strings"
abbrev pub PastLimits : List ℕ → List ℕ → Tree → Type 0
PastLimits section families code =
    (max_matches < length (all_matches (searched_of section families) code)) ⊎ (max_strings < strings (all_matches (searched_of section families) code))

-- Every span ends below 65,536: so its number tells start and end.
abbrev pub EndsBelowRadix : List Match → Type 0
EndsBelowRadix ms = AllList (λ s. s.end < radix) ms

abbrev pub complete_numbers : List ℕ → List ℕ → List ℕ → List ℕ
complete_numbers section families selection = listing_numbers (complete_list section families selection)

-- one of document 01's numbers, or F-3's or F-6's
abbrev pub Numbered : Refusal → Type 0
Numbered r = ((1 ≤ number_of r.reason) × (number_of r.reason ≤ 9)) ⊎ (number_of r.reason ≡ 12) ⊎ (number_of r.reason ≡ 13)

-- ---- demand 1, for a section, a family table, a selection, working memory's length, the listing buffer, and a snippet's bounds

pub record Demand1Of (section families selection : List ℕ) (work : ℕ) (buffer : List ℕ) (from to : ℕ) : Type 0 where
  -- "The answer to every section, every selection and every size of lent memory is a result or one refusal by number and place, and every call ends."
  -- A refusal has one of document 01's numbers, or F-3's or F-6's; the snippet never refuses, and is a part of the section. That every call ends is the
  -- checker's to prove.
  pub listing_answers : ListingGiven (listing_answer section families selection work (length buffer))
      ⊎ ((r : Refusal) × ListingRefuses (listing_answer section families selection work (length buffer)) r × Numbered r)
  pub quick_answers : QuickGiven (quick_answer section families selection work)
      ⊎ ((r : Refusal) × QuickRefuses (quick_answer section families selection work) r × Numbered r)
  pub snippet_answers : (before : List ℕ) × (after : List ℕ) × (section ≡ before ++ snippet_of section from to ++ after)
  -- "Malformed input is the engine's to find, never the caller's": no call has a `requires`, and nothing here a condition on the input.
  -- "and a refused call leaves the listing buffer unchanged."
  pub refused_unchanged : (r : Refusal) → ListingRefuses (listing_answer section families selection work (length buffer)) r
      → listing_buffer section families selection work buffer ≡ buffer

abbrev pub Demand1 : Type 0
Demand1 = (section families selection : List ℕ) (work : ℕ) (buffer : List ℕ) (from to : ℕ) → Demand1Of section families selection work buffer from to

-- ---- demand 2, for a section, a family table, a selection, working memory's length and the listing buffer

pub record Demand2Of (section families selection : List ℕ) (work : ℕ) (buffer : List ℕ) : Type 0 where
  -- "The listing, refused exactly where document 01 refuses it,"
  pub refused_exactly : (r : Refusal)
      → ListingRefuses (listing_answer section families selection work (length buffer)) r
      ↔ FirstToFall (listing_table section families selection work (length buffer)) r
  pub given_exactly : ListingGiven (listing_answer section families selection work (length buffer))
      ↔ NoneFalls (listing_table section families selection work (length buffer))
  -- What refusal 2 asks of a section stands in these words too. F-5, of sentences: "Sentence zero may now stand among numbered ones, in any place; the
  -- nonzero ones still never fall." Document 01, of paragraphs: "all zero (not reported) or all nonzero and never falling".
  pub units_exactly : (faulty_position section ≡ None)
      ↔ (NonzeroNeverFall (sentence_at section) (size section) × ReportedOrNot (paragraph_at section) (size section))
  -- And what refusal 13 asks of the words of a family table, by F-6: "word numbers rising strictly".
  pub words_exactly : (entry_out_of_order families ≡ None) ↔ RisingStrictly (first_at families) (size families)
  -- "is the AllMatches of that standard, as document 01 sets it down: the same matches, in the same order, with every include and exclude."
  -- M and S are the complete list's; the buffer holds its numbers, which are no other list's, and is otherwise unchanged.
  pub counts_complete : (m s : ℕ) (y : Bool) → listing_answer section families selection work (length buffer) ≡ Listed m s y
      → (m ≡ length (complete_list section families selection)) × (s ≡ strings (complete_list section families selection))
  pub holds_complete : ListingGiven (listing_answer section families selection work (length buffer))
      → (length (complete_numbers section families selection) ≤ length buffer)
      × (listing_buffer section families selection work buffer
      ≡ complete_numbers section families selection ++ drop (length (complete_numbers section families selection)) buffer)
  pub holds_no_other : ListingGiven (listing_answer section families selection work (length buffer))
      → EndsBelowRadix (complete_list section families selection)
      × ((ms : List Match) (rest : List ℕ) → EndsBelowRadix ms → listing_buffer section families selection work buffer ≡ listing_numbers ms ++ rest
      → ms ≡ complete_list section families selection)
  -- "It says yes exactly when a match has no exclude."
  pub yes_exactly : (m s : ℕ) (y : Bool) → listing_answer section families selection work (length buffer) ≡ Listed m s y
      → (y ≡ true) ↔ Has WithoutExcludes (complete_list section families selection)

abbrev pub Demand2 : Type 0
Demand2 = (section families selection : List ℕ) (work : ℕ) (buffer : List ℕ) → Demand2Of section families selection work buffer

-- ---- demand 3, for a section, a family table, a selection and working memory's length

-- "However early the quick answer stops reading, this holds for every section and every selection that pass the checks, with enough working memory."
-- Either condition is asked for where nothing else implies it. F-6: "demand 3 then speaks of every table without a fault, the same one lent to both calls."
pub record Demand3Of (section families selection : List ℕ) (work : ℕ) : Type 0 where
  -- "The quick answer refuses for size exactly when its walk in document 01 builds a list past 256 matches or 512 strings, and then at the first such
  -- code built."
  pub size_exactly : PassChecks section families selection → Enough work
      → ((place : ℕ) × RefusesForSize (quick_answer section families selection work) place)
      ↔ Has (PastLimits section families) (walk_builds (searched_of section families) (tree_of selection))
  pub size_at_first : PassChecks section families selection → Enough work → (place : ℕ)
      → RefusesForSize (quick_answer section families selection work) place
      ↔ ((code : Tree) × FirstWith (PastLimits section families) (walk_builds (searched_of section families) (tree_of selection)) code × (place_of code ≡ place))
  -- It refuses for nothing else there; and everywhere exactly where document 01's table does.
  pub size_only : PassChecks section families selection → Enough work
      → (r : Refusal) → QuickRefuses (quick_answer section families selection work) r → number_of r.reason ≡ 9
  pub refused_exactly : (r : Refusal)
      → QuickRefuses (quick_answer section families selection work) r ↔ FirstToFall (quick_table section families selection work) r
  pub given_exactly : QuickGiven (quick_answer section families selection work) ↔ NoneFalls (quick_table section families selection work)
  -- "Unless it refuses for size, it says yes exactly when the complete AllMatches of the whole selection, with no limit on length, has a match without
  -- excludes, and no exactly when that has none."
  pub yes_exactly : PassChecks section families selection → Enough work → ((place : ℕ) → ¬ RefusesForSize (quick_answer section families selection work) place)
      → QuickSays (quick_answer section families selection work) true ↔ Has WithoutExcludes (complete_list section families selection)
  pub no_exactly : PassChecks section families selection → Enough work → ((place : ℕ) → ¬ RefusesForSize (quick_answer section families selection work) place)
      → QuickSays (quick_answer section families selection work) false ↔ (¬ Has WithoutExcludes (complete_list section families selection))
  -- "Where the listing is given for the same section and selection, the quick answer is given too, and both say yes or both say no."
  -- The listing has working memory of its own length, and the same family table.
  pub agrees_with_listing : Enough work → (lent buffer m s : ℕ) (y : Bool) → listing_answer section families selection lent buffer ≡ Listed m s y
      → QuickSays (quick_answer section families selection work) y
  -- "With each yes or no it reports a count of codes: the walk's, and at most the selection's own."
  pub counts_walk : (y : Bool) (codes : ℕ) → quick_answer section families selection work ≡ answered y codes
      → (walk (searched_of section families) (tree_of selection) ≡ answered y codes)
      × (codes ≡ length (walk_reaches (searched_of section families) (tree_of selection)))
  pub counts_at_most_own : (y : Bool) (codes : ℕ) → quick_answer section families selection work ≡ answered y codes → codes ≤ own_count selection

abbrev pub Demand3 : Type 0
Demand3 = (section families selection : List ℕ) (work : ℕ) → Demand3Of section families selection work
