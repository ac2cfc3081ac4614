-- Refusals 1 to 8 of the two calls, with document 02's F-5 in 2, 12 of its F-3 and 13 of its F-6. "Tried in this order, each over the whole input before the next."
use Rattle.std.specs.Prelude.{ℕ, zero, suc, ◌-◌, ◌/◌, ◌%◌, Bool, true, false, not, ◌&&◌, ◌||◌, cond, List, [], ◌∷◌, leb, ltb, eqb}
use Rattle.std.specs.Bool.{xor}
use Rattle.std.specs.Prelude.{Option, Some, None, option_map}
use Rattle.model.specs.declared.Pair.TheVariants.{Or, And, MildNot}
use Rattle.model.specs.declared.Reason.{Reason}
use Rattle.model.specs.declared.Reason.TheVariants.{WrongSection, FaultyPosition, WrongSelection, UnknownKind, WrongOperand, WrongShape, NotUnderMildNot, ShortMemory, LongList, UnexpectedToken, OverLimit, NotOverPhrase, WrongFamilies}
use Rattle.model.specs.declared.Refusal.{Refusal}
use Rattle.model.specs.Limits.{max_tokens, max_entries, max_codes, max_waiting, max_window, max_distance, max_times, work_length, buffer_length, radix}
use Rattle.model.specs.Lists.{any_of, first, from_to}
use Rattle.model.specs.Section.{size, first_at, well_sized, sentence_at, paragraph_at}
use Rattle.model.specs.Selection.{kind_at, operand_at}
use Rattle.model.specs.Kinds.{negated, filtered, occurring, counts_as_not, shapes_of}
use Rattle.model.specs.Waiting.{first_misfit}
use Rattle.model.specs.Trees.{Tree, phrase, pair, change, place_of, tree_of, parts}

-- the papers' number of each reason
abbrev pub number_of : Reason → ℕ
number_of WrongSection = 1
number_of FaultyPosition = 2
number_of WrongSelection = 3
number_of UnknownKind = 4
number_of WrongOperand = 5
number_of WrongShape = 6
number_of NotUnderMildNot = 7
number_of ShortMemory = 8
number_of LongList = 9
number_of UnexpectedToken = 10
number_of OverLimit = 11
number_of NotOverPhrase = 12
number_of WrongFamilies = 13

-- a refusal by number and place: the number stands as its reason
abbrev pub refusal : Reason → ℕ → Refusal
refusal reason place = record { reason = reason; place = place }

-- in the papers' numbers
abbrev pub refusal_values : Refusal → List ℕ
refusal_values r = number_of r.reason ∷ r.place ∷ []

-- the first of two that refuses
abbrev pub otherwise : Option Refusal → Option Refusal → Option Refusal
otherwise (Some r) later = Some r
otherwise None later = later

-- A check of a lent slice has a refusal's reason, and finds the place where the slice fails, if it does.
pub record Check : Type 0 where
  pub reason : Reason
  pub fails : List ℕ → Option ℕ

unfoldable pub tried : List Check → List ℕ → Option Refusal
tried [] lent = None
tried (c ∷ cs) lent = let later = tried cs lent in otherwise (option_map (refusal c.reason) (c.fails lent)) later

-- 1, place 0: "section empty, n > 4,096, or length wrong"
unfoldable pub wrong_section : List ℕ → Option ℕ
wrong_section section = cond (well_sized 0 max_tokens section) None (Some 0)

-- 2, first faulty position. For paragraphs document 01's rule: "a position is faulty if its .. number is below that of the position before it, or just one
-- of the two is zero." Position 1 has none before it.
abbrev pub breaks_order : ℕ → ℕ → Bool
breaks_order before here = ltb here before || xor (eqb here 0) (eqb before 0)

-- For sentences F-5's: "refusal 2 falls on a nonzero one below the last nonzero one before it."

-- the last nonzero one at the positions 1 to p; 0 where there is none
unfoldable pub last_nonzero : (ℕ → ℕ) → ℕ → ℕ
last_nonzero unit zero = 0
last_nonzero unit (suc p) = cond (eqb (unit (suc p)) 0) (last_nonzero unit p) (unit (suc p))

abbrev pub falls_below : ℕ → ℕ → Bool
falls_below last here = not (eqb here 0) && ltb here last

unfoldable pub faulty_at : List ℕ → ℕ → Bool
faulty_at section p =
    falls_below (last_nonzero (sentence_at section) (p - 1)) (sentence_at section p)
    || breaks_order (paragraph_at section (p - 1)) (paragraph_at section p)

unfoldable pub faulty_position : List ℕ → Option ℕ
faulty_position section = first (faulty_at section) (from_to 2 (size section))

-- F-6: 13, "place 0 for a wrong size or length"; "at the first entry out of order": of "word numbers rising strictly". Entry 1 has none before it.
unfoldable pub wrong_families : List ℕ → Option ℕ
wrong_families families = cond (well_sized 0 max_entries families) None (Some 0)

abbrev pub out_of_order : List ℕ → ℕ → Bool
out_of_order families i = leb (first_at families i) (first_at families (i - 1))

unfoldable pub entry_out_of_order : List ℕ → Option ℕ
entry_out_of_order families = first (out_of_order families) (from_to 2 (size families))

-- 3, place 0: "selection empty, m not 1 to 64, or length wrong"
unfoldable pub wrong_selection : List ℕ → Option ℕ
wrong_selection selection = cond (well_sized 1 max_codes selection) None (Some 0)

-- 4, first such code: "kind unknown"; F-3: "18 and up are unknown"
unfoldable pub unknown_kind : List ℕ → Option ℕ
unknown_kind selection = first (λ c. leb 18 (kind_at selection c)) (from_to 1 (size selection))

-- 5, first such code: "operand outside the table"
-- "a × 65,536 + b, a ≤ b ≤ 4,095"
abbrev pub range_fits : ℕ → Bool
range_fits operand = leb (operand / radix) (operand % radix) && leb (operand % radix) max_distance

-- of a filter: "N, 1 to 4,096"; a range; 0 for the rest
unfoldable pub filter_operand_fits : ℕ → ℕ → Bool
filter_operand_fits kind operand =
    cond (eqb kind 7) (leb 1 operand && leb operand max_window)
    (cond (eqb kind 8) (range_fits operand)
    (eqb operand 0))

-- of an occurs: "from a to b (operand as kind 8)"; "at least a (0 to 4,095)"
unfoldable pub times_operand_fits : ℕ → ℕ → Bool
times_operand_fits kind operand = cond (eqb kind 16) (range_fits operand) (leb operand max_times)

-- any word number; "k, 1 to 8"; 0 for a combination. An unknown kind has no row in the table, and is refused before its operand is asked for.
unfoldable pub operand_fits : ℕ → ℕ → Bool
operand_fits kind operand =
    cond (eqb kind 0) true
    (cond (eqb kind 1) (leb 1 operand && leb operand max_waiting)
    (cond (leb kind 5) (eqb operand 0)
    (cond (leb kind 15) (filter_operand_fits kind operand)
    (cond (leb kind 17) (times_operand_fits kind operand) true))))

unfoldable pub wrong_operand : List ℕ → Option ℕ
wrong_operand selection = first (λ c. not (operand_fits (kind_at selection c) (operand_at selection c))) (from_to 1 (size selection))

-- 6, "first code breaking the waiting rule (m if only the end does)": "shape wrong"
unfoldable pub wrong_shape : List ℕ → Option ℕ
wrong_shape selection = first_misfit (shapes_of selection)

-- F-3: "each directly over a phrase". 12, "at the code where the thing below isn't a phrase, tried after 6"
abbrev pub is_phrase : Tree → Bool
is_phrase (phrase c r ws) = true
is_phrase (pair k c t u) = false
is_phrase (change k c t) = false

abbrev pub occurs_over_other : Tree → Bool
occurs_over_other (phrase c r ws) = false
occurs_over_other (pair k c t u) = false
occurs_over_other (change negated c t) = false
occurs_over_other (change (filtered f) c t) = false
occurs_over_other (change (occurring k) c t) = not (is_phrase t)

unfoldable pub not_over_phrase : List ℕ → Option ℕ
not_over_phrase selection = option_map place_of (first occurs_over_other (parts (tree_of selection)))

-- 7, the first such kind 5: "a not under a mild not"; "No kind 4 may stand in either side of a kind 5." F-3: it "now counts kind 16 too". A not is here
-- what this rule counts as one.
abbrev pub is_not : Tree → Bool
is_not (phrase c r ws) = false
is_not (pair k c t u) = false
is_not (change k c t) = counts_as_not k

abbrev pub has_not : Tree → Bool
has_not t = any_of is_not (parts t)

abbrev pub mild_over_not : Tree → Bool
mild_over_not (phrase c r ws) = false
mild_over_not (pair Or c t u) = false
mild_over_not (pair And c t u) = false
mild_over_not (pair MildNot c t u) = has_not t || has_not u
mild_over_not (change k c t) = false

unfoldable pub not_under_mild_not : List ℕ → Option ℕ
not_under_mild_not selection = option_map place_of (first mild_over_not (parts (tree_of selection)))

unfoldable pub section_refusal : List ℕ → Option Refusal
section_refusal = tried (record { reason = WrongSection; fails = wrong_section } ∷ record { reason = FaultyPosition; fails = faulty_position } ∷ [])

unfoldable pub families_refusal : List ℕ → Option Refusal
families_refusal = tried (record { reason = WrongFamilies; fails = wrong_families } ∷ record { reason = WrongFamilies; fails = entry_out_of_order } ∷ [])

unfoldable pub selection_refusal : List ℕ → Option Refusal
selection_refusal =
    tried
    (record { reason = WrongSelection; fails = wrong_selection }
    ∷ record { reason = UnknownKind; fails = unknown_kind }
    ∷ record { reason = WrongOperand; fails = wrong_operand }
    ∷ record { reason = WrongShape; fails = wrong_shape }
    ∷ record { reason = NotOverPhrase; fails = not_over_phrase }
    ∷ record { reason = NotUnderMildNot; fails = not_under_mild_not }
    ∷ [])

-- 8, place 0: "a lent buffer too short"
abbrev pub room_refusal : Bool → Option Refusal
room_refusal enough = cond enough None (Some (refusal ShortMemory 0))

-- What falls on section, family table and selection, other than 8, before any list is built. F-6: 13 is "tried after 2".
unfoldable pub input_refusal : List ℕ → List ℕ → List ℕ → Option Refusal
input_refusal section families selection =
    let last = selection_refusal selection in
    let later = otherwise (families_refusal families) last in
    otherwise (section_refusal section) later

-- "Takes section, selection, working memory (at least 12,800 u32) and a listing buffer (at least 1,282 u32)." F-6: and the
-- family table.
unfoldable pub listing_checks : List ℕ → List ℕ → List ℕ → ℕ → ℕ → Option Refusal
listing_checks section families selection work buffer =
    otherwise (input_refusal section families selection) (room_refusal (leb work_length work && leb buffer_length buffer))

-- "Takes section, selection and working memory (at least 12,800 u32)." F-6: and the family table.
unfoldable pub quick_checks : List ℕ → List ℕ → List ℕ → ℕ → Option Refusal
quick_checks section families selection work = otherwise (input_refusal section families selection) (room_refusal (leb work_length work))
