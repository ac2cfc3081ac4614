-- What the checks guarantee, as facts: words of the demands, and of callers' proofs.
use Rattle.std.specs.Prelude.{ℕ, ◌+◌, ◌*◌, ◌≤◌, ◌<◌, true, List, ◌⊎◌, ◌≡◌, length}
use Rattle.std.specs.Prelude.{None}
use Rattle.model.specs.AllStrings.{RanksUpTo}
use Rattle.model.specs.Checks.{operand_fits, occurs_over_other, mild_over_not, input_refusal}
use Rattle.model.specs.Limits.{max_tokens, max_entries, max_codes, work_length}
use Rattle.model.specs.Lists.{first}
use Rattle.model.specs.Parts.{postfix, renumbered, well_formed}
use Rattle.model.specs.Section.{size, first_at, sentence_at, paragraph_at}
use Rattle.model.specs.Selection.{kind_at, operand_at}
use Rattle.model.specs.Kinds.{shapes_of}
use Rattle.model.specs.Trees.{tree_of, parts}

-- A unit is a sentence or a paragraph, as the number at a position. For sentences F-5: "Sentence zero may now stand among numbered ones, in any place; the
-- nonzero ones still never fall."
abbrev pub NonzeroNeverFall : (ℕ → ℕ) → ℕ → Type 0
NonzeroNeverFall unit n = (p q : ℕ) → 1 ≤ p → p ≤ q → q ≤ n → 1 ≤ unit p → 1 ≤ unit q → unit p ≤ unit q

-- F-5's "last nonzero one before it": the one before position p stands at q
pub record LastNonzeroBefore (unit : ℕ → ℕ) (p q : ℕ) : Type 0 where
  pub from_one : 1 ≤ q
  pub before : q < p
  pub nonzero : 1 ≤ unit q
  pub zeros_between : (i : ℕ) → q < i → i < p → unit i ≡ 0

-- For paragraphs document 01: "Sentence numbers are all zero (not reported) or all nonzero and never falling; paragraph numbers likewise." F-5:
-- "Paragraphs keep their rule."
abbrev pub NotReported : (ℕ → ℕ) → ℕ → Type 0
NotReported unit n = (p : ℕ) → 1 ≤ p → p ≤ n → unit p ≡ 0

pub record Reported (unit : ℕ → ℕ) (n : ℕ) : Type 0 where
  pub nonzero : (p : ℕ) → 1 ≤ p → p ≤ n → 1 ≤ unit p
  pub never_falling : (p q : ℕ) → 1 ≤ p → p ≤ q → q ≤ n → unit p ≤ unit q

abbrev pub ReportedOrNot : (ℕ → ℕ) → ℕ → Type 0
ReportedOrNot unit n = NotReported unit n ⊎ Reported unit n

-- A clause where the section alone is lent, not a type: the calls take any slice.
pub record AcceptedSection (section : List ℕ) : Type 0 where
  pub sized : length section ≡ 1 + 2 * size section
  pub few : size section ≤ max_tokens
  pub sentences : NonzeroNeverFall (sentence_at section) (size section)
  pub paragraphs : ReportedOrNot (paragraph_at section) (size section)

-- F-6: "a size of at most 2,048, then two parallel arrays, word numbers rising strictly and their family numbers"
abbrev pub RisingStrictly : (ℕ → ℕ) → ℕ → Type 0
RisingStrictly number n = (i j : ℕ) → 1 ≤ i → i < j → j ≤ n → number i < number j

-- A clause of what builds the type `families::Table`, which has it after that.
pub record AcceptedFamilies (families : List ℕ) : Type 0 where
  pub sized : length families ≡ 1 + 2 * size families
  pub few : size families ≤ max_entries
  pub rising : RisingStrictly (first_at families) (size families)

-- A phrase has a word and a code of its own, so there are at most half as many phrases as codes.
abbrev pub max_phrases : ℕ
max_phrases = 32

pub record AcceptedSelection (selection : List ℕ) : Type 0 where
  pub sized : length selection ≡ 1 + 2 * size selection
  pub at_least : 1 ≤ size selection
  pub few : size selection ≤ max_codes
  pub known : (c : ℕ) → 1 ≤ c → c ≤ size selection → kind_at selection c ≤ 17
  pub operands : (c : ℕ) → 1 ≤ c → c ≤ size selection → operand_fits (kind_at selection c) (operand_at selection c) ≡ true
  pub well : well_formed (shapes_of selection) ≡ true
  pub spelt : postfix (tree_of selection) ≡ shapes_of selection
  pub numbered : renumbered 1 1 (tree_of selection) ≡ tree_of selection
  pub ranks : RanksUpTo max_phrases (tree_of selection)
  pub over_phrases : first occurs_over_other (parts (tree_of selection)) ≡ None
  pub no_not : first mild_over_not (parts (tree_of selection)) ≡ None

-- "Section and selection pass the checks where no refusal other than 8 falls on them before any list is built. Working memory is enough from
-- 12,800 u32." F-6: so does the family table.
pub record Passes (section families selection : List ℕ) (work : ℕ) : Type 0 where
  pub checks : input_refusal section families selection ≡ None
  pub enough : work_length ≤ work
