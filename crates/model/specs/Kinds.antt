-- The shape of a code is what the waiting rule, trees and parts see of it: "Kind 0 .. adds a word. Kind 1 needs p = k .. Other kinds .. 2, 3 and 5 need
-- w ≥ 2 .., the rest need w ≥ 1." A word waits; every other code makes one list, of the words that wait, of the last list or of the last two.
-- Not, which document 01 counts among what combines, takes one list and stands with the filters here, as occurs does. (Refusal 6, "shape wrong", is of
-- a selection.)
use Rattle.std.specs.Prelude.{ℕ, Bool, true, false, List}
use Rattle.model.specs.declared.Code.{Code}
use Rattle.model.specs.declared.Code.TheVariants.{Word, Phrase, Combine, Not, Filter as Filtered, Occurs}
use Rattle.model.specs.declared.Filter.{Filter}
use Rattle.model.specs.declared.Pair.{Pair}
use Rattle.model.specs.declared.Times.{Times}
use Rattle.model.specs.declared.Times.TheVariants.{FromTo, AtLeast}
use Rattle.model.specs.Section.{size}
use Rattle.model.specs.Selection.{code_at, up_to}

-- what a code makes of the last list
pub data Change : Type 0 where
  negated : Change
  filtered : Filter → Change
  occurring : Times → Change

pub data Shape : Type 0 where
  a_word : (number : ℕ) → Shape
  a_phrase : (words : ℕ) → Shape
  a_pair : Pair → Shape
  a_change : Change → Shape

-- each code's shape: with this the waiting rule, trees and parts know a new kind
abbrev pub shape_of : Code → Shape
shape_of (Word v) = a_word v
shape_of (Phrase k) = a_phrase k
shape_of (Combine k) = a_pair k
shape_of Not = a_change negated
shape_of (Filtered f) = a_change (filtered f)
shape_of (Occurs k) = a_change (occurring k)

abbrev pub is_word : Shape → Bool
is_word (a_word v) = true
is_word (a_phrase k) = false
is_word (a_pair k) = false
is_word (a_change k) = false

-- how many lists it takes
abbrev pub arity : Shape → ℕ
arity (a_word v) = 0
arity (a_phrase k) = 0
arity (a_pair k) = 2
arity (a_change k) = 1

abbrev pub is_negation : Change → Bool
is_negation negated = true
is_negation (filtered f) = false
is_negation (occurring k) = false

-- F-3: "Document 01's rule against a not under a mild not now counts kind 16 too"
abbrev pub counts_as_not : Change → Bool
counts_as_not negated = true
counts_as_not (filtered f) = false
counts_as_not (occurring (FromTo a b)) = true
counts_as_not (occurring (AtLeast a)) = false

-- the shapes of a selection's codes
abbrev pub shape_at : List ℕ → ℕ → Shape
shape_at selection c = shape_of (code_at selection c)

unfoldable pub shapes_of : List ℕ → List Shape
shapes_of selection = up_to (shape_at selection) (size selection)
