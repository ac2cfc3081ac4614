-- The rule by the table; where the walk does not stop, some tree is to be found.
use mathlib.Core.Path.{◌≡◌, sym, ◌∙◌}
use mathlib.Core.Bool.{false}
use native.Mathlib.Omega.{arith}
use Rattle.model.specs.Kinds.{is_word, shape_of}
use Rattle.model.proofs.KindsLaws.{arity-le}
use Rattle.model.proofs.PartsLaws.{stops-on}
use Rattle.selection.proofs.parts.trees_needed.Goals as goal
use Rattle.selection.proofs.parts.trees_needed.Goals.{After-lists_taken-taken}

-- no word
other : (t : After-lists_taken-taken) → is_word (shape_of t.args.code) ≡ false
other t = sym t.is_word.ensures ∙ t.if-is_word.false

pub overflow_sub-result : goal.overflow_sub-result
overflow_sub-result c = stops-on (shape_of c.args.code) c.args.trees (other (goal.at.overflow_sub-result c).After-lists_taken-taken) c.requires.trees_value

pub returns-then-taken-eq0 : goal.returns-then-taken-eq0
returns-then-taken-eq0 c = rw (other (goal.at.returns-then-taken-eq0 c).After-lists_taken-taken) (omega (arith, c.lists_taken-taken.ensures))

pub overflow_add-result : goal.overflow_add-result
overflow_add-result c = omega (arith, c.lists_taken-taken.ensures, arity-le (shape_of c.args.code))

pub returns : goal.returns
returns c = rw (other (goal.at.returns c).After-lists_taken-taken) (omega (arith, c.lists_taken-taken.ensures))
