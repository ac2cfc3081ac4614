use Rattle.walk.proofs.PartsLaws.{part_count-more}
use Rattle.model.proofs.TreesLaws.{parts_ended-le}
use Rattle.model.specs.Kinds.{shape_of, shape_at}
use Rattle.model.specs.Selection.{up_to}
use Rattle.model.specs.Parts.{part_count}
use Prim.Native.Nat.{ℕ}
use native.Mathlib.Omega.{arith}
use mathlib.Core.Path.{◌≡◌, ap, ◌∙◌}
use Rattle.walk.proofs.count_codes.Goals as goal

pub loop-c-init : goal.loop-c-init
loop-c-init c = (omega arith, omega arith)

pub overflow_add-n : goal.overflow_add-n
overflow_add-n c = omega (arith, c.parts_ended-n.ensures, parts_ended-le (shape_of c.code_at-code.result))

pub loop-c-preserved : goal.loop-c-preserved
loop-c-preserved c = (
  omega (arith, c.parts_ended-n.ensures, parts_ended-le (shape_of c.code_at-code.result)),
  part_count-more (shape_at c.args.selection.now) c.loop-c.c _ _ _ _ (ap shape_of c.code_at-code.ensures) c.loop-c.invariant.1 c.parts_ended-n.ensures,
)

pub returns : goal.returns
returns c = let z : c.loop-c.c ≡ c.args.hi = omega arith in
    c.loop-c.invariant.1 ∙ ap (λ (k : ℕ). part_count (up_to (shape_at c.args.selection.now) k)) z
