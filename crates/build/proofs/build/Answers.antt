use Rattle.build.proofs.BuildLaws.{lo_le, start, rank-few, lists-few, lists-found, waits-next, refuse, go_on, end-slot, end_fine, part-long, part_built}
use Rattle.model.specs.Kinds.{shape_of}
use Rattle.selection.proofs.PhrasesLaws.{phrases_ended-le}
use mathlib.Core.Path.{refl, ap}
use borrow.Author.Rules.{rules}
use native.Mathlib.Omega.{arith}
use Prim.Native.Nat.{ℕ, ◌+◌}
use Rattle.build.proofs.build.Goals as goal

pub loop-before-init : goal.loop-before-init
loop-before-init c = (lo_le c.requires, refl, λ w. start w)

pub build_code-built-requires : goal.build_code-built-requires
build_code-built-requires c =
    waits-next c.requires (c.loop-before.invariant.2 c.requires) c.loop-before-test.true refl c.code_at-code.ensures

pub returns-in_default : goal.returns-in_default
returns-in_default c w =
    part-long (refuse w (c.loop-before.invariant.2 w) c.loop-before-test.true refl c.code_at-code.ensures c.build_code-built.ensures c.in_default.is)

pub lists_after-lists-requires : goal.lists_after-lists-requires
lists_after-lists-requires c =
    let g = c.loop-before.invariant.2 c.requires in
    record { code_bound = lists-found c.requires g c.loop-before-test.true refl c.code_at-code.ensures; lists_bound = omega (arith, lists-few c.requires g c.loop-before-test.true) }

pub overflow_add-next : goal.overflow_add-next
overflow_add-next c =
    omega (arith, c.phrases_ended-next.ensures, phrases_ended-le (shape_of c.code_at-code.result), rank-few c.requires (c.loop-before.invariant.2 c.requires), c.requires.in_selection.few)

pub loop-before-preserved : goal.loop-before-preserved
loop-before-preserved c = (
  search rules,
  omega (arith, c.build_code-built.auto.mem, c.loop-before.invariant.1),
  λ w.
      go_on w (c.loop-before.invariant.2 w) c.loop-before-test.true refl c.code_at-code.ensures c.build_code-built.ensures c.in-Ok.is c.build_code-built.auto.mem
      c.lists_after-lists.ensures (ap (λ (k : ℕ). c.loop-before.next + k) c.phrases_ended-next.ensures),
)

pub returns : goal.returns
returns c w =
    let g = c.loop-before.invariant.2 w in
    part_built (end-slot w g c.loop-before-test.false) (end_fine w g c.loop-before-test.false)
