use Prim.Native.Nat.{suc, ◌-◌}
use native.Mathlib.Omega.{arith}
use mathlib.Core.Path.{◌≡◌, refl}
use Rattle.occurs.proofs.IncludesLaws.{Turn, start, turn, take_next, skip_next, finish}
use Rattle.occurs.proofs.choices.OfSize.put_includes.Goals as goal
use Rattle.occurs.proofs.choices.OfSize.put_includes.Goals.{In-loop-left, then-rest-with_next, else-rest-with_next}

-- the turn's numbers
inside : (c : In-loop-left) → Turn c.loop-left.mem c.loop-left.n c.loop-left.from c.loop-left.q c.loop-left.left c.loop-left.weight
inside c =
    turn (c.loop-left.invariant.1 c.requires) (c.loop-left.left - 1) (omega (arith, c.loop-left-test.true))

pub loop-left-init : goal.loop-left-init
loop-left-init c = (refl, λ w. start w c.size_at-n.ensures.matches)

pub overflow_mul-with_next : goal.overflow_mul-with_next
overflow_mul-with_next c = omega (arith, (inside c).product)

pub nonzero_div-with_next : goal.nonzero_div-with_next
nonzero_div-with_next c = (inside c).some

pub overflow_add-from-then-rest-with_next : goal.overflow_add-from-then-rest-with_next
overflow_add-from-then-rest-with_next c = omega (arith, inside (goal.at.overflow_add-from-then-rest-with_next c).In-loop-left)

pub string_at-string-requires : goal.string_at-string-requires
string_at-string-requires c = omega (arith, inside (goal.at.string_at-string-requires c).In-loop-left)

pub put_string-q-requires : goal.put_string-q-requires
put_string-q-requires c = omega (arith, (inside (goal.at.put_string-q-requires c).In-loop-left).room)

pub overflow_sub-weight : goal.overflow_sub-weight
overflow_sub-weight c = (inside (goal.at.overflow_sub-weight c).In-loop-left).no_more

pub overflow_sub-n : goal.overflow_sub-n
overflow_sub-n c = omega (arith, (inside (goal.at.overflow_sub-n c).In-loop-left).some)

pub overflow_add-from-in-loop-left : goal.overflow_add-from-in-loop-left
overflow_add-from-in-loop-left c = omega (arith, (inside (goal.at.overflow_add-from-in-loop-left c).In-loop-left).below, (inside (goal.at.overflow_add-from-in-loop-left c).In-loop-left).room)

pub loop-left-smaller : goal.loop-left-smaller
loop-left-smaller c = omega (arith, (inside (goal.at.loop-left-smaller c).In-loop-left).some)

pub loop-left-preserved : goal.loop-left-preserved
loop-left-preserved c =
    let e : c.loop-left.left ≡ suc (c.loop-left.left - 1) = omega (arith, c.loop-left-test.true) in
    elim c.if-rest-with_next.branch [
      | then-rest-with_next w ↦
          rw (w.mem-is, w.q-is, w.left-is, w.rest-is, w.weight-is) (
            omega (arith, w.put_string-q.auto.mem, c.loop-left.invariant.0),
            λ v. take_next (c.loop-left.invariant.1 v) (c.loop-left.left - 1) e w.if-rest-with_next.true w.string_at-string.ensures.span_value
                w.string_at-string.ensures.tag_value w.put_string-q.ensures,
          )
      | else-rest-with_next w ↦
          rw (w.mem-is, w.q-is, w.left-is, w.rest-is, w.weight-is)
          (c.loop-left.invariant.0, λ v. skip_next (c.loop-left.invariant.1 v) (c.loop-left.left - 1) e w.if-rest-with_next.false)
    ]

pub returns : goal.returns
returns c w = finish (c.loop-left.invariant.1 w) c.loop-left-test.false
