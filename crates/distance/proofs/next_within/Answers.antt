use Rattle.std.proofs.Common.{arith, refl, ap, sym, ◌≡◌, ◌+◌, ◌∙◌, length}
use borrow.Author.Tests.{eq-eqb, le-leb, ne_eqb}
use Rattle.distance.specs.Sorting.{counted, nearer}
use Rattle.distance.proofs.SortingLaws.{gathered, gathered_next, counted_swap, nearer_swap}
use Rattle.strings.proofs.StringsLaws.{length-strs_at}
use Rattle.distance.proofs.next_within.Goals as goal

pub overflow_add-copies : goal.overflow_add-copies
overflow_add-copies c = omega (arith, c.loop-s.invariant.2, ap length c.in-Some.ensures.steps, length-strs_at c.args.strs.now)

pub loop-s-preserved-then-s-span : goal.loop-s-preserved-then-s-span
loop-s-preserved-then-s-span c =
    let v = c.args.span in
    let x = c.in-Some.s.span in
    let here = c.in-Some.ensures.steps in
    let one : counted v x c.loop-s.copies ≡ c.loop-s.copies + 1 = rw (eq-eqb x v c.if-s-span.true) refl in
    let near : nearer v x c.loop-s.above ≡ c.loop-s.above = rw (le-leb x v (omega arith)) refl in (
      tt,
      tt,
      omega (arith, c.loop-s.invariant.2, ap length here),
      sym (gathered_next (counted v) (counted_swap v) _ _ c.in-Some.s _ one) ∙ ap (gathered (counted v) c.loop-s.copies) (sym here) ∙ c.loop-s.invariant.3,
      sym (gathered_next (nearer v) (nearer_swap v) _ _ c.in-Some.s _ near) ∙ ap (gathered (nearer v) c.loop-s.above) (sym here) ∙ c.loop-s.invariant.4,
    )

pub loop-s-preserved : goal.loop-s-preserved
loop-s-preserved c =
    let v = c.args.span in
    let x = c.in-Some.s.span in
    let here = c.in-Some.ensures.steps in
    let one : counted v x c.loop-s.copies ≡ c.loop-s.copies = rw (ne_eqb x v c.if-s-span.false) refl in (
      tt,
      tt,
      omega (arith, c.loop-s.invariant.2, ap length here),
      sym (gathered_next (counted v) (counted_swap v) _ _ c.in-Some.s _ one) ∙ ap (gathered (counted v) c.loop-s.copies) (sym here) ∙ c.loop-s.invariant.3,
      sym (gathered_next (nearer v) (nearer_swap v) _ _ c.in-Some.s _ (sym c.nearer-above.ensures)) ∙ ap (gathered (nearer v) c.loop-s.above) (sym here) ∙ c.loop-s.invariant.4,
    )
