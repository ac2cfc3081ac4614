use Rattle.std.proofs.Common.{◌≤◌, ◌<◌, ◌+◌, true, false, sym, ◌∙◌, arith}
use Rattle.model.specs.Section.{size}
use Rattle.model.proofs.ListsLaws.{first-range_empty, first-range-here, first-range-later}
use Rattle.codes.proofs.places.first_failing.Goals as goal
use Rattle.codes.proofs.places.first_failing.Goals.{else-loop-place-test, then-loop-place-test+else-fails+else-place-m}

pub returns-then-fails : goal.returns-then-fails
returns-then-fails g c test is =
    let e = c.number_at-m.ensures in
    let low : 1 ≤ c.loop-place.place = omega arith in
    let high : c.loop-place.place ≤ size c.args.selection.now = omega (arith, e) in
    sym (first-range-here test c.loop-place.place (size c.args.selection.now) high (sym (is c.loop-place.place true low high c.if-fails.ensures)))
    ∙ c.loop-place.invariant test is

pub loop-place-preserved : goal.loop-place-preserved
loop-place-preserved g c test is =
    let e = c.number_at-m.ensures in
    let low : 1 ≤ c.loop-place.place = omega arith in
    let high : c.loop-place.place ≤ size c.args.selection.now = omega (arith, e) in
    sym (first-range-later test c.loop-place.place (size c.args.selection.now) high (sym (is c.loop-place.place false low high c.if-fails.ensures)))
    ∙ c.loop-place.invariant test is

pub returns : goal.returns
returns g c test is =
    let e = c.number_at-m.ensures in
    let s = c.args.selection.now in
    let p = c.loop-place.place in
    let left = c.loop-place.invariant test is in
    elim c.loop-place-test.branch [
      | else-loop-place-test w ↦
          let past : size s < p = omega (arith, e) in
          sym (first-range_empty test p (size s) past) ∙ left
      | then-loop-place-test+else-fails+else-place-m w ↦
          let low : 1 ≤ p = omega arith in
          let high : p ≤ size s = omega (arith, e) in
          let past : size s < p + 1 = omega (arith, e) in
          sym (first-range_empty test (p + 1) (size s) past)
          ∙ sym (first-range-later test p (size s) high (sym (is p false low high w.if-fails.ensures)))
          ∙ left
    ]
