use Rattle.std.proofs.Common.{◌≡◌, ◌+◌, ◌-◌, refl, sym, ap, ◌∙◌, arith, rules}
use Rattle.model.specs.Kinds.{shape_at, shape_of}
use Rattle.model.specs.Parts.{part_start}
use Rattle.model.proofs.PartsLaws.{trees_needed-le}
use Rattle.selection.proofs.CodeLoopsLaws.{scan_back-here, scan_back-before, scan_back-zero}
use Rattle.selection.proofs.parts.part_start.Goals as goal
use Rattle.selection.proofs.parts.part_start.Goals.{After-code_at-code}

-- the code that is read is the last one left
last : (c : After-code_at-code) → shape_of c.code_at-code.result ≡ shape_at c.args.selection.now c.loop-c.c
last c =
    let e : c.loop-c.c - 1 + 1 ≡ c.loop-c.c = omega arith in
    ap shape_of c.code_at-code.ensures ∙ ap (shape_at c.args.selection.now) e

pub loop-c-init : goal.loop-c-init
unfolding part_start
loop-c-init c = (omega arith, refl)

pub returns-then-stops_at : goal.returns-then-stops_at
returns-then-stops_at c =
    let e : c.loop-c.c - 1 + 1 ≡ c.loop-c.c = omega arith in
    let at = (goal.at.returns-then-stops_at c).After-code_at-code in
    e ∙ scan_back-here (shape_at c.args.selection.now) c.loop-c.c c.loop-c.trees c.loop-c-test.true _ (last at) (sym c.stops_at.ensures ∙ c.if-stops_at.true)
    ∙ c.loop-c.invariant.1

pub trees_needed-trees-requires : goal.trees_needed-trees-requires
trees_needed-trees-requires c = record { trees_value = sym c.stops_at.ensures ∙ c.if-stops_at.false; trees_bound = search rules }

pub loop-c-preserved : goal.loop-c-preserved
loop-c-preserved c =
    let at = (goal.at.loop-c-preserved c).After-code_at-code in
    let n = trees_needed-le (shape_of c.code_at-code.result) c.loop-c.trees in (
      omega (arith, c.trees_needed-trees.ensures),
      scan_back-before (shape_at c.args.selection.now) c.loop-c.c c.loop-c.trees c.loop-c-test.true _ (last at) (sym c.stops_at.ensures ∙ c.if-stops_at.false)
          _ c.trees_needed-trees.ensures
          ∙ c.loop-c.invariant.1,
    )

pub returns : goal.returns
returns c =
    let z : c.loop-c.c ≡ 0 = omega arith in
    scan_back-zero (shape_at c.args.selection.now) c.loop-c.c c.loop-c.trees z ∙ c.loop-c.invariant.1
