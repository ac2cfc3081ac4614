use native.Mathlib.Omega.{arith}
use Prim.Native.Nat.{ℕ, ◌+◌, ◌-◌, ◌<◌}
use mathlib.Core.Bool.{false, not}
use mathlib.Core.Path.{◌≡◌, refl, sym, ap, ◌∙◌}
use Rattle.model.specs.declared.Code.{Code}
use Rattle.model.specs.Families.{searched_of}
use Rattle.model.specs.Kinds.{a_pair, shape_of, shape_at}
use Rattle.model.specs.Parts.{is_mild_not}
use Rattle.model.specs.Walk.{walk}
use Rattle.model.proofs.PartsLaws.{PairAt, start-le}
use Rattle.walk.specs.Steps.{goes_into}
use Rattle.walk.specs.Walkable.{Walkable}
use Rattle.walk.proofs.WalkLaws.{below, leaf_code, some-codes, sides, start, passes, passes-few, under_not, left-decides, left-few, right_side, error-is, error-decides, answered-up}
use Rattle.walk.proofs.+walk.Goals as goal
use Rattle.walk.proofs.+walk.Goals.{After-answer_leaf, After-part_start-mid, in_default-via-in-Combine+else-not-is_mild, in_default-via-in_default}

-- the answer of a part that the walk does not go into
leaf : (t : ℕ) (c : After-answer_leaf t) (w : Walkable c.args.inputs.now.section.now c.args.inputs.now.families.now c.args.inputs.now.selection.now c.args.work.now c.args.hi)
    → c.answer_leaf.result ≡ walk (searched_of c.args.inputs.now.section.now c.args.inputs.now.families.now) (c.loop-turned.invariant.1 w).here.part.tree
leaf t c w = c.answer_leaf.ensures (c.loop-turned.invariant.1 w).here (ap (λ (x : Code). goes_into (shape_of x)) (sym c.code_at.ensures) ∙ not-into)
  where
    not-into : goes_into (shape_of c.code_at.result) ≡ false
    not-into =
        elim c.in_default.branch [
          | in_default-via-in-Combine+else-not-is_mild w ↦
              ap (λ (x : Code). goes_into (shape_of x)) w.in-Combine.is ∙ ap not (sym w.is_mild.ensures ∙ w.if-not-is_mild.false)
          | in_default-via-in_default w ↦ leaf_code c.code_at.result w.in_default.not-Combine w.in_default.not-Not
        ]

-- the sides of an or, of an and
module _ (t : ℕ) (c : After-part_start-mid t) where
  plain : is_mild_not (a_pair c.in-Combine.pair) ≡ false
  plain = sym c.is_mild.ensures ∙ c.if-not-is_mild.true

  abbrev sides-of : (w : Walkable c.args.inputs.now.section.now c.args.inputs.now.families.now c.args.inputs.now.selection.now c.args.work.now c.args.hi)
      → PairAt (shape_at c.args.inputs.now.selection.now) c.loop-turned.place c.part_start-mid.result c.in-Combine.pair (c.loop-turned.invariant.1 w).here.part.tree
  sides-of w = sides (c.loop-turned.invariant.1 w).here c.code_at.ensures c.in-Combine.is c.part_start-mid.ensures

  mid-before : c.part_start-mid.result < c.loop-turned.place
  mid-before =
      let here = (c.loop-turned.invariant.1 c.requires).here in
      omega (arith, c.part_start-mid.ensures, start-le (shape_at c.args.inputs.now.selection.now) (c.loop-turned.place - 1), some-codes here)

  abbrev left-walkable : (w : Walkable c.args.inputs.now.section.now c.args.inputs.now.families.now c.args.inputs.now.selection.now c.args.work.now c.args.hi)
      → Walkable c.args.inputs.now.section.now c.args.inputs.now.families.now c.args.inputs.now.selection.now c.loop-turned.work c.part_start-mid.result
  left-walkable w = below _ (c.loop-turned.invariant.1 w).here (sides-of w).left (omega (arith, mid-before)) refl

pub loop-turned-init : goal.loop-turned-init
loop-turned-init t c = (refl, λ w. start w)

pub overflow_add-codes : goal.overflow_add-codes
overflow_add-codes t c = omega (arith, (c.loop-turned.invariant.1 c.requires).few)

pub overflow_sub-place : goal.overflow_sub-place
overflow_sub-place t c = some-codes (c.loop-turned.invariant.1 c.requires).here

pub loop-turned-smaller-in-Not-1 : goal.loop-turned-smaller-in-Not-1
loop-turned-smaller-in-Not-1 t c = omega (arith, some-codes (c.loop-turned.invariant.1 c.requires).here)

pub loop-turned-preserved-in-Not-1 : goal.loop-turned-preserved-in-Not-1
loop-turned-preserved-in-Not-1 t c = (c.loop-turned.invariant.0, λ w. under_not (c.loop-turned.invariant.1 w) c.code_at.ensures c.in-Not.is)

pub overflow_add-codes-in-Combine : goal.overflow_add-codes-in-Combine
overflow_add-codes-in-Combine t c = omega (arith, (c.loop-turned.invariant.1 c.requires).few)

pub overflow_sub-place-in-Combine : goal.overflow_sub-place-in-Combine
overflow_sub-place-in-Combine t c = some-codes (c.loop-turned.invariant.1 c.requires).here

pub walk-requires : goal.walk-requires
walk-requires t c =
    let p = (goal.at.walk-requires t c).After-part_start-mid in
    (omega (arith, mid-before t p, (c.loop-turned.invariant.1 c.requires).up_to, c.decreases), left-walkable t p c.requires)

pub returns-in_err-left-in-Combine : goal.returns-in_err-left-in-Combine
returns-in_err-left-in-Combine t c w =
    let p = (goal.at.returns-in_err-left-in-Combine t c).After-part_start-mid in
    error-is c.from_residual.result _ c.from_residual.ensures
    ∙ left-decides (c.loop-turned.invariant.1 w) (sides-of t p w) (plain t p) (sym c.in_err-left-in-Combine.was ∙ c.walk.ensures (left-walkable t p w)) (error-decides c.in-Combine.pair c.in_err-left-in-Combine.field-0.0)

pub overflow_add-codes-in-Combine-2 : goal.overflow_add-codes-in-Combine-2
overflow_add-codes-in-Combine-2 t c =
    let p = (goal.at.overflow_add-codes-in-Combine-2 t c).After-part_start-mid in
    omega (arith, left-few (c.loop-turned.invariant.1 c.requires) (sides-of t p c.requires) (plain t p) (sym c.in_ok-left-in-Combine.was ∙ c.walk.ensures (left-walkable t p c.requires)))

pub returns-then-decides : goal.returns-then-decides
returns-then-decides t c w =
    let p = (goal.at.returns-then-decides t c).After-part_start-mid in
    let left = c.in_ok-left-in-Combine.left in
    answered-up c.loop-turned.turned left.yes (c.loop-turned.codes + 1) left.codes _ (omega arith)
    ∙ left-decides (c.loop-turned.invariant.1 w) (sides-of t p w) (plain t p) (sym c.in_ok-left-in-Combine.was ∙ c.walk.ensures (left-walkable t p w))
    (sym (c.decides.ensures _) ∙ c.if-decides.true)

pub overflow_sub-place-in-Combine-2 : goal.overflow_sub-place-in-Combine-2
overflow_sub-place-in-Combine-2 t c = some-codes (c.loop-turned.invariant.1 c.requires).here

pub loop-turned-smaller : goal.loop-turned-smaller
loop-turned-smaller t c = omega (arith, some-codes (c.loop-turned.invariant.1 c.requires).here)

pub loop-turned-preserved : goal.loop-turned-preserved
loop-turned-preserved t c =
    let p = (goal.at.loop-turned-preserved t c).After-part_start-mid in
    let same = c.walk.auto.work in (
      same ∙ c.loop-turned.invariant.0,
      λ w. right_side (c.loop-turned.invariant.1 w) (sides-of t p w) (plain t p) (sym c.in_ok-left-in-Combine.was ∙ c.walk.ensures (left-walkable t p w))
          (sym (c.decides.ensures _) ∙ c.if-decides.false) _ same,
    )

pub answer_leaf-requires : goal.answer_leaf-requires
answer_leaf-requires t c = (c.loop-turned.invariant.1 c.requires).here

pub returns-in_err-answer-in_default : goal.returns-in_err-answer-in_default
returns-in_err-answer-in_default t c w =
    error-is c.from_residual-in_err-answer-in_default.result _ c.from_residual-in_err-answer-in_default.ensures
    ∙ passes (c.loop-turned.invariant.1 w) (sym c.in_err-answer-in_default.was ∙ leaf t (goal.at.returns-in_err-answer-in_default t c).After-answer_leaf w)

pub overflow_add-codes-in_default : goal.overflow_add-codes-in_default
overflow_add-codes-in_default t c =
    omega (arith, passes-few (c.loop-turned.invariant.1 c.requires) (sym c.in_ok-answer-in_default.was ∙ leaf t (goal.at.overflow_add-codes-in_default t c).After-answer_leaf c.requires))

pub returns-in_default : goal.returns-in_default
returns-in_default t c w =
    let answer = c.in_ok-answer-in_default.answer in
    answered-up c.loop-turned.turned answer.yes c.loop-turned.codes answer.codes _ (omega arith)
    ∙ passes (c.loop-turned.invariant.1 w) (sym c.in_ok-answer-in_default.was ∙ leaf t (goal.at.returns-in_default t c).After-answer_leaf w)
