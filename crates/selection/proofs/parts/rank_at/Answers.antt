use Rattle.selection.proofs.PhrasesLaws.{phrases_ended-le, phrases_in-more}
use Rattle.selection.specs.Phrases.{phrases_in}
use Rattle.model.specs.Selection.{up_to}
use Rattle.model.specs.Kinds.{shape_at, shape_of}
use mathlib.Core.Path.{◌≡◌, refl, ap, ◌∙◌}
use native.Mathlib.Omega.{arith}
use Rattle.selection.proofs.parts.rank_at.Goals as goal

pub loop-c-init : goal.loop-c-init
unfolding phrases_in up_to
loop-c-init c = (omega arith, refl)

pub overflow_add-rank : goal.overflow_add-rank
overflow_add-rank c = omega (arith, c.phrases_ended-rank.ensures, phrases_ended-le (shape_of c.code_at-code.result))

pub loop-c-preserved : goal.loop-c-preserved
loop-c-preserved c = (
  omega (arith, c.phrases_ended-rank.ensures, phrases_ended-le (shape_of c.code_at-code.result)),
  phrases_in-more (shape_at c.args.selection.now) c.loop-c.c _ (ap shape_of c.code_at-code.ensures) _ _ c.loop-c.invariant.1 c.phrases_ended-rank.ensures,
)

pub returns : goal.returns
returns c =
    let z : c.loop-c.c ≡ c.args.place = omega arith in
    c.loop-c.invariant.1 ∙ ap (λ n. phrases_in (up_to (shape_at c.args.selection.now) n)) z
