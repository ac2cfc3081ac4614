use native.Mathlib.Omega.{arith}
use mathlib.Core.Path.{◌∙◌}
use Rattle.negation.proofs.SizesLaws.{start, few_strings, step, finish}
use Rattle.negation.proofs.sizes.count_choices.Goals as goal

pub loop-m-init : goal.loop-m-init
loop-m-init c = (omega arith, λ w. start (c.into_iter-m-iterator.ensures.into_iter_gives ∙ c.matches_of-m-items.ensures w) w.slot.strs)

pub overflow_cast-strings : goal.overflow_cast-strings
overflow_cast-strings c = omega (arith, few_strings (c.loop-m.invariant.1 c.requires) c.in-Some.ensures.steps, c.strings.ensures)

pub product-total-requires : goal.product-total-requires
product-total-requires c = omega (arith, few_strings (c.loop-m.invariant.1 c.requires) c.in-Some.ensures.steps, c.strings.ensures, c.loop-m.invariant.0)

pub loop-m-preserved : goal.loop-m-preserved
loop-m-preserved c = (
  omega (arith, c.product-total.ensures),
  λ w. step (c.loop-m.invariant.1 w) c.in-Some.ensures.steps c.strings.ensures c.product-total.ensures,
)

pub returns : goal.returns
returns c w = finish (c.loop-m.invariant.1 w) c.loop-m.invariant.0 c.in-None.ensures.steps.0
