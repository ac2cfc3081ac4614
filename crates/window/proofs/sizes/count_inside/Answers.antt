use native.Mathlib.Omega.{arith}
use mathlib.Core.Path.{◌∙◌}
use Rattle.window.proofs.SizesLaws.{count-start, count-more, count_most, count_next, count-end}
use Rattle.window.proofs.sizes.count_inside.Goals as goal

pub loop-s-init : goal.loop-s-init
loop-s-init c = count-start _ _ (c.into_iter-s-iterator.ensures.into_iter_gives ∙ c.strings_in-s-items.ensures)

pub overflow_add-count : goal.overflow_add-count
overflow_add-count c =
    omega (
      arith,
      count_most c.loop-s.invariant c.requires.end_bound c.requires.few_strings,
      count-more _ c.joined.result.hi.0 c.requires.window_size c.requires.start_lt_radix c.joined.ensures.lo_value c.count_around-count.ensures,
    )

pub loop-s-preserved : goal.loop-s-preserved
loop-s-preserved c = count_next c.loop-s.invariant c.in-Some.s c.in-Some.ensures.steps (omega (arith, c.count_around-count.ensures, c.joined.ensures, c.run.ensures))

pub returns : goal.returns
returns c =
    record {
      value = count-end c.loop-s.invariant c.in-None.ensures.steps.0;
      upper_bound = count_most c.loop-s.invariant c.requires.end_bound c.requires.few_strings;
    }
