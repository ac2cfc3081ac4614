use native.Mathlib.Omega.{arith}
use mathlib.Core.Path.{refl}
use Rattle.occurs.proofs.ChoicesLaws.{size-start, choices-at, product_fits, size_step, size_finish}
use borrow.Author.Rules.{rules}
use Rattle.occurs.proofs.choices.put_sizes.Goals as goal

pub loop-k-init : goal.loop-k-init
loop-k-init c = (refl, λ w. size-start w c.size_at-m.ensures.matches)

pub put_all-q-requires : goal.put_all-q-requires
put_all-q-requires c =
    choices-at c.requires (c.loop-k.invariant.1 c.requires) c.loop-k-test.true

pub overflow_mul-total : goal.overflow_mul-total
overflow_mul-total c =
    omega (arith, product_fits c.requires (c.loop-k.invariant.1 c.requires) c.loop-k-test.true)

pub loop-k-preserved : goal.loop-k-preserved
loop-k-preserved c =
    (search rules, λ w. size_step w (c.loop-k.invariant.1 w) c.loop-k-test.true c.put_all-q.ensures)

pub returns : goal.returns
returns c w = size_finish w (c.loop-k.invariant.1 w) c.loop-k-test.false
