use borrow.Author.Rules.{rules}
use mathlib.Core.Path.{refl}
use Rattle.negation.proofs.ChoicesLaws.{start, given, step, finish}
use Rattle.negation.proofs.choices.Choices.put_all.Goals as goal

pub loop-c-init : goal.loop-c-init
loop-c-init c = (refl, λ w. start w)

pub put-q-requires : goal.put-q-requires
put-q-requires c =
    given c.requires (c.loop-c.invariant.1 c.requires) c.loop-c-test.true

pub loop-c-preserved : goal.loop-c-preserved
loop-c-preserved c =
    let g = c.loop-c.invariant.1 in
    (search rules, λ w. step w (g w) c.loop-c-test.true (c.put-q.ensures (given w (g w) c.loop-c-test.true)))

pub returns : goal.returns
returns c w = finish w (c.loop-c.invariant.1 w) c.loop-c.auto.c-end c.loop-c-test.false
