use mathlib.Core.Path.{refl}
use Rattle.occurs.proofs.ChoicesLaws.{choose-start, choice-at, choose_step, choose_finish}
use borrow.Author.Rules.{rules}
use Rattle.occurs.proofs.choices.OfSize.put_all.Goals as goal

pub loop-c-init : goal.loop-c-init
loop-c-init c = (refl, λ w. choose-start w)

pub put_choice-q-requires : goal.put_choice-q-requires
put_choice-q-requires c =
    choice-at c.requires (c.loop-c.invariant.1 c.requires) c.loop-c-test.true

pub loop-c-preserved : goal.loop-c-preserved
loop-c-preserved c =
    (search rules, λ w. choose_step w (c.loop-c.invariant.1 w) c.loop-c-test.true c.put_choice-q.ensures)

pub returns : goal.returns
returns c w = choose_finish w (c.loop-c.invariant.1 w) c.loop-c.auto.c-end c.loop-c-test.false
