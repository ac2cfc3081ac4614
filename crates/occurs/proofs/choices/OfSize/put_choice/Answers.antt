use mathlib.Core.Path.{refl}
use Rattle.occurs.proofs.ChoicesLaws.{join-start, joined_at, join_step, join_finish}
use borrow.Author.Rules.{rules}
use Rattle.occurs.proofs.choices.OfSize.put_choice.Goals as goal

pub loop-d-init : goal.loop-d-init
loop-d-init c = (refl, λ w. join-start w c.size_at.ensures.matches c.not_matches-n.ensures)

pub put_joined-q-requires : goal.put_joined-q-requires
put_joined-q-requires c =
    joined_at c.requires (c.loop-d.invariant.1 c.requires) c.loop-d-test.true

pub loop-d-preserved : goal.loop-d-preserved
loop-d-preserved c =
    (search rules, λ w. join_step w (c.loop-d.invariant.1 w) c.loop-d-test.true c.put_joined-q.ensures)

pub returns : goal.returns
returns c w = join_finish w (c.loop-d.invariant.1 w) c.loop-d-test.false
