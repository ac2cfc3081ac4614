use borrow.Author.Rules.{rules}
use Rattle.store.proofs.EachLaws.{item, step, finish}
use Rattle.store.proofs.each.each_match.Goals as goal

pub match_end-end-requires : goal.match_end-end-requires
match_end-end-requires g c = (item (c.loop.invariant.1 c.requires) c.loop-test.true).one.held.header

pub put-q-requires : goal.put-q-requires
put-q-requires g c =
    let going = c.loop.invariant.1 c.requires in
    c.requires.may _ _ _ _ going.rows.put (item going c.loop-test.true)

pub loop-preserved : goal.loop-preserved
loop-preserved g c = (
  search rules,
  λ w.
      let going = c.loop.invariant.1 w in
      step going c.loop-test.true (w.does _ _ _ _ _ _ going.rows.put (item going c.loop-test.true) c.put-q.ensures) c.match_end-end.ensures,
)

pub returns : goal.returns
returns g c w = finish (c.loop.invariant.1 w) c.loop-test.false
