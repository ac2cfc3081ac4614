use Rattle.std.proofs.Common.{arith, refl, rules}
use Rattle.model.specs.Rules.{kept}
use Rattle.model.proofs.RulesLaws.{size-kept}
use Rattle.store.specs.Each.{OneAt}
use Rattle.store.proofs.EachLaws.{item, slot-each, count-start, count_most, count-one, count_finish}
use Rattle.store.proofs.SlotsLaws.{closing, closed}
use Rattle.filters.proofs.WritingLaws.{small-kept}
use Rattle.filters.proofs.kept.kept_list.Goals as goal
use Rattle.filters.proofs.kept.kept_list.Goals.{In-loop}
use Rattle.filters.proofs.kept.kept_list.Given.{Over}

-- the match in hand
one : (g : Over) (c : In-loop g) → OneAt (kept (g.K.Keeper.keeping c.args.keeper)) c.loop.mem c.loop.from c.loop.q
one g c = item (c.loop.invariant.1 c.requires.slot_at).going c.loop-test.true

pub loop-init : goal.loop-init
loop-init g c =
    (refl, λ w. count-start (slot-each w.slot c.requires.slot_below (small-kept (g.K.Keeper.keeping c.args.keeper) w.slot) _ c.size_at-n.ensures.matches))

pub match_end-end-requires : goal.match_end-end-requires
match_end-end-requires g c = (one g c).one.held.header

pub put_filtered-next-requires : goal.put_filtered-next-requires
put_filtered-next-requires g c = one g (goal.at.put_filtered-next-requires g c).In-loop

pub count_one-matches-requires : goal.count_one-matches-requires
count_one-matches-requires g c =
    let w = c.requires.slot_at in
    omega (arith, count_most (c.loop.invariant.1 w), small-kept (g.K.Keeper.keeping c.args.keeper) w.slot)

pub loop-preserved : goal.loop-preserved
loop-preserved g c =
    let i = c.loop.invariant.1 in (
      search rules,
      λ w. count-one (i w) c.loop-test.true (c.put_filtered-next.ensures (item (i w).going c.loop-test.true))
          c.match_end-end.ensures (size-kept _ _).matches c.count_one-matches.ensures,
    )

pub close_slot-requires : goal.close_slot-requires
close_slot-requires g c =
    let w = c.requires.slot_at in
    closing (small-kept (g.K.Keeper.keeping c.args.keeper) w.slot) (count_finish (c.loop.invariant.1 w) c.loop-test.false) c.requires.slot_below.room

pub returns : goal.returns
returns g c w =
    closed (small-kept (g.K.Keeper.keeping c.args.keeper) w.slot) (count_finish (c.loop.invariant.1 w) c.loop-test.false) c.close_slot.ensures
