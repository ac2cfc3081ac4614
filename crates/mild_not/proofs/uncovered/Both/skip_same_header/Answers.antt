use Rattle.std.proofs.Common.{◌+◌, get_or, arith}
use Rattle.store.specs.Layout.{BoundsOf}
use Rattle.store.specs.declared.bounds.Bounds.{Bounds}
use Rattle.store.specs.Stream.{MatchHeader}
use Rattle.store.proofs.DecodeLaws.{valid-within}
use Rattle.store.proofs.StreamLaws.{next-at, search_start}
use Rattle.candidates.proofs.PassingLaws.{passing-later}
use Rattle.mild_not.specs.Uncovered.{cover_both}
use Rattle.mild_not.proofs.uncovered.Both.skip_same_header.Goals as goal
use Rattle.mild_not.proofs.uncovered.Both.skip_same_header.Goals.{Else-mem-at, In-loop-at}

pub loop-at-init : goal.loop-at-init
loop-at-init c = (omega arith, λ w. search_start _ w.stream)

-- the header of the match in hand
one : (c : In-loop-at) → MatchHeader c.args.mem.now c.loop-at.at
one c = (next-at (c.loop-at.invariant.1 c.requires).left c.loop-at-test.true).held.header

-- and its bounds, since its header is the one given
abbrev shifted : (c : Else-mem-at) → Bounds
shifted c =
    let b = c.bounds-own.result in
    record { includes = c.loop-at.at + b.includes; excludes = c.loop-at.at + b.excludes; end = c.loop-at.at + b.end; in_order = omega (arith, b.in_order) }

own : (c : Else-mem-at) → BoundsOf (get_or c.args.mem.now c.loop-at.at 0) c.loop-at.at (shifted c)
own c = omega (arith, c.if-mem-at.false, c.bounds-own.ensures)

pub slice_bounds-are_covered-end : goal.slice_bounds-are_covered-end
slice_bounds-are_covered-end c = omega (arith, one (goal.at.slice_bounds-are_covered-end c).In-loop-at, own (goal.at.slice_bounds-are_covered-end c).Else-mem-at)

pub are_covered-requires : goal.are_covered-requires
are_covered-requires c = valid-within (next-at (c.loop-at.invariant.1 c.requires).left c.loop-at-test.true).held (own (goal.at.are_covered-requires c).Else-mem-at)

pub loop-at-preserved : goal.loop-at-preserved
loop-at-preserved c =
    let b = own (goal.at.loop-at-preserved c).Else-mem-at in (
      omega (arith, c.loop-at.invariant.0),
      λ w. passing-later (cover_both c.args.self.p.0 c.args.self.q.0) (c.loop-at.invariant.1 w) c.loop-at-test.true b c.are_covered.ensures c.if-are_covered.false b.end,
    )
