use Rattle.candidates.proofs.EdgesLaws.{widening_start, widening_at, widening_next, widening_end}
use Rattle.candidates.specs.Edges.{MatchAt}
use Rattle.candidates.proofs.edges.ranges_ahead.Goals as goal
use Rattle.candidates.proofs.edges.ranges_ahead.Goals.{In-loop}

-- the match in hand
abbrev one : (c : In-loop) → MatchAt c.args.mem.now c.loop.at
one c = widening_at (c.loop.invariant c.requires) c.min-end.ensures c.loop-test.true

pub with_match-ranges-requires : goal.with_match-ranges-requires
with_match-ranges-requires c = one c

pub match_end-at-requires : goal.match_end-at-requires
match_end-at-requires c = (one (goal.at.match_end-at-requires c).In-loop).held.header

pub loop-init : goal.loop-init
loop-init c = λ w. widening_start w c.at-ranges.ensures

pub loop-preserved : goal.loop-preserved
loop-preserved c = λ w.
    let g = c.loop.invariant w in
    widening_next g c.min-end.ensures c.loop-test.true (c.with_match-ranges.ensures (widening_at g c.min-end.ensures c.loop-test.true)) c.match_end-at.ensures

pub returns : goal.returns
returns c w = widening_end (c.loop.invariant w) c.min-end.ensures c.loop-test.false
