use native.Mathlib.Omega.{arith}
use mathlib.Core.Path.{ap, ◌∙◌}
use Rattle.strings.specs.Strings.{strs_at}
use Rattle.store.specs.Stream.{MatchHeader}
use Rattle.store.proofs.StreamLaws.{next-at}
use Rattle.candidates.specs.Overlapping.{overlap_both}
use Rattle.candidates.proofs.PassingLaws.{ending_start, ending_here, ending_later, ending_none}
use Rattle.candidates.proofs.overlapping.end_of_overlapping.Goals as goal
use Rattle.candidates.proofs.overlapping.end_of_overlapping.Goals.{In-loop-at}

-- the header of the match in hand
one : (c : In-loop-at) → MatchHeader c.args.mem.now c.loop-at.at
one c = (next-at (c.loop-at.invariant c.requires).left c.loop-at-test.true).held.header

pub loop-at-init : goal.loop-at-init
loop-at-init c = λ w. ending_start w

pub bounds_at-bounds-requires : goal.bounds_at-bounds-requires
bounds_at-bounds-requires c = one c

pub includes-requires : goal.includes-requires
includes-requires c = omega (arith, one (goal.at.includes-requires c).In-loop-at, c.bounds_at-bounds.ensures)

pub loop-at-smaller-then-overlap_both : goal.loop-at-smaller-then-overlap_both
loop-at-smaller-then-overlap_both c = omega (arith, c.loop-at-test.true, c.bounds_at-bounds.ensures)

pub loop-at-preserved-then-overlap_both : goal.loop-at-preserved-then-overlap_both
loop-at-preserved-then-overlap_both c = λ w. ending_here w (c.loop-at.invariant w) c.loop-at-test.true c.bounds_at-bounds.ensures (c.overlap_both.ensures ∙ ap (λ xs. overlap_both c.args.ranges (strs_at xs)) c.includes.ensures) c.if-overlap_both.true

pub loop-at-smaller : goal.loop-at-smaller
loop-at-smaller c = omega (arith, c.loop-at-test.true, c.bounds_at-bounds.ensures)

pub loop-at-preserved : goal.loop-at-preserved
loop-at-preserved c = λ w. ending_later w (c.loop-at.invariant w) c.loop-at-test.true c.bounds_at-bounds.ensures (c.overlap_both.ensures ∙ ap (λ xs. overlap_both c.args.ranges (strs_at xs)) c.includes.ensures) c.if-overlap_both.false

pub returns : goal.returns
returns c w = ending_none w (c.loop-at.invariant w) c.loop-at-test.false
