use native.Mathlib.Omega.{arith}
use mathlib.Core.Path.{refl}
use lib.ListN.{length-set}
use Rattle.store.specs.Stream.{MatchHeader}
use Rattle.listing_buffer.proofs.ColumnLoopLaws.{here, count-start, count_step, count_finish}
use Rattle.listing_buffer.proofs.put_counts.Goals as goal
use Rattle.listing_buffer.proofs.put_counts.Goals.{In-loop-i}

-- the header in hand
one : (c : In-loop-i) → MatchHeader c.args.mem.now c.loop-i.at
one c = (here (c.loop-i.invariant.1 c.requires.stream_at) c.loop-i-test.true).held.header

pub loop-i-init : goal.loop-i-init
loop-i-init c = (refl, λ w. count-start _ w.stream w.count)

pub offset_bounds-mem-at : goal.offset_bounds-mem-at
offset_bounds-mem-at c = omega (arith, one c)

pub bounds-mem-at : goal.bounds-mem-at
bounds-mem-at c = omega (arith, one (goal.at.bounds-mem-at c).In-loop-i)

pub overflow_cast-buffer : goal.overflow_cast-buffer
overflow_cast-buffer c = omega (arith, one (goal.at.overflow_cast-buffer c).In-loop-i)

pub overflow_add-at : goal.overflow_add-at
overflow_add-at c = omega (arith, one (goal.at.overflow_add-at c).In-loop-i, c.length-at.ensures)

pub loop-i-preserved : goal.loop-i-preserved
loop-i-preserved c = (
  simp length-set c.loop-i.invariant.0,
  λ w. count_step (c.loop-i.invariant.1 w) c.loop-i-test.true c.strings.ensures c.length-at.ensures,
)

pub returns : goal.returns
returns c w = count_finish (c.loop-i.invariant.1 w) c.loop-i-test.false
