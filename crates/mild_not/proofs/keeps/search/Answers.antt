use Rattle.std.proofs.Common.{◌+◌, ap, arith}
use Rattle.store.specs.Stream.{MatchHeader}
use Rattle.store.proofs.StreamLaws.{next-at}
use Rattle.mild_not.proofs.KeepsLaws.{against_start, against_covered, against_left, against_next, against_end}
use Rattle.mild_not.proofs.keeps.search.Goals as goal
use Rattle.mild_not.proofs.keeps.search.Goals.{In-loop-at}

-- the header of the match of R in hand
one : (c : In-loop-at) → MatchHeader c.args.mem.now c.loop-at.at
one c = (next-at (c.loop-at.invariant c.requires).search.left c.loop-at-test.true).held.header

pub loop-at-init : goal.loop-at-init
loop-at-init c = λ w. against_start w (c.next_covering-at.ensures.remaining (record { list = w.rights; stream = w.stream }))

pub includes-requires : goal.includes-requires
includes-requires c = omega (arith, one (goal.at.includes-requires c).In-loop-at, c.bounds.ensures)

pub returns-in_default : goal.returns-in_default
returns-in_default c w =
    against_covered w (c.loop-at.invariant w) c.loop-at-test.true c.bounds_at.ensures c.bounds.ensures c.includes-includes.ensures c.includes.ensures _ c.find_uncovered.ensures
    c.in_default.is

pub next_covering-at-requires-in-loop-at : goal.next_covering-at-requires-in-loop-at
next_covering-at-requires-in-loop-at c =
    against_left c.requires (c.loop-at.invariant c.requires) c.loop-at-test.true c.bounds_at.ensures c.bounds.ensures c.includes-includes.ensures c.includes.ensures _ c.find_uncovered.ensures
    (ap (λ n. c.loop-at.at + n) c.length.ensures)

pub loop-at-preserved : goal.loop-at-preserved
loop-at-preserved c = λ w.
    let l = c.bounds_at.ensures in
    let r = c.bounds.ensures in
    let h = c.loop-at-test.true in
    let g = c.loop-at.invariant w in
    let next = ap (λ n. c.loop-at.at + n) c.length.ensures in
    against_next w g h l r c.includes-includes.ensures c.includes.ensures _ c.find_uncovered.ensures next c.in-Some.is
    (c.next_covering-at-in-loop-at.ensures.remaining (against_left w g h l r c.includes-includes.ensures c.includes.ensures _ c.find_uncovered.ensures next))

pub returns : goal.returns
returns c w = against_end w (c.loop-at.invariant w) c.loop-at-test.false
