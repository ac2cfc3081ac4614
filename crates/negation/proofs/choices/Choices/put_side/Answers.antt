use native.Mathlib.Omega.{arith}
use mathlib.Core.Path.{refl}
use Rattle.store.specs.Stream.{MatchHeader}
use Rattle.strings.specs.Strings.{number_of_sort}
use Rattle.negation.proofs.SideLaws.{Turn, start, here, turn, step, finish}
use borrow.Author.Rules.{rules}
use Rattle.negation.proofs.choices.Choices.put_side.Goals as goal
use Rattle.negation.proofs.choices.Choices.put_side.Goals.{After-strings-weight, In-loop}

-- the header of the match in hand; and the turn's numbers, by its strings
one : (c : In-loop) → MatchHeader c.loop.mem c.loop.from
one c = (here (c.loop.invariant.1 c.requires) c.loop-test.true).held.header

here-turn : (c : After-strings-weight)
    → Turn c.loop.mem (number_of_sort c.args.sort) c.bounds-bounds.result.includes c.loop.q c.loop.rest c.loop.weight c.strings-weight.result
here-turn c = turn (c.loop.invariant.1 c.requires) c.loop-test.true c.bounds-bounds.ensures c.strings-weight.ensures

pub loop-init : goal.loop-init
loop-init c = (refl, λ w. start w c.size_at-n.ensures.matches)

pub bounds-bounds-requires : goal.bounds-bounds-requires
bounds-bounds-requires c = omega (arith, one (goal.at.bounds-bounds-requires c).In-loop)

pub offset_bounds-mem-from : goal.offset_bounds-mem-from
offset_bounds-mem-from c = omega (arith, one (goal.at.offset_bounds-mem-from c).In-loop)

pub bounds-mem-from : goal.bounds-mem-from
bounds-mem-from c = omega (arith, one (goal.at.bounds-mem-from c).In-loop)

pub nonzero_div-weight : goal.nonzero_div-weight
nonzero_div-weight c = (here-turn c).some

pub nonzero_div-rest : goal.nonzero_div-rest
nonzero_div-rest c = (here-turn (goal.at.nonzero_div-rest c).After-strings-weight).weighs

pub overflow_mul-rest : goal.overflow_mul-rest
overflow_mul-rest c = omega (arith, (here-turn (goal.at.overflow_mul-rest c).After-strings-weight).digit, (here-turn (goal.at.overflow_mul-rest c).After-strings-weight).few)

pub overflow_add-bounds : goal.overflow_add-bounds
overflow_add-bounds c = omega (arith, (here-turn (goal.at.overflow_add-bounds c).After-strings-weight).turnable.reads)

pub put_turned-q-requires : goal.put_turned-q-requires
put_turned-q-requires c = (here-turn (goal.at.put_turned-q-requires c).After-strings-weight).turnable

pub nonzero_rem-rest : goal.nonzero_rem-rest
nonzero_rem-rest c = (here-turn (goal.at.nonzero_rem-rest c).After-strings-weight).weighs

pub loop-preserved : goal.loop-preserved
loop-preserved c = (
  search rules,
  λ w. step (c.loop.invariant.1 w) c.loop-test.true c.bounds-bounds.ensures c.strings-weight.ensures c.put_turned-q.ensures,
)

pub returns : goal.returns
returns c w = finish (c.loop.invariant.1 w) c.loop-test.false
