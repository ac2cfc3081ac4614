use Rattle.std.proofs.Common.{arith}
use Rattle.std.proofs.lemmas.Grind.{common_steps}
use borrow.Author.Rules.{rules}
use Rattle.mild_not.proofs.UncoveredLaws.{search_found, search_on, search_none}
use Rattle.mild_not.proofs.uncovered.find_uncovered.Goals as goal

pub returns-then-le : goal.returns-then-le
returns-then-le c =
    search_found c.loop-s.invariant c.in-Some.s c.in-Some.ensures.steps c.run.ensures.lo_value c.run.ensures.hi_value c.run_end-p.ensures c.end.ensures (search rules)

pub loop-s-preserved : goal.loop-s-preserved
loop-s-preserved c =
    search_on c.loop-s.invariant c.in-Some.s c.in-Some.ensures.steps c.run.ensures.lo_value c.run.ensures.hi_value c.run_end-p.ensures c.end.ensures (grind (arith, common_steps))

pub returns : goal.returns
returns c = search_none c.loop-s.invariant c.in-None.ensures.steps.0
