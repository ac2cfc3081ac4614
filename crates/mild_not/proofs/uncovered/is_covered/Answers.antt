use Rattle.std.proofs.Common.{sym, ◌∙◌}
use Rattle.mild_not.proofs.UncoveredLaws.{covering_valid, covering_here, covering_on, covering_none}
use Rattle.mild_not.proofs.uncovered.is_covered.Goals as goal

pub covers-requires : goal.covers-requires
covers-requires c = covering_valid c.loop-s.invariant c.in-Some.s c.in-Some.ensures.steps

pub returns-then-covers : goal.returns-then-covers
returns-then-covers c = covering_here c.loop-s.invariant c.in-Some.s c.in-Some.ensures.steps (sym c.if-covers.true ∙ c.covers.ensures)

pub loop-s-preserved : goal.loop-s-preserved
loop-s-preserved c = covering_on c.loop-s.invariant c.in-Some.s c.in-Some.ensures.steps (sym c.if-covers.false ∙ c.covers.ensures)

pub returns : goal.returns
returns c = covering_none c.loop-s.invariant c.in-None.ensures.steps.0
