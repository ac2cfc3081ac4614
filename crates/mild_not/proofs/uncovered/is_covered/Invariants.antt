-- Invariant: what is left covers the position just where all does.
use Rattle.strings.specs.Strings.{strs_at}
use Rattle.mild_not.proofs.UncoveredLaws.{Covering}
use Rattle.mild_not.proofs.uncovered.is_covered.Given as goal

abbrev pub invariant-loop-s : goal.invariant-loop-s
invariant-loop-s l = Covering l.p.0 (strs_at l.strs) l.s-iterator
