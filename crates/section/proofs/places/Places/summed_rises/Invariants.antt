-- Invariant: the sum is that of the rises up to p.
use Rattle.section.specs.Rises.{SummedRises}
use Rattle.section.proofs.places.Places.summed_rises.Given as goal

abbrev pub invariant-loop-p : goal.invariant-loop-p
invariant-loop-p l = SummedRises l.self.section.now l.from l.p l.sum
