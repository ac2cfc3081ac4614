use Rattle.std.proofs.Common.{arith}
use Rattle.section.proofs.RisesLaws.{summed_more}
use Rattle.section.proofs.places.Places.summed_rises.Goals as goal

pub loop-p-preserved : goal.loop-p-preserved
loop-p-preserved c =
    summed_more c.args.self.now.section.now c.args.from c.loop-p.p c.loop-p.sum _ (omega arith) (omega arith) (omega (arith, c.at.ensures, c.at-in-loop-p.ensures, c.at.type_inv, c.at-in-loop-p.type_inv)) c.loop-p.invariant
