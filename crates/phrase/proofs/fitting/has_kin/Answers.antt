-- A block has none of the kin that stand nowhere in it.
use Rattle.std.proofs.Common.{arith}
use Rattle.phrase.proofs.KinLaws.{among_none}
use Rattle.phrase.proofs.fitting.has_kin.Goals as goal

pub returns : goal.returns
returns c = λ e i l. among_none _ _ (λ k m same. c.loop-number.invariant e k (omega arith) i l same)
