use Rattle.std.proofs.Common.{refl}
use lib.ListN.{length-set}
use Rattle.slices.proofs.EverySecondLaws.{copied_none, copied_more}
use Rattle.slices.proofs.copy_every_second.Goals as goal

pub loop-i-init : goal.loop-i-init
loop-i-init c = (copied_none _ _ _ _, refl)

pub loop-i-preserved : goal.loop-i-preserved
loop-i-preserved c =
    let more = copied_more c.args.mem.now c.args.buffer.now c.args.from c.args.q c.loop-i.i in
    (rw c.loop-i.invariant.0 more, simp length-set c.loop-i.invariant.1)
