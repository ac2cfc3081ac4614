use Rattle.std.proofs.Common.{zero-add, arith}
use lib.Seq.{sets-eq}
use Rattle.slices.proofs.copy.Goals as goal

pub returns : goal.returns
returns c = rw (c.copy_from_slice.ensures.after, sets-eq c.args.from.now c.args.to.now 0 (omega arith), zero-add)
