-- A mask of the lower 16 bits gives the remainder by 2 ^ 16.
use lib.Bits.{and_mask}
use Rattle.strings.proofs.halves.lower.Goals as goal

pub returns : goal.returns
returns c = and_mask c.args.number 16
