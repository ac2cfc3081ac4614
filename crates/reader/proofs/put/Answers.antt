-- The number of codes is stored, then the kinds, then the operands.
use Rattle.std.proofs.Common.{arith}
use Rattle.reader.proofs.SelectionsLaws.{few_put}
use Rattle.reader.proofs.put.Goals as goal

pub returns-then-codes-le-MAX_CODES : goal.returns-then-codes-le-MAX_CODES
returns-then-codes-le-MAX_CODES c =
    few_put c.args.codes.now c.args.selection.now _ _ c.if-codes-le-MAX_CODES.true c.requires c.copy_from_slice.ensures.after c.copy_from_slice-then-codes-le-MAX_CODES.ensures.after
    (omega (arith, c.copy_from_slice.auto.self)) (omega (arith, c.copy_from_slice-then-codes-le-MAX_CODES.auto.self))
