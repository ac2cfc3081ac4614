-- Five parts, each from where the one before ends; room for the whole is room for each.
use native.Mathlib.Omega.{arith}
use Rattle.text.proofs.PrintedLaws.{length_head}
use Rattle.text.proofs.PutsLaws.{put_head}
use Rattle.text.proofs.words.put_head.Goals as goal

pub put_word-first-requires : goal.put_word-first-requires
put_word-first-requires c =
    omega (arith, length_head c.args.word.now c.args.a c.args.b)

pub put_decimal-blank-requires : goal.put_decimal-blank-requires
put_decimal-blank-requires c =
    omega (arith, length_head c.args.word.now c.args.a c.args.b)

pub put_byte-second-requires : goal.put_byte-second-requires
put_byte-second-requires c =
    omega (arith, length_head c.args.word.now c.args.a c.args.b)

pub put_decimal-end-requires : goal.put_decimal-end-requires
put_decimal-end-requires c =
    omega (arith, length_head c.args.word.now c.args.a c.args.b)

pub put_byte-requires : goal.put_byte-requires
put_byte-requires c =
    omega (arith, length_head c.args.word.now c.args.a c.args.b)

pub returns : goal.returns
returns c =
    put_head _ _ c.put_word-first.ensures c.put_decimal-blank.ensures c.put_byte-second.ensures c.put_decimal-end.ensures c.put_byte.ensures
