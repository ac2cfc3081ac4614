-- Four parts, each from where the one before ends; room for the whole is room for each.
use Rattle.std.proofs.Common.{refl, arith}
use Rattle.text.proofs.PrintedLaws.{length-query}
use Rattle.text.proofs.PutsLaws.{put-query}
use Rattle.text.proofs.texts.put_query.Goals as goal

pub put_word-number-requires : goal.put_word-number-requires
put_word-number-requires c = omega (arith, length-query c.args.query c.args.contiguous)

pub put_decimal-blank-requires : goal.put_decimal-blank-requires
put_decimal-blank-requires c = omega (arith, length-query c.args.query c.args.contiguous)

pub put_byte-mark-requires : goal.put_byte-mark-requires
put_byte-mark-requires c = omega (arith, length-query c.args.query c.args.contiguous)

pub put_byte-requires : goal.put_byte-requires
put_byte-requires c = omega (arith, length-query c.args.query c.args.contiguous)

pub returns : goal.returns
returns c = put-query _ _ refl c.contiguous_mark.ensures c.put_word-number.ensures c.put_decimal-blank.ensures c.put_byte-mark.ensures c.put_byte.ensures
