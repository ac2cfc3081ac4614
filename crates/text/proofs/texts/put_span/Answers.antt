-- Three parts, each from where the one before ends; room for the whole is room for each.
use Rattle.std.proofs.Common.{refl, arith}
use Rattle.text.proofs.PrintedLaws.{length-span}
use Rattle.text.proofs.PutsLaws.{put-span}
use Rattle.text.proofs.texts.put_span.Goals as goal

pub put_decimal-dash-requires : goal.put_decimal-dash-requires
put_decimal-dash-requires c = omega (arith, length-span c.args.run.lo.0 c.args.run.hi.0)

pub put_byte-end-requires : goal.put_byte-end-requires
put_byte-end-requires c = omega (arith, length-span c.args.run.lo.0 c.args.run.hi.0)

pub put_decimal-requires : goal.put_decimal-requires
put_decimal-requires c = omega (arith, length-span c.args.run.lo.0 c.args.run.hi.0)

pub returns : goal.returns
returns c = put-span _ _ refl refl c.put_decimal-dash.ensures c.put_byte-end.ensures c.put_decimal.ensures
