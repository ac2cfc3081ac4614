-- A number below ten is one digit; any other is put as its tenth and one digit after it, as the definition has it.
use native.Mathlib.Omega.{arith}
use mathlib.Core.Path.{ap}
use lib.ListN.{length}
use Rattle.text.proofs.PrintedLaws.{decimal-small, length-decimal-more}
use Rattle.text.proofs.PutsLaws.{put_small, put-more}
use Rattle.text.proofs.words.+put_decimal.Goals as goal

pub put_byte-requires : goal.put_byte-requires
put_byte-requires t c = omega (arith, ap length (decimal-small c.args.n c.if-n-lt10.true))

pub returns-then-n-lt10 : goal.returns-then-n-lt10
returns-then-n-lt10 t c = put_small _ c.if-n-lt10.true c.put_byte.ensures

pub put_decimal-last-requires : goal.put_decimal-last-requires
put_decimal-last-requires t c = (omega arith, omega (arith, length-decimal-more c.args.n c.if-n-lt10.false))

pub put_byte-requires-2 : goal.put_byte-requires-2
put_byte-requires-2 t c = omega (arith, length-decimal-more c.args.n c.if-n-lt10.false)

pub returns : goal.returns
returns t c = put-more _ c.if-n-lt10.false c.put_decimal-last.ensures c.put_byte-2.ensures
