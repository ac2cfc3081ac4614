-- The first line, and the others from where it ends.
use native.Mathlib.Omega.{arith}
use Rattle.text.proofs.ListingsLaws.{length-listed, put-listed}
use Rattle.text.proofs.printing.put_listed.Goals as goal

pub put_lines-requires : goal.put_lines-requires
put_lines-requires c = record { lines_at = c.requires.lines_at; n_in_bounds = omega (arith, length-listed c.args.said c.args.matches c.args.strings c.args.buffer.now) }

pub returns : goal.returns
returns c =
    put-listed c.args.said c.args.matches c.args.strings c.args.buffer.now c.put_answer-first.ensures c.put_lines.ensures
