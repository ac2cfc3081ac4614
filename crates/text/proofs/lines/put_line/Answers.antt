-- No string is a dot; else the first string, the others after blanks, and the line's end. Room for the whole is room for each.
use native.Mathlib.Omega.{arith}
use Rattle.text.proofs.LinesLaws.{length_line_none, length_line_some, put_line_none, put_line_some}
use borrow.Author.Rules.{rules}
use Rattle.text.proofs.lines.put_line.Goals as goal

pub put_word-requires : goal.put_word-requires
put_word-requires c =
    omega (arith, length_line_none c.args.buffer.now c.args.s c.args.t c.args.n c.if-n-eq0.true)

pub returns-then-n-eq0 : goal.returns-then-n-eq0
returns-then-n-eq0 c =
    put_line_none c.args.buffer.now c.args.s c.args.t c.args.n c.if-n-eq0.true c.put_word.ensures

pub put_string-later-requires : goal.put_string-later-requires
put_string-later-requires c =
    omega (arith, length_line_some c.args.buffer.now c.args.s c.args.t c.args.n (omega arith))

pub put_later_strings-end-requires : goal.put_later_strings-end-requires
put_later_strings-end-requires c = record { strings_at = search rules; n_in_bounds = omega (arith, length_line_some c.args.buffer.now c.args.s c.args.t c.args.n (omega arith)) }

pub put_byte-requires : goal.put_byte-requires
put_byte-requires c =
    omega (
      arith,
      length_line_some c.args.buffer.now c.args.s c.args.t c.args.n (omega arith),
    )

pub returns : goal.returns
returns c =
    put_line_some c.args.buffer.now c.args.s c.args.t c.args.n (omega arith) c.put_string-later.ensures c.put_later_strings-end.ensures c.put_byte.ensures
