-- Three parts, each from where the one before ends; room for the whole is room for each.
use Prim.Native.Nat.{◌%◌}
use Rattle.std.proofs.Common.{ap, ◌∙◌, arith}
use Rattle.strings.specs.Strings.{str_of}
use Rattle.text.specs.Printed.{sort_mark}
use Rattle.text.proofs.PrintedLaws.{length-string}
use Rattle.text.proofs.PutsLaws.{put-string}
use Rattle.text.proofs.texts.put_string.Goals as goal

pub put_byte-first-requires : goal.put_byte-first-requires
put_byte-first-requires c = omega (arith, length-string (c.args.string.tag % 2) (str_of c.args.string.span c.args.string.tag))

pub put_span-query-requires : goal.put_span-query-requires
put_span-query-requires c =
    rw (c.run.ensures.lo_value, c.run.ensures.hi_value) (omega (arith, length-string (c.args.string.tag % 2) (str_of c.args.string.span c.args.string.tag)))

pub put_query-requires : goal.put_query-requires
put_query-requires c =
    let at = rw (c.run.ensures.lo_value, c.run.ensures.hi_value) at c.put_span-query.ensures in
    rw (c.query.ensures, c.is_contiguous.ensures) (omega (arith, length-string (c.args.string.tag % 2) (str_of c.args.string.span c.args.string.tag)))

pub returns : goal.returns
returns c =
    put-string (c.args.string.tag % 2) (str_of c.args.string.span c.args.string.tag)
    (c.sort_mark.ensures ∙ ap sort_mark c.sort.ensures) c.put_byte-first.ensures
    (rw (c.run.ensures.lo_value, c.run.ensures.hi_value) at c.put_span-query.ensures)
    (rw (c.query.ensures, c.is_contiguous.ensures) at c.put_query.ensures)
