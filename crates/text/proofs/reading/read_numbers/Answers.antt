use mathlib.Core.Path.{sym, ◌∙◌}
use lib.ListN.{length-set}
use Rattle.text.proofs.InputLaws.{length-numbers_of, read_more, read_all}
use borrow.Author.Rules.{rules}
use Rattle.text.proofs.reading.read_numbers.Goals as goal

pub loop-i-preserved : goal.loop-i-preserved
loop-i-preserved c =
    let more = read_more c.args.bytes.now c.args.numbers.now c.loop-i.i c.loop-i-test.true in
    (rw (c.number_at.ensures, c.loop-i.invariant.0) more, simp length-set c.loop-i.invariant.1)

pub returns : goal.returns
returns c =
    record {
      numbers_after = c.loop-i.invariant.0 ∙ read_all c.args.bytes.now c.args.numbers.now c.loop-i.i c.loop-i-test.false;
      value = sym (length-numbers_of c.args.bytes.now);
      upper_bound = search rules;
    }
