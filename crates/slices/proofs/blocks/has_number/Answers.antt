use Rattle.std.proofs.Common.{◌≡◌, ◌+◌, false, eqb, get_or, rules}
use borrow.Author.Tests.{eqb-false}
use Rattle.slices.proofs.blocks.has_number.Goals as goal

pub returns : goal.returns
returns c = λ e i l same.
    let h = c.block_has.ensures e i l in
    let other : eqb (get_or c.args.lent.now (c.args.at + i) 0) c.args.number ≡ false = search rules in
    eqb-false _ _ other same
