use Rattle.std.proofs.Common.{◌≡◌, ◌+◌, false, ◌&&◌, eqb, get_or, true≢false, eq-eqb, sym, ◌∙◌, rules}
use Rattle.model.proofs.TestsLaws.{and-join}
use Rattle.phrase.proofs.equal.has_pair.Goals as goal

pub returns : goal.returns
returns c = λ e i l x y.
    let h = c.block_has.ensures e i l in
    let apart : (eqb (get_or c.args.section.now (c.args.left + i) 0) c.args.one && eqb (get_or c.args.section.now (c.args.right + i) 0) c.args.other) ≡ false = search rules in
    true≢false (sym (and-join (eq-eqb _ _ x) (eq-eqb _ _ y)) ∙ apart)
