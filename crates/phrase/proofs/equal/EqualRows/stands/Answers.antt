-- Where another word stands in its place, the row doesn't stand (stands_without).
use Rattle.std.proofs.Common.{sym, ◌∙◌, ne_eqb, arith}
use Rattle.model.specs.Families.{equal_words}
use Rattle.phrase.proofs.RowsLaws.{stands_without}
use Rattle.phrase.proofs.equal.EqualRows.stands.Goals as goal

pub returns-else-self-p : goal.returns-else-self-p
returns-else-self-p c =
    let other = ne_eqb _ _ c.if-self-p.false in
    other ∙ sym (stands_without (equal_words c.args.self.now.section.now) c.args.self.now.words.now c.args.p c.args.by c.requires.a_word (omega arith) other)
