-- A row of one word.
use Rattle.std.proofs.Common.{arith}
use Rattle.model.specs.Families.{equal_words}
use Rattle.phrase.proofs.RowsLaws.{stands_one}
use Rattle.phrase.proofs.equal.OneEqualRows.stands.Goals as goal

pub returns : goal.returns
returns c =
    stands_one (equal_words c.args.self.now.rows.section.now) c.args.self.now.rows.words.now c.args.p c.args.self.now.one (omega arith)
