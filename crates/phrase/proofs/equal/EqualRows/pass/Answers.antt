use Rattle.std.proofs.Common.{rules}
use Rattle.slices.proofs.BlocksLaws.{passed_all}
use Rattle.model.specs.Families.{equal_words}
use Rattle.phrase.specs.Starts.{Skipped}
use Rattle.phrase.proofs.BlocksLaws.{skip_without_pair}
use Rattle.phrase.proofs.StartsLaws.{skipped-none}
use Rattle.phrase.proofs.equal.EqualRows.pass.Goals as goal

pub returns : goal.returns
returns c =
    let rows = c.args.self.now in
    passed_all (Skipped (equal_words rows.section.now) rows.words.now c.args.from c.args.to) (skipped-none c.requires.in_order)
    (λ p a b no g. skip_without_pair rows.section.now rows.words.now c.requires.within g b c.args.by c.after-next.result c.requires.a_word c.after-next.ensures (search rules)) c.pass_blocks.ensures
