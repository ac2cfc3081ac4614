use Rattle.std.proofs.Common.{◌+◌, ◌∙◌, get_or, rules}
use Rattle.slices.proofs.BlocksLaws.{passed_all}
use Rattle.model.specs.Families.{searched_of}
use Rattle.slices.specs.Blocks.{block_size}
use Rattle.phrase.specs.Blocks.{LacksKin}
use Rattle.phrase.specs.Starts.{Skipped}
use Rattle.phrase.proofs.BlocksLaws.{skip_block}
use Rattle.phrase.proofs.StartsLaws.{skipped-none}
use Rattle.phrase.proofs.fitting.FittingRows.pass.Goals as goal

pub returns-in-Some : goal.returns-in-Some
returns-in-Some c =
    let rows = c.args.self.now in
    let kin_of = rw c.in-Some.is at rows.kin_of in
    passed_all (Skipped (searched_of rows.section.now rows.table.lent.now) rows.words.now c.args.from c.args.to) (skipped-none c.requires.in_order)
    (λ p a b no g. let lacks : LacksKin rows.section.now (p + rows.first) c.in-Some.kin.now block_size = search rules in skip_block c.requires.within g b rows.first rows.a_word (λ q l. kin_of (get_or rows.section.now (p + rows.first + q) 0) ∙ lacks q l)) c.pass_blocks.ensures
