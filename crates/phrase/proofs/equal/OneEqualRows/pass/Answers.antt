use Rattle.std.proofs.Common.{◌≡◌, ℕ, ◌+◌, get_or, rules, subst, arith}
use Rattle.slices.specs.Blocks.{Lacks, block_size}
use Rattle.slices.proofs.BlocksLaws.{passed_all}
use Rattle.model.specs.Families.{equal_words}
use Rattle.phrase.specs.Starts.{Skipped}
use Rattle.phrase.proofs.BlocksLaws.{skip_without_word}
use Rattle.phrase.proofs.StartsLaws.{skipped-none}
use Rattle.phrase.proofs.equal.OneEqualRows.pass.Goals as goal

pub returns : goal.returns
returns c =
    let rows = c.args.self.now.rows in
    passed_all (Skipped (equal_words rows.section.now) rows.words.now c.args.from c.args.to) (skipped-none c.requires.in_order)
    (λ p a b no g.
    let here : p ≡ p + 0 = omega arith in
    let lacks : Lacks rows.section.now p (get_or rows.words.now 0 0) block_size = search rules in
    skip_without_word rows.section.now rows.words.now c.requires.within g b 0 (omega (arith, c.args.self.now.one)) (subst (λ (q : ℕ). Lacks rows.section.now q (get_or rows.words.now 0 0) block_size) here lacks)) c.pass_blocks.ensures
