-- No entry of the blocks passed has the family; the first of those from there on that has it is the next.
use Rattle.std.proofs.Common.{◌≡◌, ◌+◌, rules, get_or}
use borrow.Author.Tests.{tests}
use Rattle.std.proofs.lemmas.Iterator.{first_from_Range}
use Rattle.slices.proofs.BlocksLaws.{passed_all}
use Rattle.families.specs.Entries.{PassedBy}
use Rattle.families.proofs.EntriesLaws.{passed_none, passed_block, next_from}
use Rattle.families.proofs.table.Table.next_member.Goals as goal

pub returns : goal.returns
returns c =
    let lent = c.args.self.now.lent.now in
    let m = c.size-m.result in
    let passed = passed_all (PassedBy lent c.args.family c.args.from) (passed_none c.requires) (λ p a b no g. passed_block c.size-m.ensures.is g b (search rules)) c.pass_blocks-begin.ensures in
    let found = first_from_Range _ _ _ c.find.result (λ i. get_or lent (m + i) 0 ≡ c.args.family) (λ i. get_or lent (m + i) 0 ≡ c.args.family → ⊥) c.find.ensures.ran (λ x q k. search (rules, tests)) (λ x q k. search (rules, tests)) in
    next_from m c.size-m.ensures.is passed c.find.result found
