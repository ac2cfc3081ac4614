-- Where the word isn't among those of the table, no entry has it; else the entry of its place does, counted from 1 (TableLaws).
use Rattle.std.proofs.Common.{sym, ◌∙◌}
use Rattle.families.proofs.TableLaws.{entry_missing, entry_found}
use Rattle.families.proofs.table.Table.entry_of.Goals as goal

pub returns-in_err-place : goal.returns-in_err-place
returns-in_err-place c =
    let missing = entry_missing c.args.self.now.accepted c.args.word c.size-m.result c.size-m.ensures.is _ c.binary_search.ensures.position (sym c.ok.ensures.value ∙ c.in_err-place.was) in
    c.from_residual.ensures ∙ sym missing

pub returns : goal.returns
returns c =
    let found = entry_found c.args.self.now.accepted c.args.word c.size-m.result c.size-m.ensures.is _ c.binary_search.ensures.position _ (sym c.ok.ensures.value ∙ c.in_ok-place.was) in
    sym found
