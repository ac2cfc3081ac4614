-- A word that no entry has has no family; else its family is that of its entry, which lies in the table (EntriesLaws).
use Rattle.std.proofs.Common.{sym, ◌∙◌, arith}
use Rattle.families.proofs.EntriesLaws.{entry_in, family_missing, family_found}
use Rattle.families.proofs.table.Table.family_of.Goals as goal

pub returns-in_err-entry : goal.returns-in_err-entry
returns-in_err-entry c =
    c.from_residual.ensures ∙ sym (family_missing c.args.self.now.lent.now c.args.word c.entry_of.ensures c.in_err-entry.was)

pub overflow_add-result : goal.overflow_add-result
overflow_add-result c = omega (arith, entry_in c.args.self.now.lent.now c.args.word c.entry_of.ensures _ c.in_ok-entry.was, c.size.ensures.few)

pub offset_bounds-self-size : goal.offset_bounds-self-size
offset_bounds-self-size c = omega (arith, entry_in c.args.self.now.lent.now c.args.word c.entry_of.ensures _ c.in_ok-entry.was, c.size.ensures.few)

pub bounds-self-size : goal.bounds-self-size
bounds-self-size c =
    omega (arith, entry_in c.args.self.now.lent.now c.args.word c.entry_of.ensures _ c.in_ok-entry.was, c.size.ensures.is, c.args.self.now.accepted.sized)

pub returns : goal.returns
returns c =
    let found = family_found c.args.self.now.lent.now c.args.word c.entry_of.ensures _ c.in_ok-entry.was in
    rw c.size.ensures.is (sym found)
