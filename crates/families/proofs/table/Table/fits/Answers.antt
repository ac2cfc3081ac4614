-- Equal words fit; else the families of both decide, where they have any (TableLaws).
use Rattle.std.proofs.Common.{eq-eqb, sym, ◌∙◌}
use Rattle.families.proofs.TableLaws.{fits_equal, fits_by_family, fits_none}
use Rattle.families.proofs.table.Table.fits.Goals as goal

pub returns-then-token-word : goal.returns-then-token-word
returns-then-token-word c =
    eq-eqb _ _ c.if-token-word.true ∙ sym (fits_equal c.args.self.now.lent.now c.args.token c.args.word c.if-token-word.true)

pub returns-then-is_some : goal.returns-then-is_some
returns-then-is_some c =
    c.eq.ensures ∙ fits_by_family _ _ _ c.requires c.if-token-word.false c.family_of.ensures c.if-is_some.ensures

pub returns-else-is_some : goal.returns-else-is_some
returns-else-is_some c =
    c.if-is_some.false ∙ fits_none _ _ _ c.requires c.if-token-word.false (sym c.if-is_some.ensures)
