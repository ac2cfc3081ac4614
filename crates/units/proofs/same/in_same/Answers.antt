-- The unit that the definition takes, without includes and with them.
use Rattle.std.proofs.Common.{sym, ap, ◌∙◌}
use Rattle.model.specs.Rules.{in_unit_for}
use Rattle.model.specs.Section.{section_of}
use Rattle.strings.specs.Strings.{str_packed, strs_at}
use Rattle.units.proofs.UnitsLaws.{unit_held}
use Rattle.units.proofs.same.in_same.Goals as goal

pub returns : goal.returns
unfolding in_unit_for
returns g c =
    let unit = g.U.Unit.unit_in (section_of c.args.section.now) in
    let first = ap (λ p. unit (str_packed p).start) c.unwrap_or-first.ensures in
    let held = c.units_of-unit.ensures.first_value ∙ first ∙ unit_held unit c.args.s (strs_at c.args.strs.now) _ _ (rw c.strings_in.ensures at c.next.ensures.steps) in
    rw (sym held, sym c.units_of.ensures.first_value, sym c.units_of.ensures.last_value) c.in_one.ensures
