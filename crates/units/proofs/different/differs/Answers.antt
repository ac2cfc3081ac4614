use Rattle.std.proofs.Common.{rules, sym, ◌≡◌, true, ◌∙◌}
use borrow.Author.Tests.{tests}
use Rattle.model.specs.Rules.{units_nonzero, units_apart}
use Rattle.model.specs.Section.{section_of}
use Rattle.strings.specs.Strings.{str_packed}
use Rattle.strings.proofs.PackedLaws.{all_of_strs}
use Rattle.units.proofs.different.differs.Goals as goal

pub returns-then-all_nonzero : goal.returns-then-all_nonzero
returns-then-all_nonzero g c =
    let unit = g.U.Unit.unit_in (section_of c.args.section.now) in
    let first = sym c.units_of-own.ensures.first_value in
    let last = sym c.units_of-own.ensures.last_value in
    let nonzero : units_nonzero unit (str_packed c.args.s) ≡ true = rw (first, last) (sym c.all_nonzero.ensures ∙ c.if-all_nonzero.true) in
    rw nonzero (all_of_strs (units_apart unit (str_packed c.args.s)) _ _ _ c.all.ensures.ran c.strings_in.ensures (λ x b q k. rw (first, last) (search (rules, tests))))
