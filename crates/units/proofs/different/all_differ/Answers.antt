use Rattle.std.proofs.Common.{sym, ap, ◌∙◌}
use Rattle.model.specs.Section.{section_of}
use Rattle.units.proofs.UnitsLaws.{both_tests, too_few, enough, differ_none, differ_here, differ_later}
use Rattle.units.proofs.different.all_differ.Goals as goal

pub returns-then-strs-lt4 : goal.returns-then-strs-lt4
returns-then-strs-lt4 g c = too_few (g.U.Unit.unit_in (section_of c.args.section.now)) c.args.strs.now c.if-strs-lt4.true

pub returns-then-not-differs : goal.returns-then-not-differs
returns-then-not-differs g c =
    let unit = g.U.Unit.unit_in (section_of c.args.section.now) in
    let fails = differ_here unit _ _ (rw c.as_slice.ensures at (sym c.differs.ensures ∙ c.if-not-differs.true)) in
    enough unit c.args.strs.now c.if-strs-lt4.false (sym fails ∙ ap (both_tests unit) (sym c.in-Some.ensures.steps) ∙ c.loop-s.invariant)

pub loop-s-preserved : goal.loop-s-preserved
loop-s-preserved g c =
    let unit = g.U.Unit.unit_in (section_of c.args.section.now) in
    let passes = differ_later unit _ _ (rw c.as_slice.ensures at (sym c.differs.ensures ∙ c.if-not-differs.false)) in
    sym passes ∙ ap (both_tests unit) (sym c.in-Some.ensures.steps) ∙ c.loop-s.invariant

pub returns : goal.returns
returns g c =
    let unit = g.U.Unit.unit_in (section_of c.args.section.now) in
    enough unit c.args.strs.now c.if-strs-lt4.false (differ_none unit ∙ ap (both_tests unit) (sym c.in_default.ensures.steps.0) ∙ c.loop-s.invariant)
