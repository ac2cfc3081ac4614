-- The checks refuse, or the walk of the whole selection decides.
use mathlib.Core.Path.{refl, ap}
use lib.ListN.{length}
use Rattle.model.specs.Answers.{quick_values}
use Rattle.calls.proofs.QuickLaws.{checks_refuse, ready, walk-answers}
use Rattle.calls.proofs.quick.Goals as goal

pub returns-in_default : goal.returns-in_default
returns-in_default c =
    let refused = checks_refuse c.args.section.now c.args.families.now c.args.selection.now (length c.args.work.now) c.check_quick-checked.ensures c.unwrap_err.ensures in
    record { value = refused; result_value = ap quick_values refused }

pub walk-requires : goal.walk-requires
walk-requires c =
    let told = c.check_quick-checked.ensures in
    let accepted = c.in-Ok.is in
    ready c.args.section.now c.args.families.now c.args.selection.now (length c.args.work.now) told accepted c.args.work.now refl

pub returns : goal.returns
returns c =
    let told = c.check_quick-checked.ensures in
    let accepted = c.in-Ok.is in
    let w = ready c.args.section.now c.args.families.now c.args.selection.now (length c.args.work.now) told accepted c.args.work.now refl in
    let walked = walk-answers c.args.section.now c.args.families.now c.args.selection.now (length c.args.work.now) told accepted w (c.walk.ensures w) in
    record { value = walked; result_value = ap quick_values walked }
