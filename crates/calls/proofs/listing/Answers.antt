-- The checks refuse, or building does, or the list lies in the first slot and is put in the buffer.
use mathlib.Core.Path.{refl, ap}
use lib.ListN.{length}
use Rattle.model.specs.Answers.{listing_values}
use Rattle.calls.proofs.ListingLaws.{checks_refuse, ready, building_refuses, slot, built_lists, buffer_enough}
use Rattle.calls.proofs.listing.Goals as goal

pub returns-in_default : goal.returns-in_default
returns-in_default c =
    let refused = checks_refuse c.args.section.now c.args.families.now c.args.selection.now (length c.args.work.now) c.args.buffer.now c.check_listing-checked.ensures c.unwrap_err.ensures in
    record { value = refused.0; result_value = ap listing_values refused.0; buffer_after = refused.1 }

pub build-requires : goal.build-requires
build-requires c =
    let told = c.check_listing-checked.ensures in
    let accepted = c.in-Ok.is in
    ready c.args.section.now c.args.families.now c.args.selection.now (length c.args.work.now) c.args.buffer.now told accepted c.args.work.now refl

pub returns-in-Err : goal.returns-in-Err
returns-in-Err c =
    let told = c.check_listing-checked.ensures in
    let accepted = c.in-Ok.is in
    let w = ready c.args.section.now c.args.families.now c.args.selection.now (length c.args.work.now) c.args.buffer.now told accepted c.args.work.now refl in
    let built = c.build.ensures w in
    let refused = building_refuses c.args.section.now c.args.families.now c.args.selection.now (length c.args.work.now) c.args.buffer.now told accepted w built c.in-Err.is in
    record { value = refused.0; result_value = ap listing_values refused.0; buffer_after = refused.1 }

pub listed-requires : goal.listed-requires
listed-requires c =
    let told = c.check_listing-checked.ensures in
    let accepted = c.in-Ok.is in
    let w = ready c.args.section.now c.args.families.now c.args.selection.now (length c.args.work.now) c.args.buffer.now told accepted c.args.work.now refl in
    let built = c.build.ensures w in
    let s = slot c.args.section.now c.args.families.now c.args.selection.now (length c.args.work.now) c.args.buffer.now told accepted w built c.in-Ok-build.is in
    record { slot_at = record { list = _; slot = s }; buffer_length_in_bounds = buffer_enough c.args.section.now c.args.families.now c.args.selection.now (length c.args.work.now) c.args.buffer.now told accepted }

pub returns-in-Ok-build : goal.returns-in-Ok-build
returns-in-Ok-build c =
    let told = c.check_listing-checked.ensures in
    let accepted = c.in-Ok.is in
    let w = ready c.args.section.now c.args.families.now c.args.selection.now (length c.args.work.now) c.args.buffer.now told accepted c.args.work.now refl in
    let built = c.build.ensures w in
    let given = built_lists c.args.section.now c.args.families.now c.args.selection.now (length c.args.work.now) c.args.buffer.now told accepted w built c.in-Ok-build.is c.listed.ensures.value c.listed.ensures.buffer_after in
    record { value = given.0; result_value = ap listing_values given.0; buffer_after = given.1 }
