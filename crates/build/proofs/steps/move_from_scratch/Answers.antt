-- Where the list is made it lies in the slot to build in (scratch-slot), and once copied it waits after the rest.
use Rattle.std.proofs.Common.{◌≡◌, sym, ◌∙◌}
use Rattle.store.proofs.SlotsLaws.{the-error}
use Rattle.build.proofs.StepsLaws.{scratch-slot, scratch-below, scratch-copied, scratch-long}
use Rattle.build.proofs.steps.move_from_scratch.Goals as goal

pub returns-in_err-size : goal.returns-in_err-size
returns-in_err-size c w =
    let same : c.from_residual.result ≡ c.args.built = the-error c.from_residual.result c.from_residual.ensures.0 ∙ sym c.in_err-size.was in
    rw same (scratch-long w c.in_err-size.was)

pub copy_slot_down-requires : goal.copy_slot_down-requires
copy_slot_down-requires c = record { slot_at = scratch-slot c.requires c.in_ok-size.was; slot_size_bound = scratch-below c.requires }

pub returns : goal.returns
returns c w = rw (← c.in_ok-size.was) (scratch-copied w c.in_ok-size.was c.copy_slot_down.ensures)
