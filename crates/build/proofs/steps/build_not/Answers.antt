-- The last list that waits is the slot; the list is built above them all, so that the rest is as it was.
use Rattle.build.proofs.StepsLaws.{one-slot, one_under, one_in_scratch, one_moved}
use Rattle.build.proofs.steps.build_not.Goals as goal

pub not_list-built-requires : goal.not_list-built-requires
not_list-built-requires c = record { slot_at = one-slot c.requires; slot_below = one_under c.requires }

pub move_from_scratch-requires : goal.move_from_scratch-requires
move_from_scratch-requires c = one_in_scratch c.requires c.not_list-built.ensures

pub returns : goal.returns
returns c w = one_moved w c.not_list-built.ensures c.move_from_scratch.ensures
