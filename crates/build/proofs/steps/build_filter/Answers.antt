-- The last list that waits is the slot; the list is built above them all, so that the rest is as it was.
use Rattle.build.proofs.StepsLaws.{one-slot, one_under, one_in_scratch, one_moved}
use Rattle.build.proofs.steps.build_filter.Goals as goal

pub filter_list-built-requires : goal.filter_list-built-requires
filter_list-built-requires c = record { by_index = c.requires.by_index; slot_at = one-slot c.requires.one_taken; slot_below = one_under c.requires.one_taken }

pub move_from_scratch-requires : goal.move_from_scratch-requires
move_from_scratch-requires c =
    one_in_scratch c.requires.one_taken c.filter_list-built.ensures

pub returns : goal.returns
returns c w =
    one_moved w c.filter_list-built.ensures c.move_from_scratch.ensures
