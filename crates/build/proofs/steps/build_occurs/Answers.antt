-- The last list that waits is the slot, and it is a phrase's finds; the list is built above them all, so that the rest is as it was.
use Rattle.build.proofs.StepsLaws.{one_under, finds-slot, finds_in_scratch, finds_moved}
use Rattle.build.proofs.steps.build_occurs.Goals as goal

pub occurring-built-requires : goal.occurring-built-requires
occurring-built-requires c = record { by_index = c.requires.by_index; finds_at = finds-slot c.requires.finds_taken; slot_below = one_under c.requires.finds_taken.taken }

pub move_from_scratch-requires : goal.move_from_scratch-requires
move_from_scratch-requires c = finds_in_scratch c.requires.finds_taken c.occurring-built.ensures

pub returns : goal.returns
returns c w = finds_moved w c.occurring-built.ensures c.move_from_scratch.ensures
