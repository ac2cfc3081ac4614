-- The last two lists that wait are the two slots; the product is built above them all, so that the rest is as it was.
use Rattle.build.proofs.StepsLaws.{two_slots, two_unders, two_in_scratch, two_moved}
use Rattle.build.proofs.steps.build_and.Goals as goal

pub and_list-built-requires : goal.and_list-built-requires
and_list-built-requires c = record { two_slots = two_slots c.requires; slot_below = (two_unders c.requires).0; slot_below_2 = (two_unders c.requires).1 }

pub move_from_scratch-requires : goal.move_from_scratch-requires
move_from_scratch-requires c = two_in_scratch c.requires c.and_list-built.ensures

pub returns : goal.returns
returns c w = two_moved w c.and_list-built.ensures c.move_from_scratch.ensures
