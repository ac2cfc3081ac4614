-- The last two lists that wait are the two slots; what `or` leaves at the left one waits after the rest.
use Rattle.build.proofs.StepsLaws.{two_slots, two-apart, two_pushed}
use Rattle.build.proofs.steps.build_or.Goals as goal

pub or_list-requires : goal.or_list-requires
or_list-requires c = record { two_slots = two_slots c.requires; slot_size_bound = two-apart c.requires }

pub returns : goal.returns
returns c w = two_pushed w c.or_list.ensures
