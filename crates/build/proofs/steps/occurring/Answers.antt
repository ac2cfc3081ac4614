-- Each of the two has a function of its own.
use Rattle.occurs.specs.Finds.{find}
use Rattle.build.proofs.StepsLaws.{by_times}
use mathlib.Core.List.{map}
use Rattle.build.proofs.steps.occurring.Goals as goal

pub from_to_list-requires : goal.from_to_list-requires
from_to_list-requires c = record { finds_at = c.requires.finds_at; slot_below = c.requires.slot_below; a_le_b = c.requires.by_index _ _ c.in-FromTo.is }

pub at_least_list-requires : goal.at_least_list-requires
at_least_list-requires c = record { finds_at = c.requires.finds_at; slot_below = c.requires.slot_below }

pub returns-in-FromTo : goal.returns-in-FromTo
returns-in-FromTo c w = by_times c.in-FromTo.is (map find w.finds) (c.from_to_list.ensures w)

pub returns-in-AtLeast : goal.returns-in-AtLeast
returns-in-AtLeast c w = by_times c.in-AtLeast.is (map find w.finds) (c.at_least_list.ensures w)
