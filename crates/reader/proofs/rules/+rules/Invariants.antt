-- Each rule reads as the grammar's does, since those that it calls do; all six stand here, since they call each other.
-- Measure: the bytes left, and the rule's level, since a rule reads a byte before it calls one of a higher level.
use Rattle.std.proofs.Common.{◌+◌, ◌*◌}
use Rattle.lent_text.specs.State.{left}
use Rattle.reader.proofs.rules.+rules.Given as goal

abbrev pub decreases-selection : goal.decreases-selection
decreases-selection l = left l.reader.now * 8 + 6

abbrev pub decreases-ors : goal.decreases-ors
decreases-ors l = left l.reader.now * 8 + 5

abbrev pub decreases-ands : goal.decreases-ands
decreases-ands l = left l.reader.now * 8 + 4

abbrev pub decreases-milds : goal.decreases-milds
decreases-milds l = left l.reader.now * 8 + 3

abbrev pub decreases-nots : goal.decreases-nots
decreases-nots l = left l.reader.now * 8 + 2

abbrev pub decreases-primary : goal.decreases-primary
decreases-primary l = left l.reader.now * 8 + 1
