-- No distance reads a tag.
use Rattle.distance.proofs.lies_within.Goals as goal

pub returns : goal.returns
returns c = rw (← c.distance_of.ensures 0 0) c.has.ensures
