-- The second array stands after the size and the first array.
use mathlib.Core.Path.{◌∙◌}
use Rattle.slices.proofs.second_at.Goals as goal

pub returns : goal.returns
returns c = c.number_at.ensures ∙ rw c.number_at-first.ensures
