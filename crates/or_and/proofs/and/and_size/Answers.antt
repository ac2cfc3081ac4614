-- The sizes of a product are the products of its sides' sizes (and-sizes).
use mathlib.Core.Path.{◌∙◌}
use Rattle.or_and.proofs.AndLaws.{and-sizes}
use Rattle.or_and.proofs.and.and_size.Goals as goal

pub returns : goal.returns
returns c w =
    c.sized.ensures
    ∙ and-sizes w c.size_at-left.ensures.matches c.size_at-right.ensures.matches c.size_at-left.ensures.strings c.size_at-right.ensures.strings
