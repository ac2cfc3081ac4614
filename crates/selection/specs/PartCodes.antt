-- The codes of a part.
use Rattle.std.specs.Prelude.{ℕ, ◌+◌, ◌-◌, List}
use Rattle.model.specs.Kinds.{Shape}
use Rattle.model.specs.Parts.{part_start}
use Rattle.model.specs.Selection.{up_to}

-- the codes of the part that ends at a place
unfoldable pub part_codes : (ℕ → Shape) → ℕ → List Shape
part_codes at hi = up_to (λ i. at (part_start at hi + i)) (hi - part_start at hi)
