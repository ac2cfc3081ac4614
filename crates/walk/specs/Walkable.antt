-- What the walk of a part requires.
use Rattle.std.specs.Prelude.{ℕ, ◌≤◌, List, length}
use Rattle.model.specs.Accepted.{AcceptedSection, AcceptedFamilies, AcceptedSelection}
use Rattle.model.specs.Kinds.{shape_at}
use Rattle.model.specs.Limits.{work_length}
use Rattle.model.specs.Parts.{PartAt}
use Rattle.model.specs.Section.{size}

-- the part of an accepted selection that ends at hi, and memory enough to build what is to be built of it
-- A clause, not a type: it speaks of the inputs and of memory that is lent to be written.
pub record Walkable (section families selection mem : List ℕ) (hi : ℕ) : Type 0 where
  pub in_section : AcceptedSection section
  pub in_families : AcceptedFamilies families
  pub in_selection : AcceptedSelection selection
  pub part : PartAt (shape_at selection) hi
  pub up_to : hi ≤ size selection
  pub room : work_length ≤ length mem
