-- Laws of lent slices.
use Prim.Native.Nat.{ℕ, ◌+◌, ◌*◌, ◌≤◌}
use mathlib.Core.Path.{◌≡◌}
use mathlib.Core.Bool.{true, ◌&&◌}
use mathlib.Core.List.{List}
use lib.Dec.{leb, eqb}
use lib.ListN.{length}
use borrow.Author.Tests.{leb-true, eqb-true}
use Rattle.model.specs.Section.{size, well_sized}
use Rattle.model.proofs.TestsLaws.{both_true}

-- ---- well_sized

pub record WellSized (least most : ℕ) (lent : List ℕ) : Type 0 where
  pub at_least : least ≤ size lent
  pub at_most : size lent ≤ most
  pub long : length lent ≡ 1 + 2 * size lent

pub well_sized_lem : (least most : ℕ) (lent : List ℕ) → well_sized least most lent ≡ true → WellSized least most lent
unfolding well_sized
well_sized_lem least most lent h =
    let a = both_true (leb least (size lent) && leb (size lent) most) (eqb (length lent) (1 + 2 * size lent)) h in
    let b = both_true (leb least (size lent)) (leb (size lent) most) a.0 in
    record { at_least = leb-true _ _ b.0; at_most = leb-true _ _ b.1; long = eqb-true _ _ a.1 }
