-- Invariant: whatever test the closure makes, the search from this place on finds what the whole search finds.
use Rattle.std.proofs.Common.{ℕ, Bool, ◌≡◌, ◌≤◌}
use Rattle.model.specs.Lists.{first, from_to}
use Rattle.model.specs.Section.{size}
use Rattle.codes.proofs.places.first_failing.Given as goal

abbrev pub invariant-loop-place : goal.invariant-loop-place
invariant-loop-place g l =
    (test : ℕ → Bool)
    → ((place : ℕ) (failed : Bool) → 1 ≤ place → place ≤ size l.selection → goal.F-post g l.fails place failed → failed ≡ test place)
    → first test (from_to l.place (size l.selection)) ≡ first test (from_to 1 (size l.selection))
