-- Invariant: what is written, and the includes of choice number rest of `left` from the finds left, are the includes of choice number c; weight is
-- the number of these choices (Including). Measure: n, the finds left. The next find is in the choices of the lower numbers.
use mathlib.Core.Path.{◌≡◌}
use lib.ListN.{length}
use Rattle.occurs.specs.Writing.{IncludesAt}
use Rattle.occurs.proofs.IncludesLaws.{Including}
use Rattle.occurs.proofs.choices.OfSize.put_includes.Given as goal

abbrev pub invariant-loop-left : goal.invariant-loop-left
invariant-loop-left l =
    (length l.mem ≡ length l.initial.mem) × ((w : IncludesAt l.initial.mem l.fn.self.src l.fn.self.k l.fn.self.total l.c l.at) → Including w.finds l.initial.mem l.fn.self.k l.c l.at l.mem l.n l.from l.q l.left l.rest l.weight)

abbrev pub decreases-loop-left : goal.decreases-loop-left
decreases-loop-left l = l.n
