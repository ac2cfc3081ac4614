-- Invariant: the choices of a to k - 1 finds are written, and total is the number of those of k (Sizing).
use mathlib.Core.Path.{◌≡◌}
use lib.ListN.{length}
use Rattle.occurs.specs.WithNot.{excess_of}
use Rattle.occurs.specs.Writing.{SizesAt}
use Rattle.occurs.proofs.ChoicesLaws.{Sizing}
use Rattle.occurs.proofs.choices.put_sizes.Given as goal

abbrev pub invariant-loop-k : goal.invariant-loop-k
invariant-loop-k l =
    (length l.mem ≡ length l.initial.mem) × ((w : SizesAt l.initial.mem l.src l.a l.fewest (excess_of l.excess) l.at) → Sizing (excess_of l.excess) w.finds l.a l.initial.mem l.at l.m l.mem l.q l.k l.total)
