-- Invariant: the choices before number c are written; choice number c stands at c in the list of choices (Choosing).
use mathlib.Core.Path.{◌≡◌}
use lib.ListN.{length}
use Rattle.occurs.specs.WithNot.{excess_of}
use Rattle.occurs.specs.Writing.{ChoicesAt}
use Rattle.occurs.proofs.ChoicesLaws.{Choosing}
use Rattle.occurs.proofs.choices.OfSize.put_all.Given as goal

abbrev pub invariant-loop-c : goal.invariant-loop-c
invariant-loop-c l =
    (length l.mem ≡ length l.initial.mem) × ((w : ChoicesAt l.initial.mem l.self.src l.self.k l.self.total (excess_of l.self.excess) l.at) → Choosing (excess_of l.self.excess) w.finds l.self.k l.initial.mem l.at l.mem l.q l.c)
