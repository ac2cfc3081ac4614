-- Invariant: the choice is written joined with the not's matches before number d (Joining).
use mathlib.Core.Path.{◌≡◌}
use lib.ListN.{length}
use Rattle.occurs.specs.Binomial.{chosen}
use Rattle.occurs.specs.WithNot.{excess_of}
use Rattle.occurs.specs.Writing.{ChoiceAt}
use Rattle.occurs.proofs.ChoicesLaws.{Joining}
use Rattle.occurs.proofs.choices.OfSize.put_choice.Given as goal

abbrev pub invariant-loop-d : goal.invariant-loop-d
invariant-loop-d l =
    (length l.mem ≡ length l.initial.mem)
    × ((w : ChoiceAt l.initial.mem l.self.src l.self.k l.self.total l.c (excess_of l.self.excess) l.at) → Joining (excess_of l.self.excess) w.finds (chosen l.self.k w.finds l.c) l.initial.mem l.at l.n l.mem l.q l.d)
