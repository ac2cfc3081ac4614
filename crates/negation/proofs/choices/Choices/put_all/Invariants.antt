-- Invariant: the choices before number c are written; they are the not's first matches (ChoicesLaws).
use mathlib.Core.Path.{◌≡◌}
use lib.ListN.{length}
use Rattle.negation.specs.Chosen.{ChoicesAt}
use Rattle.negation.proofs.ChoicesLaws.{Going}
use Rattle.negation.proofs.choices.Choices.put_all.Given as goal

abbrev pub invariant-loop-c : goal.invariant-loop-c
invariant-loop-c l = (length l.mem ≡ length l.initial.mem) × ((w : ChoicesAt l.initial.mem l.self.src l.self.total l.at) → Going w.list l.initial.mem l.at l.mem l.q l.c)
