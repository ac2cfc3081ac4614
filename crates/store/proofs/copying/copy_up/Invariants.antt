-- Invariant: the first i numbers are copied. They end before their new indices, so each is read as it was.
use mathlib.Core.Path.{◌≡◌}
use lib.ListN.{length, take, drop}
use lib.Seq.{sets}
use Rattle.store.proofs.copying.copy_up.Given as goal

abbrev pub invariant-loop-i : goal.invariant-loop-i
invariant-loop-i l = (l.mem ≡ sets l.initial.mem l.to (take l.i (drop l.part.start l.initial.mem))) × (length l.mem ≡ length l.initial.mem)
