-- Invariant: the first i numbers are copied, and the buffer has kept its length.
use Rattle.std.proofs.Common.{◌≡◌, length}
use Rattle.std.proofs.lemmas.List.Edits.{sets}
use Rattle.slices.specs.EverySecond.{every_second}
use Rattle.slices.proofs.copy_every_second.Given as goal

abbrev pub invariant-loop-i : goal.invariant-loop-i
invariant-loop-i l = (l.buffer ≡ sets l.initial.buffer l.q (every_second l.mem l.from l.i)) × (length l.buffer ≡ length l.initial.buffer)
