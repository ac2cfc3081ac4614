-- Invariant: the first i numbers are put, and the slice has kept its length.
use mathlib.Core.Path.{◌≡◌}
use lib.ListN.{length, take}
use lib.Seq.{sets}
use Rattle.text.specs.Input.{numbers_of}
use Rattle.text.proofs.reading.read_numbers.Given as goal

abbrev pub invariant-loop-i : goal.invariant-loop-i
invariant-loop-i l = (l.numbers ≡ sets l.initial.numbers 0 (take l.i (numbers_of l.bytes))) × (length l.numbers ≡ length l.initial.numbers)
