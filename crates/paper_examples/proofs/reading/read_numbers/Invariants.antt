-- What is put lies within the numbers, which keep their length.
use Rattle.std.proofs.Common.{◌≡◌, ◌≤◌, length}
use Rattle.paper_examples.proofs.reading.read_numbers.Given as goal

abbrev pub invariant-loop-byte : goal.invariant-loop-byte
invariant-loop-byte l = (l.read.put ≤ length l.numbers) × (length l.numbers ≡ length l.initial.numbers)
