-- Invariant: the first i strings are put up to q, the others lie from s + i and t + i on, and room for all is room for the next.
use mathlib.Core.Path.{◌≡◌}
use lib.ListN.{length}
use Rattle.text.proofs.LinesLaws.{Later}
use Rattle.text.proofs.lines.put_later_strings.Given as goal

abbrev pub invariant-loop-i : goal.invariant-loop-i
invariant-loop-i l = (length l.text ≡ length l.initial.text) × Later l.buffer l.s l.t l.n l.initial.text l.at l.text l.q l.i
