-- Invariant: the lines of the first i matches are put up to q, the others' strings lie from span and tag on, and room for all is room for the next.
use mathlib.Core.Path.{◌≡◌}
use lib.ListN.{length}
use Rattle.text.proofs.LinesLaws.{Lining}
use Rattle.text.proofs.lines.put_lines.Given as goal

abbrev pub invariant-loop-i : goal.invariant-loop-i
invariant-loop-i l = (length l.text ≡ length l.initial.text) × Lining l.buffer l.c l.s l.t l.n l.initial.text l.at l.text l.span l.tag l.q l.i
