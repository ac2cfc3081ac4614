-- Invariant: from c back, with so many trees to find, the walk ends where the whole walk does.
use Rattle.std.proofs.Common.{◌≡◌, ◌≤◌, ◌+◌}
use Rattle.model.specs.Kinds.{shape_at}
use Rattle.model.specs.Parts.{part_start, scan_back}
use Rattle.selection.proofs.parts.part_start.Given as goal

abbrev pub invariant-loop-c : goal.invariant-loop-c
invariant-loop-c l = (l.trees + l.c ≤ l.place + 1) × (scan_back (shape_at l.selection) l.c l.trees ≡ part_start (shape_at l.selection) l.place)
