-- Invariant: so many codes but words stand after lo up to c.
use Prim.Native.Nat.{◌+◌, ◌≤◌}
use mathlib.Core.Path.{◌≡◌}
use Rattle.model.specs.Kinds.{shape_at}
use Rattle.model.specs.Parts.{part_count}
use Rattle.model.specs.Selection.{up_to}
use Rattle.walk.proofs.count_codes.Given as goal

abbrev pub invariant-loop-c : goal.invariant-loop-c
invariant-loop-c l = (l.n + l.lo ≤ l.c) × (part_count (up_to (shape_at l.selection) l.lo) + l.n ≡ part_count (up_to (shape_at l.selection) l.c))
