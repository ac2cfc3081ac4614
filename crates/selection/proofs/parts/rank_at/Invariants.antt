-- Invariant: so many phrases are among the first c codes.
use Rattle.std.proofs.Common.{◌≡◌, ◌≤◌}
use Rattle.model.specs.Kinds.{shape_at}
use Rattle.model.specs.Selection.{up_to}
use Rattle.selection.specs.Phrases.{phrases_in}
use Rattle.selection.proofs.parts.rank_at.Given as goal

abbrev pub invariant-loop-c : goal.invariant-loop-c
invariant-loop-c l = (l.rank ≤ l.c) × (l.rank ≡ phrases_in (up_to (shape_at l.selection) l.c))
