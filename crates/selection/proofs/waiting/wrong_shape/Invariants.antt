-- Invariant: after the first c codes the rule goes on as it does from the start, with what waits in hand.
use Rattle.std.proofs.Common.{◌≡◌, ◌≤◌, drop}
use Rattle.model.specs.Checks.{wrong_shape}
use Rattle.model.specs.Kinds.{shape_at}
use Rattle.model.specs.Section.{size}
use Rattle.model.specs.Selection.{up_to}
use Rattle.model.specs.Waiting.{first_misfit_from}
use Rattle.selection.proofs.waiting.wrong_shape.Given as goal

abbrev pub invariant-loop-c : goal.invariant-loop-c
invariant-loop-c l = record {
  few_lists : l.waiting.lists ≤ l.c;
  few_words : l.waiting.words ≤ l.c;
  goes_on : first_misfit_from l.c (drop l.c (up_to (shape_at l.selection) (size l.selection))) l.waiting.lists l.waiting.words ≡ wrong_shape l.selection;
}
