-- Before each operand: the level is the codes written and then a turn, for any rule that the operand reads as. Measure: the bytes left.
use Rattle.std.proofs.Common.{◌≡◌, ℕ, ◌+◌, ◌<◌, ◌≤◌, true}
use Rattle.model.specs.Limits.{max_text}
use Rattle.grammar.specs.Grammar.{Rule}
use Rattle.lent_text.specs.State.{left}
use Rattle.flat_rules.specs.Answers.{Answers}
use Rattle.reader.proofs.LevelsLaws.{Turns}
use Rattle.reader.proofs.rules.level.Given as goal

abbrev pub invariant-loop-operand : goal.invariant-loop-operand
invariant-loop-operand g l =
    (left l.reader ≤ left l.fn.reader)
    × (l.more ≡ true → l.reader.codes.count + left l.reader < max_text)
    × ((rule : ℕ → Rule) → ((x : _) (r : _) (y : _) → left x.now ≤ left l.fn.reader → goal.F-post g l.operand x r y → Answers rule x.now y.now r)
    → Turns l.pair rule l.fn.reader l.reader l.more)

abbrev pub decreases-loop-operand : goal.decreases-loop-operand
decreases-loop-operand g l = left l.reader
