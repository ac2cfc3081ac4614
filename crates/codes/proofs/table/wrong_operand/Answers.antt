use Rattle.std.proofs.Common.{not, rules}
use Rattle.model.specs.Checks.{operand_fits, wrong_operand}
use Rattle.model.specs.Selection.{kind_at, operand_at}
use Rattle.codes.proofs.table.wrong_operand.Goals as goal

pub returns : goal.returns
unfolding wrong_operand
returns c =
    let s = c.args.selection.now in
    c.first_failing.ensures (λ place. not (operand_fits (kind_at s place) (operand_at s place))) (λ place failed low high post. search rules)
