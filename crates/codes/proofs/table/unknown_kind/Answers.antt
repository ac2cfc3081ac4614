use Rattle.std.proofs.Common.{leb, rules}
use Rattle.model.specs.Checks.{unknown_kind}
use Rattle.model.specs.Selection.{kind_at}
use Rattle.codes.proofs.table.unknown_kind.Goals as goal

pub returns : goal.returns
unfolding unknown_kind
returns c = c.first_failing.ensures (λ place. leb 18 (kind_at c.args.selection.now place)) (λ place failed low high post. search rules)
