use Rattle.std.proofs.Common.{◌∙◌, rules}
use Rattle.model.specs.Checks.{mild_over_not, not_under_mild_not}
use Rattle.model.specs.Kinds.{shape_at}
use Rattle.selection.proofs.MildOverNotLaws.{mild_told_at, mild_told, mild-told_ends}
use Rattle.selection.proofs.PartSearchLaws.{first_told}
use Rattle.selection.proofs.not_under_mild_not.Goals as goal

pub returns : goal.returns
unfolding not_under_mild_not
returns c =
    let at = shape_at c.args.selection.now in
    c.first_failing.ensures (mild_told_at at) (λ place failed low high post. search rules)
    ∙ first_told mild_over_not c.args.selection.now c.requires (mild_told_at at) (mild_told at) (mild-told_ends at)
