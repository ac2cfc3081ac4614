use Rattle.std.proofs.Common.{◌∙◌, rules}
use Rattle.model.specs.Checks.{not_over_phrase, occurs_over_other}
use Rattle.model.specs.Kinds.{shape_at}
use Rattle.selection.proofs.OccursOverOtherLaws.{occurs_told_at, occurs-told, occurs-told_ends}
use Rattle.selection.proofs.PartSearchLaws.{first_told}
use Rattle.selection.proofs.not_over_phrase.Goals as goal

pub returns : goal.returns
unfolding not_over_phrase
returns c =
    let at = shape_at c.args.selection.now in
    c.first_failing.ensures (occurs_told_at at) (λ place failed low high post. search rules)
    ∙ first_told occurs_over_other c.args.selection.now c.requires (occurs_told_at at) (occurs-told at) (occurs-told_ends at)
