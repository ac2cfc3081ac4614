-- A pass over all strings moves a position as one over the chosen strings does.
use Rattle.std.proofs.Common.{rules, ◌∙◌}
use Rattle.strings.specs.Covering.{passed}
use Rattle.strings.specs.Strings.{strs_at}
use Rattle.strings.proofs.CoveringLaws.{fold_advanced}
use Rattle.strings.proofs.PackedLaws.{fold_strs}
use Rattle.strings.proofs.covering.advance.Goals as goal

pub returns : goal.returns
returns c =
    fold_strs (λ p. p.0) (passed c.args.which) _ _ c.fold.ensures.ran c.strings_in.ensures (λ a x b q k. search rules)
    ∙ fold_advanced c.args.which c.args.p.0 (strs_at c.args.strs.now)
