use Rattle.std.proofs.Common.{rules, ◌∙◌}
use Rattle.strings.specs.declared.covering.Chosen.TheVariants.{All}
use Rattle.strings.specs.Covering.{passed}
use Rattle.strings.specs.Strings.{strs_at}
use Rattle.strings.proofs.PackedLaws.{fold_strs}
use Rattle.filter_yes.specs.Windows.{lasts_around}
use Rattle.filter_yes.proofs.WindowsLaws.{fold_taken}
use Rattle.filter_yes.proofs.windows.Windows.advance.Goals as goal

pub returns : goal.returns
returns c =
    fold_strs (λ p. p.0) (λ k s. passed All k (lasts_around c.args.self.n s)) _ _ c.fold.ensures.ran c.strings_in.ensures (λ a x b q k. search rules)
    ∙ fold_taken c.args.self.n c.args.last.0 (strs_at c.args.excludes.now)
