use Rattle.std.proofs.Common.{rules, sym, ap, not, ◌∙◌}
use borrow.Author.Tests.{tests}
use Rattle.model.proofs.YesLaws.{yes_kept}
use Rattle.strings.specs.Strings.{strs_at}
use Rattle.strings.proofs.PackedLaws.{any_of_strs}
use Rattle.filter_yes.specs.Gives.{match_at}
use Rattle.filter_yes.proofs.kept.KeptAsked.gives_yes.Goals as goal

pub returns-then-keeps : goal.returns-then-keeps
returns-then-keeps g c =
    let k = g.K.Keeper.keeping c.args.self.0 in
    let stays = any_of_strs (k.stays (strs_at c.args.includes.now)) _ _ _ c.any.ensures.ran c.strings_in.ensures (λ x b q f. search (rules, tests)) in
    ap not stays ∙ sym (rw (sym c.keeps.ensures ∙ c.if-keeps.true) at (yes_kept k (match_at c.args.includes.now c.args.excludes.now)))

pub returns-else-keeps : goal.returns-else-keeps
returns-else-keeps g c =
    let k = g.K.Keeper.keeping c.args.self.0 in
    c.if-keeps.false ∙ sym (rw (sym c.keeps.ensures ∙ c.if-keeps.false) at (yes_kept k (match_at c.args.includes.now c.args.excludes.now)))
