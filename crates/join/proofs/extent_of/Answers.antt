use Rattle.std.proofs.Common.{rules, refl, sym, ap₂, ◌∙◌}
use Rattle.std.specs.List.{fold}
use Rattle.strings.proofs.PackedLaws.{fold_strs}
use Rattle.join.proofs.JoinLaws.{spread, extent-spread}
use Rattle.join.proofs.extent_of.Goals as goal

pub returns : goal.returns
returns c =
    let gathered = fold_strs (λ run. (run.lo.0, run.hi.0)) spread _ _ c.fold.ensures.ran refl (λ a x b q k. search rules) in
    extent-spread _ _ (sym c.strings_in-rest.ensures ∙ c.in_ok-first.ensures.steps)
    (gathered ∙ ap₂ (λ a b. fold spread (a, b) c.next.new.self) c.run.ensures.lo_value c.run.ensures.hi_value)
