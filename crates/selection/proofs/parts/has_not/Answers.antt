use Prim.Native.Nat.{◌-◌}
use Rattle.std.proofs.Common.{◌+◌, ◌∙◌, refl, rules}
use Rattle.std.proofs.lemmas.Iterator.{YieldsList-from_range}
use Rattle.std.proofs.lemmas.Iterator.Search.{any_from_yields_List}
use borrow.Author.Tests.{tests}
use Rattle.model.specs.Kinds.{shape_at}
use Rattle.model.specs.Parts.{is_not_code}
use Rattle.selection.specs.PartCodes.{part_codes}
use Rattle.selection.proofs.CodeLoopsLaws.{any_not}
use Rattle.selection.proofs.parts.has_not.Goals as goal

pub returns : goal.returns
unfolding part_codes
returns c =
    let at = shape_at c.args.selection.now in
    let before = c.part_start-before.result in
    any_from_yields_List (λ p. is_not_code (at (p + 1))) _ _ _ c.any.ensures.ran (YieldsList-from_range before c.args.place (c.args.place - before) refl refl) (λ x b q k. search (rules, tests))
    ∙ any_not at before (c.args.place - before)
    ∙ rw c.part_start-before.ensures
