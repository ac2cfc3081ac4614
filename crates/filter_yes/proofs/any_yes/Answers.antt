use Rattle.std.proofs.Common.{rules, ◌∙◌}
use borrow.Author.Tests.{tests}
use Rattle.std.proofs.lemmas.Iterator.Search.{any_from_yields_List}
use Rattle.model.specs.Matches.{is_yes}
use Rattle.strings.proofs.PackedLaws.{list_any-any_of}
use Rattle.store.proofs.LentLaws.{yields_matches}
use Rattle.filter_yes.proofs.any_yes.Goals as goal

pub returns : goal.returns
returns g c w =
    any_from_yields_List (λ m. is_yes (g.A.Asked.gives c.args.asked m)) _ _ _ c.any.ensures.ran (yields_matches (c.matches_of.ensures w)) (λ x b q k. search (rules, tests))
    ∙ list_any-any_of (λ m. is_yes (g.A.Asked.gives c.args.asked m)) w.list
