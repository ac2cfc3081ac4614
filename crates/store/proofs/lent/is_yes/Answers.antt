use borrow.Author.Rules.{rules}
use mathlib.Core.Path.{◌∙◌}
use Rattle.std.proofs.lemmas.Iterator.Search.{any_from_yields_List}
use Rattle.model.specs.Matches.{no_exclude}
use Rattle.strings.proofs.PackedLaws.{list_any-any_of}
use Rattle.store.proofs.LentLaws.{yields_matches, short-none}
use Rattle.store.proofs.lent.is_yes.Goals as goal

pub returns : goal.returns
returns c w =
    any_from_yields_List no_exclude _ _ _ c.any.ensures.ran (yields_matches (c.matches_of.ensures w)) (λ x b q k. search (rules, short-none)) ∙ list_any-any_of no_exclude w.list
