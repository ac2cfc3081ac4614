use Rattle.std.proofs.Common.{rules}
use borrow.Author.Tests.{tests}
use Rattle.strings.proofs.PackedLaws.{all_of_strs}
use Rattle.units.proofs.same.all_in_same.Goals as goal

pub returns : goal.returns
returns g c = all_of_strs _ _ _ _ c.all.ensures.ran c.strings_in.ensures (λ x b q k. search (rules, tests))
