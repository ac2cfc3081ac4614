use Rattle.std.proofs.Common.{rules}
use borrow.Author.Tests.{tests}
use Rattle.strings.proofs.PackedLaws.{any_of_strs}
use Rattle.strings.proofs.covering.any_overlaps.Goals as goal

pub returns : goal.returns
returns c = any_of_strs _ _ _ _ c.any.ensures.ran c.strings_in.ensures (λ x b q k. search (rules, tests))
