-- There is a find exactly where there is a next start (starts-some).
use Rattle.std.proofs.Common.{◌∙◌}
use Rattle.model.specs.Families.{searched_of}
use Rattle.phrase.proofs.StartsLaws.{starts-some}
use Rattle.phrase.proofs.is_found_by_families.Goals as goal

pub returns : goal.returns
returns c rank =
    c.is_some.ensures ∙ starts-some (searched_of c.args.section.now c.args.families.now) c.args.words.now c.next_start.result rank c.next_start.ensures.next
