-- A string passes with what would follow it in the sorted list, and where all do the sorted list's neighbours pass (SortingLaws).
use Rattle.std.proofs.Common.{rules, sym, ◌∙◌}
use borrow.Author.Tests.{tests}
use Rattle.distance.proofs.SortingLaws.{followed, neighbours-strings}
use Rattle.strings.proofs.StringsLaws.{span_of-str_of}
use Rattle.strings.proofs.PackedLaws.{all_of_strs}
use Rattle.distance.proofs.sorted_within.Goals as goal

pub returns : goal.returns
returns c =
    all_of_strs (followed c.args.distances.least c.args.distances.most c.args.strs.now) _ _ _ c.all.ensures.ran c.strings_in.ensures (λ x b q k. rw (span_of-str_of x.span x.tag) (search (rules, tests)))
    ∙ sym (neighbours-strings c.args.distances.least c.args.distances.most c.args.strs.now)
