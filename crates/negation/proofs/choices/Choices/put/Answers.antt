-- The includes and the excludes after them are the strings of the choice, one of each match, so that a header holds both counts.
use Rattle.negation.proofs.ChoicesLaws.{first, second, ends, whole}
use Rattle.negation.proofs.choices.Choices.put.Goals as goal

pub put_side-excludes-requires : goal.put_side-excludes-requires
put_side-excludes-requires c = first c.requires

pub put_side-end-requires : goal.put_side-end-requires
put_side-end-requires c = second c.requires (c.put_side-excludes.ensures (first c.requires))

pub close_match-requires : goal.close_match-requires
close_match-requires c =
    let v = c.put_side-excludes.ensures (first c.requires) in
    ends c.requires v (c.put_side-end.ensures (second c.requires v))

pub returns : goal.returns
returns c w =
    let v = c.put_side-excludes.ensures (first w) in
    whole w v (c.put_side-end.ensures (second w v)) c.close_match.ensures
