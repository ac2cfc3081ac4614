-- The includes and the excludes after them are the strings of the match, few enough for a header to hold both counts (JoinedLaws).
use Rattle.occurs.proofs.JoinedLaws.{includes-at, excludes-at, ends, whole}
use Rattle.occurs.proofs.choices.OfSize.put_joined.Goals as goal

pub put_includes-excludes-requires : goal.put_includes-excludes-requires
put_includes-excludes-requires c = includes-at c.requires

pub put_excludes-end-requires : goal.put_excludes-end-requires
put_excludes-end-requires c =
    excludes-at c.requires c.put_includes-excludes.ensures

pub close_match-requires : goal.close_match-requires
close_match-requires c =
    ends c.requires c.put_includes-excludes.ensures c.put_excludes-end.ensures

pub returns : goal.returns
returns c w =
    whole w c.put_includes-excludes.ensures c.put_excludes-end.ensures c.close_match.ensures
