-- The includes of both, then the excludes of both, then the header before them: the joined match (put-joined).
use Rattle.or_and.proofs.AndLaws.{includes_fit, excludes_fit, joined-ends, put-joined}
use Rattle.or_and.proofs.and.put_joined.Goals as goal

pub bounds_at-l-requires : goal.bounds_at-l-requires
bounds_at-l-requires c = c.requires.pair.held_left.header

pub bounds_at-r-requires : goal.bounds_at-r-requires
bounds_at-r-requires c = c.requires.pair.held_right.header

pub copy_both-excludes-requires : goal.copy_both-excludes-requires
copy_both-excludes-requires c = includes_fit c.requires c.bounds_at-l.ensures c.bounds_at-r.ensures

pub copy_both-end-requires : goal.copy_both-end-requires
copy_both-end-requires c =
    excludes_fit c.requires c.bounds_at-l.ensures c.bounds_at-r.ensures c.copy_both-excludes.ensures

pub close_match-requires : goal.close_match-requires
close_match-requires c =
    let l = c.bounds_at-l.ensures in
    let r = c.bounds_at-r.ensures in
    joined-ends c.requires l r c.copy_both-excludes.ensures c.copy_both-end.ensures

pub returns : goal.returns
returns c w =
    let l = c.bounds_at-l.ensures in
    let r = c.bounds_at-r.ensures in
    put-joined w l r c.copy_both-excludes.ensures c.copy_both-end.ensures c.close_match.ensures
