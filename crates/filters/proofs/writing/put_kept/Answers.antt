-- The includes, the excludes after them, and the header in front, by how far the two came.
use Rattle.filters.proofs.WritingLaws.{includes-at, excludes-at, kept-ends, put_whole}
use Rattle.filters.proofs.writing.put_kept.Goals as goal

pub put_includes-excludes-requires : goal.put_includes-excludes-requires
put_includes-excludes-requires g c = includes-at (g.K.Keeper.keeping c.args.keeper) c.requires c.joins.ensures

pub put_excludes-end-requires : goal.put_excludes-end-requires
put_excludes-end-requires g c = excludes-at (g.K.Keeper.keeping c.args.keeper) c.requires c.joins.ensures c.put_includes-excludes.ensures

pub close_match-requires : goal.close_match-requires
close_match-requires g c =
    kept-ends (g.K.Keeper.keeping c.args.keeper) c.requires c.joins.ensures c.put_includes-excludes.ensures c.put_excludes-end.ensures

pub returns : goal.returns
returns g c w =
    put_whole (g.K.Keeper.keeping c.args.keeper) w c.joins.ensures c.put_includes-excludes.ensures c.put_excludes-end.ensures c.close_match.ensures
