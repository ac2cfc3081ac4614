-- The test on the includes decides whether the match is put.
use Rattle.filters.proofs.WritingLaws.{put_nothing, kept_at, put_one}
use Rattle.filters.proofs.writing.put_filtered.Goals as goal

pub returns-then-not-keeps : goal.returns-then-not-keeps
returns-then-not-keeps g c w =
    put_nothing (g.K.Keeper.keeping c.args.keeper) w c.bounds_at-bounds.ensures (rw c.includes.ensures at c.keeps.ensures) c.if-not-keeps.true

pub put_kept-requires : goal.put_kept-requires
put_kept-requires g c =
    kept_at (g.K.Keeper.keeping c.args.keeper) c.requires c.bounds_at-bounds.ensures (rw c.includes.ensures at c.keeps.ensures) c.if-not-keeps.false

pub returns : goal.returns
returns g c w =
    put_one (g.K.Keeper.keeping c.args.keeper) w c.bounds_at-bounds.ensures (rw c.includes.ensures at c.keeps.ensures) c.if-not-keeps.false c.put_kept.ensures
