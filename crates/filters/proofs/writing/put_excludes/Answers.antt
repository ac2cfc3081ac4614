use Rattle.std.proofs.Common.{arith, refl, rules}
use Rattle.filters.proofs.WritingLaws.{stay_start, exclude-fits, stay_step, stay_finish, excludes-count}
use Rattle.filters.proofs.writing.put_excludes.Goals as goal

pub loop-i-init : goal.loop-i-init
loop-i-init g c = (refl, λ w. stay_start (g.K.Keeper.keeping c.args.keeper) w (omega arith))

pub put_exclude-q-requires : goal.put_exclude-q-requires
put_exclude-q-requires g c = exclude-fits (g.K.Keeper.keeping c.args.keeper) c.requires (c.loop-i.invariant.1 c.requires) (omega arith)

pub loop-i-preserved : goal.loop-i-preserved
loop-i-preserved g c = (
  search rules,
  λ w. stay_step (g.K.Keeper.keeping c.args.keeper) w (c.loop-i.invariant.1 w) (omega arith) (omega arith) c.put_exclude-q.ensures,
)

pub returns : goal.returns
returns g c w = stay_finish (g.K.Keeper.keeping c.args.keeper) w (c.loop-i.invariant.1 w) (omega (arith, excludes-count w))
