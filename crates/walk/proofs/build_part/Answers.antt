-- The part is built from its start with its first phrase's rank.
use Rattle.walk.proofs.PartsLaws.{rank-few, buildable}
use Rattle.selection.specs.Phrases.{phrases_in}
use Rattle.model.specs.Kinds.{shape_at}
use Rattle.model.specs.Selection.{up_to}
use Prim.Native.Nat.{ℕ}
use native.Mathlib.Omega.{arith}
use mathlib.Core.Path.{ap}
use Rattle.walk.proofs.build_part.Goals as goal

pub overflow_add-before : goal.overflow_add-before
overflow_add-before c =
    omega (arith, rank-few c.requires.walkable, c.rank_at-before.ensures, ap (λ (l : ℕ). phrases_in (up_to (shape_at c.args.inputs.now.selection.now) l)) c.requires.lo_value, c.requires.walkable.up_to, c.requires.walkable.in_selection.few)

pub build-requires : goal.build-requires
build-requires c = buildable c.requires.walkable c.requires.lo_value c.rank_at-before.ensures

pub returns : goal.returns
returns c w = c.build.ensures (buildable w c.requires.lo_value c.rank_at-before.ensures)
