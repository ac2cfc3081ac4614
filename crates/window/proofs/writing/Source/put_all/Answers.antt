use Prim.Native.Nat.{◌+◌, ◌/◌, ◌<◌}
use Rattle.model.specs.Limits.{radix}
use native.Mathlib.Omega.{arith}
use mathlib.Core.Path.{refl}
use borrow.Author.Rules.{rules}
use Rattle.window.proofs.WindowsLaws.{each_start, each-window, each_next, each-end}
use Rattle.window.proofs.writing.Source.put_all.Goals as goal
use Rattle.window.proofs.writing.Source.put_all.Goals.{In-loop-last}

-- the window in hand is before the end
lt : (c : In-loop-last) → c.loop-last.last < c.args.self.join.span / radix + c.args.self.n
lt c = omega (arith, c.loop-last-test.true, c.start.ensures)

pub loop-last-init : goal.loop-last-init
loop-last-init c = (refl, λ w. each_start w c.end-last.ensures refl)

pub put_window-next-requires : goal.put_window-next-requires
put_window-next-requires c =
    each-window c.requires (c.loop-last.invariant.1 c.requires) (omega (arith, c.loop-last-test.true, c.start.ensures))

pub loop-last-preserved : goal.loop-last-preserved
loop-last-preserved c = (
  search rules,
  λ w.
      let g = c.loop-last.invariant.1 w in
      let h = lt (goal.at.loop-last-preserved c).In-loop-last in
      each_next w g h (c.put_window-next.ensures (each-window w g h)),
)

pub returns : goal.returns
returns c w = each-end w (c.loop-last.invariant.1 w) (omega (arith, w.source.size)) (omega (arith, c.loop-last-test.false, c.start.ensures))
