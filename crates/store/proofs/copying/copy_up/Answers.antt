use Prim.Native.Nat.{◌-◌}
use native.Mathlib.Omega.{arith}
use mathlib.Core.Logic.{inr}
use mathlib.Core.Path.{◌∙◌}
use lib.ListN.{length-set}
use Rattle.store.proofs.MemoryLaws.{copy_more, copy_all}
use Rattle.store.proofs.copying.copy_up.Goals as goal

pub loop-i-preserved : goal.loop-i-preserved
loop-i-preserved c =
    let part = c.args.part in
    let more = copy_more c.args.mem.now part.start c.args.to (part.end - part.start) (omega (arith, c.requires)) (inr (omega (arith, c.requires))) c.loop-i.i c.loop-i-test.true in
    (rw c.loop-i.invariant.0 more, simp length-set c.loop-i.invariant.1)

pub returns : goal.returns
returns c =
    let part = c.args.part in
    c.loop-i.invariant.0
    ∙ copy_all c.args.mem.now part.start c.args.to (part.end - part.start) (omega (arith, c.requires)) (inr (omega (arith, c.requires))) c.loop-i.i (omega arith) c.requires.room
