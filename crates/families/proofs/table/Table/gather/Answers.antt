use Rattle.std.proofs.Common.{◌+◌, sym, subst, arith}
use Rattle.families.specs.Kin.{Gathered}
use Rattle.families.proofs.KinLaws.{gather_none, gather_on, gather_more}
use Rattle.families.proofs.table.Table.gather.Goals as goal

pub loop-i-init : goal.loop-i-init
loop-i-init c =
    (omega arith, omega arith, subst (λ kin. Gathered c.args.self.now.lent.now c.args.family kin 1) (sym c.clear.ensures) gather_none)

pub loop-i-preserved : goal.loop-i-preserved
loop-i-preserved c =
    let n = c.in-Some.ensures in
    let more = gather_more (gather_on c.loop-i.invariant.2 n.passed) (omega (arith, n.passed.not_before)) n.has in
    (omega arith, omega (arith, n.in_table), subst (λ kin. Gathered c.args.self.now.lent.now c.args.family kin (c.in-Some.i + 1)) (sym c.push.ensures) more)

pub returns : goal.returns
returns c = λ e. gather_on c.loop-i.invariant.2 c.in_default.ensures
