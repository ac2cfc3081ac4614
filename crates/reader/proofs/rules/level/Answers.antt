-- Whatever rule the operand reads as: its error is the level's, or its codes go on with the row.
use Rattle.std.proofs.Common.{◌≤◌, ap, arith}
use Rattle.std.proofs.lemmas.Bool.{false≢true}
use Rattle.std.proofs.lemmas.Result.{err_from_is_err_and}
use Rattle.lent_text.specs.State.{left}
use Rattle.reader.proofs.LevelsLaws.{Rows, row_broken, row_step, row_stop, rows_first, rows_more, turns_fails, turns_start}
use Rattle.reader.proofs.rules.level.Goals as goal
use Rattle.reader.proofs.rules.level.Goals.{then-more, else-more}

pub loop-operand-init : goal.loop-operand-init
loop-operand-init g c = (omega arith, λ e. absurd (false≢true e), λ rule reads. turns_start c.args.pair rule c.args.reader.now)

pub returns-in_err-operand : goal.returns-in_err-operand
returns-in_err-operand g c rule reads =
    let p = err_from_is_err_and c.from_residual.result c.from_residual.ensures.1 in
    let i = c.loop-operand.invariant in
    rw (p.1, p.2) (turns_fails c.args.pair rule (i.2 rule reads) (reads _ _ _ i.0 c.in_err-operand.ensures))

pub returns-in_err-operator : goal.returns-in_err-operator
returns-in_err-operator g c rule reads =
    let p = err_from_is_err_and c.from_residual-in_err-operator.result c.from_residual-in_err-operator.ensures.1 in
    let i = c.loop-operand.invariant in
    let a = reads _ _ _ i.0 c.in_ok-operand.ensures in
    let rows : Rows c.args.pair rule c.args.reader.now c.loop-operand.reader c.if-more.reader = elim c.if-more.branch [
      | then-more w ↦ rows_more c.args.pair rule (i.2 rule reads) a w.if-more.true w.push.ensures w.reader-is
      | else-more w ↦ rows_first c.args.pair rule (i.2 rule reads) a w.if-more.false w.reader-is
    ] in
    rw (p.1, p.2) (row_broken c.args.pair rule rows c.in_err-operator.ensures)

pub returns-then-not-branch : goal.returns-then-not-branch
returns-then-not-branch g c rule reads =
    let i = c.loop-operand.invariant in
    let a = reads _ _ _ i.0 c.in_ok-operand.ensures in
    let rows : Rows c.args.pair rule c.args.reader.now c.loop-operand.reader c.if-more.reader = elim c.if-more.branch [
      | then-more w ↦ rows_more c.args.pair rule (i.2 rule reads) a w.if-more.true w.push.ensures w.reader-is
      | else-more w ↦ rows_first c.args.pair rule (i.2 rule reads) a w.if-more.false w.reader-is
    ] in
    row_stop c.args.pair rule rows (rw c.if-not-branch.true at c.in_ok-operator.ensures)

pub loop-operand-preserved : goal.loop-operand-preserved
loop-operand-preserved g c =
    let i = c.loop-operand.invariant in
    let o = rw c.if-not-branch.false at c.in_ok-operator.ensures in
    let f = c.requires.goes _ _ _ i.0 c.in_ok-operand.ensures in
    let l : left c.if-more.reader ≤ left c.operand.new.arg2 = elim c.if-more.branch [
      | then-more w ↦ omega (arith, ap left w.reader-is, w.push.ensures.left_is)
      | else-more w ↦ omega (arith, ap left w.reader-is)
    ] in (
      omega (arith, i.0, f.fewer, l, o.fewer),
      λ e. o.room,
      λ rule reads.
          let a = reads _ _ _ i.0 c.in_ok-operand.ensures in
          let rows : Rows c.args.pair rule c.args.reader.now c.loop-operand.reader c.if-more.reader = elim c.if-more.branch [
            | then-more w ↦ rows_more c.args.pair rule (i.2 rule reads) a w.if-more.true w.push.ensures w.reader-is
            | else-more w ↦ rows_first c.args.pair rule (i.2 rule reads) a w.if-more.false w.reader-is
          ] in
          row_step c.args.pair rule rows o,
    )
