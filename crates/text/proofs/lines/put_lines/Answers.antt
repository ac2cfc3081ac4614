use native.Mathlib.Omega.{arith}
use mathlib.Core.Path.{refl, ◌∙◌}
use Rattle.text.proofs.LinesLaws.{lines_start, lines_here, lines_room, lines_step, lines_finish}
use Rattle.text.proofs.lines.put_lines.Goals as goal

pub loop-i-init : goal.loop-i-init
loop-i-init c = (refl, lines_start c.requires.lines_at)

pub overflow_cast-strings : goal.overflow_cast-strings
overflow_cast-strings c = omega (arith, lines_here c.loop-i.invariant.1 c.loop-i-test.true)

pub put_line-q-requires : goal.put_line-q-requires
put_line-q-requires c = record { strings_at = lines_here c.loop-i.invariant.1 c.loop-i-test.true; n_in_bounds = lines_room c.loop-i.invariant.1 c.loop-i-test.true c.requires.n_in_bounds }

pub overflow_add-span : goal.overflow_add-span
overflow_add-span c =
    omega (arith, lines_here c.loop-i.invariant.1 c.loop-i-test.true)

pub overflow_add-tag : goal.overflow_add-tag
overflow_add-tag c =
    omega (arith, lines_here c.loop-i.invariant.1 c.loop-i-test.true)

pub loop-i-preserved : goal.loop-i-preserved
loop-i-preserved c =
    (c.put_line-q.auto.text ∙ c.loop-i.invariant.0, lines_step c.loop-i.invariant.1 c.loop-i-test.true c.put_line-q.ensures)

pub returns : goal.returns
returns c = lines_finish c.loop-i.invariant.1 c.loop-i-test.false
