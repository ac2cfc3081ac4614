use mathlib.Core.Path.{refl, ◌∙◌}
use Rattle.text.proofs.LinesLaws.{later-start, later-room, later_step, later_finish}
use Rattle.text.proofs.lines.put_later_strings.Goals as goal

pub loop-i-init : goal.loop-i-init
loop-i-init c = (refl, later-start c.args.buffer.now c.args.s c.args.t c.args.n)

pub put_later_string-q-requires : goal.put_later_string-q-requires
put_later_string-q-requires c =
    later-room c.args.buffer.now c.args.s c.args.t c.args.n _ c.loop-i.invariant.1 c.loop-i-test.true c.requires.n_in_bounds

pub loop-i-preserved : goal.loop-i-preserved
loop-i-preserved c =
    (c.put_later_string-q.auto.text ∙ c.loop-i.invariant.0, later_step c.args.buffer.now c.args.s c.args.t c.args.n _ c.loop-i.invariant.1 c.loop-i-test.true c.put_later_string-q.ensures)

pub returns : goal.returns
returns c =
    later_finish c.args.buffer.now c.args.s c.args.t c.args.n _ c.loop-i.invariant.1 c.loop-i-test.false
