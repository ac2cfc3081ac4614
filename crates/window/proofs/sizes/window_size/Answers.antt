use mathlib.Core.Path.{◌∙◌}
use Rattle.window.proofs.SizesLaws.{size-start, size-item, size-next, size-over, size-end}
use Rattle.window.proofs.sizes.window_size.Goals as goal

pub loop-m-init : goal.loop-m-init
loop-m-init c = λ w. size-start _ w.slot (c.into_iter-m-iterator.ensures.into_iter_gives ∙ c.matches_of-m-items.ensures w)

pub size_with-requires : goal.size_with-requires
size_with-requires c = size-item (c.loop-m.invariant c.requires.slot_at) c.in-Some.ensures.steps c.requires.window_size

pub returns-in_err-size : goal.returns-in_err-size
returns-in_err-size c w =
    let width = c.requires.window_size in
    let g = c.loop-m.invariant w in
    let e = c.in-Some.ensures.steps in
    size-over g e width (c.size_with.ensures (size-item g e width)) c.in_err-size.was c.from_residual.ensures.0

pub loop-m-preserved : goal.loop-m-preserved
loop-m-preserved c = λ w.
    let width = c.requires.window_size in
    let g = c.loop-m.invariant w in
    let e = c.in-Some.ensures.steps in
    size-next g e width (c.size_with.ensures (size-item g e width)) c.in_ok-size.was

pub returns : goal.returns
returns c w = size-end (c.loop-m.invariant w) c.in-None.ensures.steps.0
