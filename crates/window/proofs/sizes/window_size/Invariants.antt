-- Invariant: the windows of the matches passed are counted, within the limits. Sizes only grow, so what is too long on the way is too long as a whole.
use Rattle.store.specs.Slot.{SlotAt}
use Rattle.window.proofs.SizesLaws.{Sizing}
use Rattle.window.proofs.sizes.window_size.Given as goal

abbrev pub invariant-loop-m : goal.invariant-loop-m
invariant-loop-m l = (w : SlotAt l.fn.mem l.fn.src) → Sizing l.n w.list l.m-iterator l.size
