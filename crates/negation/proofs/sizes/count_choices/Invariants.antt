-- Invariant: the count is at most the ceiling, and times the choices from the matches left it is, capped, the number of choices from all (Counting).
use Prim.Native.Nat.{◌≤◌}
use Rattle.store.specs.Slot.{SlotAt}
use Rattle.negation.specs.Sizes.{ceiling}
use Rattle.negation.proofs.SizesLaws.{Counting}
use Rattle.negation.proofs.sizes.count_choices.Given as goal

abbrev pub invariant-loop-m : goal.invariant-loop-m
invariant-loop-m l = (l.total ≤ ceiling) × ((w : SlotAt l.fn.mem l.fn.src) → Counting w.list l.m-iterator l.total)
