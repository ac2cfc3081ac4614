-- The length by the header is the list's own, so that the numbers copied are the list's.
use native.Mathlib.Omega.{arith}
use mathlib.Core.Path.{refl}
use Rattle.store.proofs.PutLaws.{put_copy}
use Rattle.store.proofs.SlotsLaws.{length-slot-held}
use Rattle.store.proofs.slots.copy_slot_down.Goals as goal

pub returns : goal.returns
returns c w =
    (put_copy (omega (arith, c.slot_end-end.ensures, length-slot-held w.slot)) refl (omega (arith, w.slot.holds.within, c.requires.slot_size_bound)) w.slot.holds
    c.copy_within.ensures.after).wrote
