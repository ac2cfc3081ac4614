-- The matches after the header, whole.
use native.Mathlib.Omega.{arith}
use mathlib.Core.Path.{refl}
use Rattle.store.proofs.LentLaws.{whole_read, whole-stream}
use Rattle.store.proofs.SlotsLaws.{slot-stream}
use Rattle.store.proofs.lent.matches_of.Goals as goal

pub invariant_of-result : goal.invariant_of-result
invariant_of-result c = whole-stream (slot-stream c.requires.slot _ _ refl c.slot_end.ensures)

pub returns : goal.returns
returns c w = whole_read (whole-stream (slot-stream w.slot _ _ refl c.slot_end.ensures)) _ (omega arith)
