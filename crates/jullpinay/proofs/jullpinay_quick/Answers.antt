-- The call's answer is the engine's, and is put down as it is.
use mathlib.Core.Path.{sym}
use Rattle.jullpinay.proofs.jullpinay_quick.Goals as goal

pub returns : goal.returns
returns c = record { value = rw (sym c.quick-quick.ensures.value) c.put_quick.ensures.value; answer_after = rw (sym c.quick-quick.ensures.value) c.put_quick.ensures.answer_after }
