-- The call's answer and buffer are the engine's, and the answer is put down as it is.
use mathlib.Core.Path.{sym}
use Rattle.jullpinay.proofs.jullpinay_listing.Goals as goal

pub returns : goal.returns
returns c = record { value = rw (sym c.listing-listing.ensures.value) c.put_listing.ensures.value; answer_after = rw (sym c.listing-listing.ensures.value) c.put_listing.ensures.answer_after; buffer_after = c.listing-listing.ensures.buffer_after }
