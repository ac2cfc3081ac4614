-- The slot's header has its counts.
use Rattle.calls.proofs.ListingLaws.{listed-held}
use Rattle.calls.proofs.listed.Goals as goal

pub returns : goal.returns
returns c = record { value = λ w. listed-held w.slot c.size_at-size.ensures.matches c.size_at-size.ensures.strings (c.is_yes.ensures w); buffer_after = c.put_listing.ensures }
