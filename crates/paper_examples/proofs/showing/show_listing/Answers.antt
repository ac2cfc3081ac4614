-- What the full listing answers and leaves in the buffer can be printed.
use Rattle.text.proofs.ProgramLaws.{listing_printable}
use Rattle.paper_examples.proofs.showing.show_listing.Goals as goal

pub put_listing_text-end-requires-clause-printable : goal.put_listing_text-end-requires-clause-printable
put_listing_text-end-requires-clause-printable g c =
    listing_printable c.args.section.now _ c.args.selection.now _ _ c.listing-answer.ensures.value c.listing-answer.ensures.buffer_after
