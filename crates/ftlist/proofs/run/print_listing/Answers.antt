-- What the full listing answers and leaves in the buffer can be printed, as the complete AllMatches.
use Rattle.std.proofs.Common.{◌∙◌, length}
use Rattle.model.proofs.SetsLaws.{take-written}
use Rattle.model.specs.Families.{empty_table}
use Rattle.text.proofs.ProgramLaws.{listing_printable}
use Rattle.ftlist.proofs.RunLaws.{listing_text_lem}
use Rattle.ftlist.proofs.run.print_listing.Goals as goal

pub put_listing_text-requires-clause-printable : goal.put_listing_text-requires-clause-printable
put_listing_text-requires-clause-printable c =
    let a = c.args in
    let l = c.listing-answer.ensures in
    listing_printable a.section.now empty_table a.selection.now (length a.work.now) a.buffer.now l.value l.buffer_after

pub returns-clause-text_after : goal.returns-clause-text_after
returns-clause-text_after c =
    let a = c.args in
    let l = c.listing-answer.ensures in
    let p = c.put_listing_text.ensures in
    let w = listing_printable a.section.now empty_table a.selection.now (length a.work.now) a.buffer.now l.value l.buffer_after in
    take-written _ _ _ (p.text_after w) (p.value w) p.upper_bound ∙ listing_text_lem a.section.now a.selection.now l.value c.requires.work_is c.requires.buffer_is
