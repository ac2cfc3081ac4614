-- A refusal can be printed whatever the buffer holds.
use Rattle.std.proofs.Common.{[]}
use Rattle.model.specs.declared.Reason.TheVariants.{WrongSection}
use Rattle.model.proofs.SetsLaws.{take-written}
use Rattle.model.specs.Checks.{refusal}
use Rattle.model.specs.declared.Listing.TheVariants.{Refused}
use Rattle.text.specs.Printable.{Printable}
use Rattle.ftlist.proofs.run.print_refusal.Goals as goal

pub returns-clause-text_after : goal.returns-clause-text_after
returns-clause-text_after c =
    let p = c.put_listing_text.ensures in
    let w : Printable (Refused (refusal WrongSection 0)) c.args.buffer.now = record { list = []; held = tt } in
    take-written _ _ _ (p.text_after w) (p.value w) p.upper_bound
