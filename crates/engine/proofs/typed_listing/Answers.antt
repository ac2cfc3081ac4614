-- The text has an error, or codes whose selection, or whose number where they are over 64, the call of document 01 is put to.
use native.Mathlib.Omega.{arith}
use mathlib.Core.Path.{refl, sym, ◌∙◌}
use lib.ListN.{length}
use lib.Seq.{length-take-le}
use Rattle.grammar.specs.Grammar.{read_text}
use Rattle.reader.proofs.SelectionsLaws.{reading_refused, reading_read}
use Rattle.engine.proofs.TypedLaws.{text-put_down, typed_room, listing_typed, listing_error, listing_codes}
use Rattle.engine.proofs.typed_listing.Goals as goal

pub slice_bounds-selection-end : goal.slice_bounds-selection-end
slice_bounds-selection-end c = omega (arith, typed_room c.in-Ok.codes, c.typed_size.ensures, c.read.auto.selection)

pub slice_bounds-listing-end : goal.slice_bounds-listing-end
slice_bounds-listing-end c =
    sym (length-take-le _ _ (omega (arith, typed_room c.in-Ok.codes, c.typed_size.ensures, c.read.auto.selection)))

pub returns-in-Err : goal.returns-in-Err
returns-in-Err c =
    let h = reading_refused (read_text c.args.text.now) c.read.ensures.value c.in-Err.is in
    let refused = listing_error c.args.text.now c.args.section.now c.args.families.now (length c.args.work.now) c.args.buffer.now h in
    let parts = listing_typed c.args.text.now c.args.section.now c.args.families.now (length c.args.work.now) c.args.buffer.now refused.0 refused.1 in
    record { for_answer = parts.0; for_answer_2 = parts.1.0; for_answer_3 = parts.1.1 }

pub returns-in-Ok : goal.returns-in-Ok
returns-in-Ok c =
    let found = reading_read (read_text c.args.text.now) c.read.ensures.value c.in-Ok.is in
    let seen = text-put_down c.args.text.now found.0 _ _ _ _ refl c.read.ensures.selection_after found.1 found.2 c.typed_size.ensures in
    let same = listing_codes c.args.text.now c.args.section.now c.args.families.now (length c.args.work.now) c.args.buffer.now found.0 found.1 seen in
    let parts = listing_typed c.args.text.now c.args.section.now c.args.families.now (length c.args.work.now) c.args.buffer.now (c.listing.ensures.value ∙ same.0) (c.listing.ensures.buffer_after ∙ same.1) in
    record { for_answer = parts.0; for_answer_2 = parts.1.0; for_answer_3 = parts.1.1 }
