-- The text has an error, or codes whose selection, or whose number where they are over 64, the call of document 01 is put to.
use native.Mathlib.Omega.{arith}
use mathlib.Core.Path.{refl, sym, ◌∙◌}
use lib.ListN.{length}
use lib.Seq.{length-take-le}
use Rattle.std.proofs.lemmas.Result.{err_from_is_err_and}
use Rattle.grammar.specs.Grammar.{read_text}
use Rattle.reader.proofs.SelectionsLaws.{reading_refused, reading_read}
use Rattle.engine.proofs.TypedLaws.{text-put_down, typed_room, quick_typed, quick_error, quick_codes}
use Rattle.engine.proofs.typed_quick.Goals as goal

pub slice_bounds-selection-end : goal.slice_bounds-selection-end
slice_bounds-selection-end c = omega (arith, typed_room c.in_ok-codes.codes, c.typed_size.ensures, c.read.auto.selection)

pub slice_bounds-quick-end : goal.slice_bounds-quick-end
slice_bounds-quick-end c =
    sym (length-take-le _ _ (omega (arith, typed_room c.in_ok-codes.codes, c.typed_size.ensures, c.read.auto.selection)))

pub returns-in_err-codes : goal.returns-in_err-codes
returns-in_err-codes c =
    let p = err_from_is_err_and c.from_residual.result c.from_residual.ensures.1 in
    let h = reading_refused (read_text c.args.text.now) c.read.ensures.value c.in_err-codes.was in
    let parts = quick_typed c.args.text.now c.args.section.now c.args.families.now (length c.args.work.now) (quick_error c.args.text.now c.args.section.now c.args.families.now (length c.args.work.now) h) in
    rw (p.1, p.2) (record { for_answer = parts.0; for_answer_2 = parts.1 })

pub returns : goal.returns
returns c =
    let found = reading_read (read_text c.args.text.now) c.read.ensures.value c.in_ok-codes.was in
    let seen = text-put_down c.args.text.now found.0 _ _ _ _ refl c.read.ensures.selection_after found.1 found.2 c.typed_size.ensures in
    let same = quick_codes c.args.text.now c.args.section.now c.args.families.now (length c.args.work.now) found.0 found.1 seen in
    let parts = quick_typed c.args.text.now c.args.section.now c.args.families.now (length c.args.work.now) (c.quick.ensures.value ∙ same) in
    record { for_answer = parts.0; for_answer_2 = parts.1 }
