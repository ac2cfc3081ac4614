-- The text's error is given as it is; then come the limit of 64 codes and the lent length; then the selection is copied to the front.
use native.Mathlib.Omega.{arith}
use mathlib.Core.Path.{refl, sym, ◌∙◌}
use borrow.Author.Tests.{leb-true, leb-false}
use Rattle.std.proofs.lemmas.Result.{err_from_is_err_and}
use lib.ListN.{length-take}
use lib.Seq.{length-take-le}
use Rattle.model.specs.declared.Reason.TheVariants.{ShortMemory, WrongSelection}
use Rattle.grammar.specs.Grammar.{read_text}
use Rattle.slices.proofs.RefusalsLaws.{right_from_ok, wrong_from_err}
use Rattle.reader.proofs.SelectionsLaws.{reading_refused, reading_read}
use Rattle.engine.proofs.TypedLaws.{typed_room, text-put-few, read_many, read_short, read_given, read_typed, read-error, read-codes}
use Rattle.engine.proofs.read.Goals as goal

pub returns-in_err-codes : goal.returns-in_err-codes
returns-in_err-codes c =
    let p = err_from_is_err_and c.from_residual.result c.from_residual.ensures.1 in
    let refused = read-error c.args.text.now c.args.selection.now (reading_refused (read_text c.args.text.now) c.read.ensures.value c.in_err-codes.was) in
    let parts = read_typed c.args.text.now c.args.selection.now refused in
    rw (p.1, p.2) (record { for_answer = parts.0; for_answer_2 = parts.1.0; for_answer_3 = parts.1.1 })

pub returns-in_err-refuse_unless : goal.returns-in_err-refuse_unless
returns-in_err-refuse_unless c =
    let found = reading_read (read_text c.args.text.now) c.read.ensures.value c.in_ok-codes.was in
    let wrong = wrong_from_err WrongSelection _ _ c.refuse_unless.ensures _ c.in_err-refuse_unless.was in
    let p = err_from_is_err_and c.from_residual-in_err-refuse_unless.result c.from_residual-in_err-refuse_unless.ensures.1 in
    let many = leb-false _ _ wrong.0 in
    let parts = read_typed c.args.text.now c.args.selection.now (read-codes c.args.text.now c.args.selection.now found.0 found.1 (read_many found.0 _ found.2 c.args.selection.now many)) in
    rw (p.1, p.2, wrong.1) (record { for_answer = parts.0; for_answer_2 = parts.1.0; for_answer_3 = parts.1.1 })

pub returns-in_err-refuse_unless-2 : goal.returns-in_err-refuse_unless-2
returns-in_err-refuse_unless-2 c =
    let found = reading_read (read_text c.args.text.now) c.read.ensures.value c.in_ok-codes.was in
    let few = leb-true _ _ (right_from_ok WrongSelection _ _ c.refuse_unless.ensures c.in_ok-refuse_unless.was) in
    let wrong = wrong_from_err ShortMemory _ _ c.refuse_unless-2.ensures _ c.in_err-refuse_unless-2.was in
    let p = err_from_is_err_and c.from_residual-in_err-refuse_unless-2.result c.from_residual-in_err-refuse_unless-2.ensures.1 in
    let short = leb-false _ _ wrong.0 in
    let parts = read_typed c.args.text.now c.args.selection.now (read-codes c.args.text.now c.args.selection.now found.0 found.1 (read_short found.0 _ found.2 c.args.selection.now few short)) in
    rw (p.1, p.2, wrong.1) (record { for_answer = parts.0; for_answer_2 = parts.1.0; for_answer_3 = parts.1.1 })

pub slice_bounds-own-end : goal.slice_bounds-own-end
slice_bounds-own-end c = omega (arith, typed_room c.in_ok-codes.codes, c.typed_size.ensures, c.read.auto.selection)

pub slice_bounds-copy-end : goal.slice_bounds-copy-end
slice_bounds-copy-end c = sym (length-take-le _ _ (omega (arith, typed_room c.in_ok-codes.codes, c.typed_size.ensures, c.read.auto.selection)))

pub copy-requires : goal.copy-requires
copy-requires c =
    let own = c.read.new.selection in
    let room = leb-true _ _ (right_from_ok ShortMemory _ _ c.refuse_unless-2.ensures c.in_ok-refuse_unless-2.was) in
    omega (arith, typed_room c.in_ok-codes.codes, c.typed_size.ensures, length-take c.typed_size.result own, room)

pub returns : goal.returns
returns c =
    let found = reading_read (read_text c.args.text.now) c.read.ensures.value c.in_ok-codes.was in
    let few = leb-true _ _ (right_from_ok WrongSelection _ _ c.refuse_unless.ensures c.in_ok-refuse_unless.was) in
    let room = leb-true _ _ (right_from_ok ShortMemory _ _ c.refuse_unless-2.ensures c.in_ok-refuse_unless-2.was) in
    let put = text-put-few c.args.text.now found.0 _ _ _ _ refl c.read.ensures.selection_after found.1 found.2 c.typed_size.ensures few in
    let parts = read_typed c.args.text.now c.args.selection.now
    (read-codes c.args.text.now c.args.selection.now found.0 found.1
    (read_given found.0 _ found.2 c.args.selection.now few _ room (c.copy.ensures ∙ put c.args.selection.now))) in
    record { for_answer = parts.0; for_answer_2 = parts.1.0; for_answer_3 = parts.1.1 }
