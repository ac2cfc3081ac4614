-- A text that is too long has its error at once; the whole of any other is its answer.
use Rattle.std.proofs.Common.{◌≡◌, length, ◌∙◌, ap, sym, subst, refl, arith}
use lib.Seq.{sets}
use Rattle.lent_text.specs.declared.codes.Codes.{Codes}
use Rattle.lent_text.specs.Written.{Written, no_codes}
use Rattle.std.proofs.lemmas.Result.{err_from_is_err_and}
use Rattle.reader.specs.Selections.{typed_numbers}
use Rattle.reader.proofs.SelectionsLaws.{written-down}
use Rattle.reader.proofs.WholeLaws.{text-too_long, text-fails, text-reads}
use Rattle.reader.proofs.read.Goals as goal

pub returns-then-text-gt-MAX_TEXT : goal.returns-then-text-gt-MAX_TEXT
returns-then-text-gt-MAX_TEXT c =
    let e = text-too_long c.args.text.now c.if-text-gt-MAX_TEXT.true in
    record { value = rw e refl; selection_after = rw e refl }

pub returns-in_err-whole : goal.returns-in_err-whole
returns-in_err-whole c =
    let p = err_from_is_err_and c.from_residual.result c.from_residual.ensures.1 in
    let e = text-fails c.args.text.now c.if-text-gt-MAX_TEXT.false c.over-reader.result c.over-reader.ensures c.whole.new.reader c.in_err-whole.ensures in
    rw (p.1, p.2) (record { value = rw e refl; selection_after = rw e refl })

pub returns : goal.returns
returns c =
    let found = text-reads c.args.text.now c.if-text-gt-MAX_TEXT.false c.over-reader.result c.over-reader.ensures c.whole.new.reader c.in_ok-whole.ensures in
    let written = subst (λ (x : Codes). Written found.0 no_codes x) (sym c.codes-codes.ensures) found.2 in
    let count : c.codes-codes.result.now.count ≡ length found.0 = omega (arith, written.counted) in
    record {
      value = rw (found.1, count) refl;
      selection_after = c.put.ensures ∙ ap (sets c.args.selection.now 0) (written-down found.0 _ written ∙ ap typed_numbers (sym found.1));
    }
