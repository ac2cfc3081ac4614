-- Each return is one case of the check (CheckLaws); a well sized slice has its size, and two arrays as long.
use Rattle.std.proofs.Common.{sym, refl, ap, ◌∙◌, arith}
use Rattle.std.proofs.lemmas.Result.{err_from_is_err_and}
use Rattle.model.specs.declared.Reason.TheVariants.{WrongSection, FaultyPosition}
use Rattle.model.specs.Answers.{checked_of}
use Rattle.model.specs.Section.{size}
use Rattle.model.proofs.SectionLaws.{well_sized_lem}
use Rattle.slices.proofs.RefusalsLaws.{right_from_ok, wrong_from_err, none_from_ok, place_from_err}
use Rattle.section.proofs.CheckLaws.{wrong_size, wrong_order, right-order}
use Rattle.section.proofs.check_section.Goals as goal

pub returns-in_err-refuse_unless : goal.returns-in_err-refuse_unless
returns-in_err-refuse_unless c =
    let s = c.args.section.now in
    let wrong = wrong_from_err WrongSection _ c.well_sized.result c.refuse_unless.ensures _ c.in_err-refuse_unless.was in
    let p = err_from_is_err_and c.from_residual.result c.from_residual.ensures.1 in
    rw (p.1, p.2, wrong.1) (ap (checked_of (size s)) (sym (wrong_size s (sym c.well_sized.ensures ∙ wrong.0))))

pub bounds-section-0 : goal.bounds-section-0
bounds-section-0 c =
    let s = c.args.section.now in
    let w = well_sized_lem 0 4096 s (sym c.well_sized.ensures ∙ right_from_ok WrongSection _ c.well_sized.result c.refuse_unless.ensures c.in_ok-refuse_unless.was) in
    omega arith

pub first_faulty-requires : goal.first_faulty-requires
first_faulty-requires c =
    let s = c.args.section.now in
    let w = well_sized_lem 0 4096 s (sym c.well_sized.ensures ∙ right_from_ok WrongSection _ c.well_sized.result c.refuse_unless.ensures c.in_ok-refuse_unless.was) in
    record { n_value = refl; n_le_max_tokens = (omega arith, w.long) }

pub returns-in_err-refuse_at : goal.returns-in_err-refuse_at
returns-in_err-refuse_at c =
    let s = c.args.section.now in
    let right = sym c.well_sized.ensures ∙ right_from_ok WrongSection _ c.well_sized.result c.refuse_unless.ensures c.in_ok-refuse_unless.was in
    let wrong = place_from_err FaultyPosition _ c.first_faulty.result c.refuse_at.ensures _ c.in_err-refuse_at.was in
    let p = err_from_is_err_and c.from_residual-in_err-refuse_at.result c.from_residual-in_err-refuse_at.ensures.1 in
    rw (p.1, p.2, wrong.1) (ap (checked_of (size s)) (sym (wrong_order s right _ (sym c.first_faulty.ensures ∙ wrong.0))))

pub returns : goal.returns
returns c =
    let s = c.args.section.now in
    let right = sym c.well_sized.ensures ∙ right_from_ok WrongSection _ c.well_sized.result c.refuse_unless.ensures c.in_ok-refuse_unless.was in
    ap (checked_of (size s)) (sym (right-order s right (sym c.first_faulty.ensures ∙ none_from_ok FaultyPosition _ c.first_faulty.result c.refuse_at.ensures c.in_ok-refuse_at.was)))
