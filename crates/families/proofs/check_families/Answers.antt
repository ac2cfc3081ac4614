-- Each return is one case of the check (OrderLaws); a well sized slice has its size, and two arrays as long.
use Rattle.std.proofs.Common.{sym, refl, ap, ◌∙◌, arith}
use Rattle.std.proofs.lemmas.Result.{err_from_is_err_and}
use Rattle.model.specs.declared.Reason.TheVariants.{WrongFamilies}
use Rattle.model.specs.Answers.{checked_of}
use Rattle.model.specs.Section.{size}
use Rattle.model.proofs.SectionLaws.{well_sized_lem}
use Rattle.slices.proofs.RefusalsLaws.{right_from_ok, wrong_from_err, none_from_ok, place_from_err}
use Rattle.families.proofs.OrderLaws.{wrong_size, wrong_order, right-order}
use Rattle.families.proofs.check_families.Goals as goal

pub returns-in_err-refuse_unless : goal.returns-in_err-refuse_unless
returns-in_err-refuse_unless c =
    let s = c.args.families.now in
    let wrong = wrong_from_err WrongFamilies _ c.well_sized.result c.refuse_unless.ensures _ c.in_err-refuse_unless.was in
    let p = err_from_is_err_and c.from_residual.result c.from_residual.ensures.1 in
    rw (p.1, p.2, wrong.1) (ap (checked_of (size s)) (sym (wrong_size s (sym c.well_sized.ensures ∙ wrong.0))))

pub bounds-families-0 : goal.bounds-families-0
bounds-families-0 c =
    let s = c.args.families.now in
    let w = well_sized_lem 0 2048 s (sym c.well_sized.ensures ∙ right_from_ok WrongFamilies _ c.well_sized.result c.refuse_unless.ensures c.in_ok-refuse_unless.was) in
    omega arith

pub first_out_of_order-requires : goal.first_out_of_order-requires
first_out_of_order-requires c =
    let s = c.args.families.now in
    let w = well_sized_lem 0 2048 s (sym c.well_sized.ensures ∙ right_from_ok WrongFamilies _ c.well_sized.result c.refuse_unless.ensures c.in_ok-refuse_unless.was) in
    record { m_is = refl; few = omega arith; sized = w.long }

pub returns-in_err-refuse_at : goal.returns-in_err-refuse_at
returns-in_err-refuse_at c =
    let s = c.args.families.now in
    let right = sym c.well_sized.ensures ∙ right_from_ok WrongFamilies _ c.well_sized.result c.refuse_unless.ensures c.in_ok-refuse_unless.was in
    let wrong = place_from_err WrongFamilies _ c.first_out_of_order.result c.refuse_at.ensures _ c.in_err-refuse_at.was in
    let p = err_from_is_err_and c.from_residual-in_err-refuse_at.result c.from_residual-in_err-refuse_at.ensures.1 in
    rw (p.1, p.2, wrong.1) (ap (checked_of (size s)) (sym (wrong_order s right _ (sym c.first_out_of_order.ensures ∙ wrong.0))))

pub returns : goal.returns
returns c =
    let s = c.args.families.now in
    let right = sym c.well_sized.ensures ∙ right_from_ok WrongFamilies _ c.well_sized.result c.refuse_unless.ensures c.in_ok-refuse_unless.was in
    ap (checked_of (size s)) (sym (right-order s right (sym c.first_out_of_order.ensures ∙ none_from_ok WrongFamilies _ c.first_out_of_order.result c.refuse_at.ensures c.in_ok-refuse_at.was)))
