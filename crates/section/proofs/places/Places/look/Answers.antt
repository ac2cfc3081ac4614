use Rattle.std.proofs.Common.{◌≡◌, ℕ, ◌+◌, Ok, sym, ap, ◌∙◌, arith}
use Rattle.std.proofs.lemmas.Result.{err_from_is_err_and}
use Rattle.model.specs.Checks.{last_nonzero}
use Rattle.model.specs.Section.{sentence_at}
use Rattle.section.specs.Looks.{LookGiven, faulty_after}
use Rattle.section.proofs.LooksLaws.{look_err, look_ok, no_position, found_first, found-later, last_of_block}
use Rattle.section.proofs.places.Places.look.Goals as goal

pub returns-in_err-last : goal.returns-in_err-last
returns-in_err-last g c =
    let i = c.loop-p.invariant in
    let s = c.args.self.now.section.now in
    let end = c.loop-p.p + c.min.result in
    let given : LookGiven s c.loop-p.p end c.loop-p.last.0 = record { from_one = omega arith; in_order = omega arith; up_to = omega arith; last_is = i.2 } in
    let look = c.requires.told c.loop-p.p end c.loop-p.last c.closely.result given c.closely.ensures in
    let found = look_err (faulty_after s c.loop-p.p end) _ _ (sym look ∙ c.in_err-last.was) in
    let p = err_from_is_err_and c.from_residual.result c.from_residual.ensures.1 in
    let first = i.3 ∙ found_first s c.loop-p.p end c.args.to (omega arith) (omega arith) _ found in
    rw (p.1, p.2, first)

pub loop-p-preserved-then-is_faultless : goal.loop-p-preserved-then-is_faultless
loop-p-preserved-then-is_faultless g c =
    let i = c.loop-p.invariant in
    let s = c.args.self.now.section.now in
    let end = c.loop-p.p + c.min.result in
    let f = c.is_faultless.ensures c.if-is_faultless.true in
    let last = rw c.sentence.ensures at c.last_after-last.ensures in
    (omega arith, omega arith, last_of_block s c.loop-p.p end _ _ c.at.ensures i.2 f last, i.3 ∙ found-later s c.loop-p.p end c.args.to (omega arith) (omega arith) f.none_faulty)

pub loop-p-preserved : goal.loop-p-preserved
loop-p-preserved g c =
    let i = c.loop-p.invariant in
    let s = c.args.self.now.section.now in
    let end = c.loop-p.p + c.min.result in
    let given : LookGiven s c.loop-p.p end c.loop-p.last.0 = record { from_one = omega arith; in_order = omega arith; up_to = omega arith; last_is = i.2 } in
    let look = c.requires.told c.loop-p.p end c.loop-p.last c.closely.result given c.closely.ensures in
    let sound = look_ok (faulty_after s c.loop-p.p end) _ _ (sym look ∙ c.in_ok-last.was) in
    (omega arith, omega arith, sound.1, i.3 ∙ found-later s c.loop-p.p end c.args.to (omega arith) (omega arith) sound.0)

pub returns : goal.returns
returns g c =
    let i = c.loop-p.invariant in
    let s = c.args.self.now.section.now in
    let end : c.loop-p.p ≡ c.args.to = omega arith in
    let e = i.3 ∙ no_position s c.loop-p.p c.args.to (omega arith) in
    rw e (ap (λ (x : ℕ). Ok (record { 0 = x })) (i.2 ∙ ap (last_nonzero (sentence_at s)) end))
