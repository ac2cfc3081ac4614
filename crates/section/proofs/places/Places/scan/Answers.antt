use Rattle.std.proofs.Common.{◌≡◌, ℕ, Ok, ap, ◌∙◌, arith}
use Rattle.model.specs.Checks.{last_nonzero}
use Rattle.model.specs.Section.{sentence_at}
use Rattle.section.proofs.LooksLaws.{no_position, faulty_next, sound_next, faulty_told, last-told}
use Rattle.section.proofs.places.Places.scan.Goals as goal

pub returns-then-is_faulty : goal.returns-then-is_faulty
returns-then-is_faulty c =
    let i = c.loop-p.invariant in
    let s = c.args.self.now.section.now in
    let faulty = faulty_told s c.loop-p.p _ c.at.ensures c.at-here.ensures i.0 _ c.is_faulty.ensures ∙ c.if-is_faulty.true in
    let e = i.1 ∙ faulty_next s c.loop-p.p c.args.to (omega arith) faulty in
    rw e

pub loop-p-preserved : goal.loop-p-preserved
loop-p-preserved c =
    let i = c.loop-p.invariant in
    let s = c.args.self.now.section.now in
    let sound = faulty_told s c.loop-p.p _ c.at.ensures c.at-here.ensures i.0 _ c.is_faulty.ensures ∙ c.if-is_faulty.false in
    let last = rw c.sentence.ensures at c.last_after-last.ensures in
    (last-told s c.loop-p.p _ c.at.ensures c.at-here.ensures i.0 _ last, i.1 ∙ sound_next s c.loop-p.p c.args.to (omega arith) sound)

pub returns : goal.returns
returns c =
    let i = c.loop-p.invariant in
    let s = c.args.self.now.section.now in
    let end : c.loop-p.p ≡ c.args.to = omega arith in
    let e = i.1 ∙ no_position s c.loop-p.p c.args.to (omega arith) in
    rw e (ap (λ (x : ℕ). Ok (record { 0 = x })) (i.0 ∙ ap (last_nonzero (sentence_at s)) end))
