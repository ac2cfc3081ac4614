use Prim.Native.Nat.{◌<◌}
use Rattle.std.proofs.Common.{◌≡◌, true, false, refl, sym, ap, ◌∙◌, arith, rules}
use Rattle.model.specs.Checks.{wrong_shape}
use Rattle.model.specs.Kinds.{shape_at, shape_of, shapes_of}
use Rattle.model.specs.Section.{size}
use Rattle.model.proofs.WaitingLaws.{fit_of, lists-le, words-le}
use Rattle.selection.proofs.CodeLoopsLaws.{misfits_here, misfits_on, misfits_end}
use Rattle.selection.proofs.waiting.wrong_shape.Goals as goal

pub loop-c-init : goal.loop-c-init
unfolding wrong_shape shapes_of
loop-c-init c = record { few_lists = omega arith; few_words = omega arith; goes_on = refl }

pub returns-then-not-fits : goal.returns-then-not-fits
returns-then-not-fits c =
    let s = c.args.selection.now in
    let w = c.loop-c.waiting in
    let h : c.loop-c.c < size s = omega (arith, c.number_at-m.ensures) in
    sym (misfits_here (shape_at s) (size s) c.loop-c.c w.lists w.words h _ (ap shape_of c.code_at-code.ensures) (sym c.fits.ensures ∙ c.if-not-fits.true))
    ∙ c.loop-c.invariant.goes_on

pub after-waiting-requires : goal.after-waiting-requires
after-waiting-requires c =
    let w = c.loop-c.waiting in
    let found = fit_of (shape_of c.code_at-code.result) w.lists w.words (sym c.fits.ensures ∙ c.if-not-fits.false) in
    record { code_bound = found.finds; lists_bound = search rules; words_bound = search rules }

pub loop-c-preserved : goal.loop-c-preserved
loop-c-preserved c =
    let s = c.args.selection.now in
    let w = c.loop-c.waiting in
    let h : c.loop-c.c < size s = omega (arith, c.number_at-m.ensures) in
    let code = shape_of c.code_at-code.result in
    record {
      few_lists = omega (arith, c.after-waiting.ensures.lists, lists-le code w.lists);
      few_words = omega (arith, c.after-waiting.ensures.words, words-le code w.words);
      goes_on =
          misfits_on (shape_at s) (size s) c.loop-c.c w.lists w.words h code (ap shape_of c.code_at-code.ensures) (sym c.fits.ensures ∙ c.if-not-fits.false)
          _ _ c.after-waiting.ensures.lists c.after-waiting.ensures.words
          ∙ c.loop-c.invariant.goes_on;
    }

pub returns-then-is_complete : goal.returns-then-is_complete
returns-then-is_complete c =
    let s = c.args.selection.now in
    let w = c.loop-c.waiting in
    let z : c.loop-c.c ≡ size s = omega (arith, c.number_at-m.ensures) in
    misfits_end (shape_at s) (size s) c.loop-c.c w.lists w.words z true c.if-is_complete.ensures ∙ c.loop-c.invariant.goes_on

pub returns-else-is_complete : goal.returns-else-is_complete
returns-else-is_complete c =
    let s = c.args.selection.now in
    let w = c.loop-c.waiting in
    let z : c.loop-c.c ≡ size s = omega (arith, c.number_at-m.ensures) in
    rw c.number_at-m.ensures (misfits_end (shape_at s) (size s) c.loop-c.c w.lists w.words z false c.if-is_complete.ensures ∙ c.loop-c.invariant.goes_on)
