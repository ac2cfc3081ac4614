-- Each return is one case of the definition (Phrases).
use Rattle.selection.proofs.PhrasesLaws.{too_many, too_short, the_words}
use native.Mathlib.Omega.{arith}
use Prim.Native.Nat.{◌<◌}
use Rattle.selection.proofs.parts.phrase_words.Goals as goal

pub returns-then-place-k : goal.returns-then-place-k
returns-then-place-k c = too_many c.args.selection.now c.args.place c.second_at-k.result 0 c.second_at-k.ensures c.if-place-k.true

pub returns-then-selection-end : goal.returns-then-selection-end
returns-then-selection-end c =
    let h : c.second_at-k.result < c.args.place = omega arith in
    too_short c.args.selection.now c.args.place c.second_at-k.result c.number_at-m.result c.second_at-k.ensures h c.number_at-m.ensures c.if-selection-end.true

pub returns : goal.returns
returns c =
    let h : c.second_at-k.result < c.args.place = omega arith in
    the_words c.args.selection.now c.args.place c.second_at-k.result c.number_at-m.result c.second_at-k.ensures h c.number_at-m.ensures c.if-selection-end.false
