use Rattle.std.proofs.Common.{◌≡◌, arith}
use Rattle.std.proofs.lemmas.Result.{err_from_is_err_and}
use Rattle.flat_rules.proofs.PhrasesLaws.{words_closed, words-fail, words_first, words_full, words_next, words-none}
use Rattle.flat_rules.proofs.words.Goals as goal

pub returns-in_err-word : goal.returns-in_err-word
returns-in_err-word c =
    let p = err_from_is_err_and c.from_residual.result c.from_residual.ensures.1 in
    rw (p.1, p.2) (words-none c.args.reader.now _ c.in_err-word.ensures)

pub loop-size-init : goal.loop-size-init
loop-size-init c = words_first c.args.reader.now c.word.new.reader c.in_ok-word.ensures

pub returns-then-takes : goal.returns-then-takes
returns-then-takes c =
    words_closed c.args.reader.now c.loop-size.reader c.loop-size.size c.loop-size.invariant c.loop-size.auto.size c.if-takes.ensures c.push.ensures

pub returns-in_err-word-2 : goal.returns-in_err-word-2
returns-in_err-word-2 c =
    let p = err_from_is_err_and c.from_residual-in_err-word-2.result c.from_residual-in_err-word-2.ensures.1 in
    rw (p.1, p.2) (words-fail c.args.reader.now c.loop-size.reader c.loop-size.size c.loop-size.invariant c.loop-size.auto.size c.loop-size-test.true c.if-takes.ensures _ c.in_err-word-2.ensures)

pub loop-size-preserved : goal.loop-size-preserved
loop-size-preserved c =
    words_next c.args.reader.now c.loop-size.reader c.loop-size.size c.loop-size.invariant c.loop-size.auto.size c.loop-size-test.true c.if-takes.ensures c.in_ok-word-2.ensures

pub returns : goal.returns
returns c =
    let all : c.loop-size.size ≡ 8 = omega (arith, c.loop-size.auto.size, c.loop-size.auto.size-end) in
    words_full c.args.reader.now c.loop-size.reader c.loop-size.size c.loop-size.invariant all c.coded.ensures
