use Rattle.std.proofs.lemmas.Result.{err_from_is_err_and}
use Rattle.flat_rules.proofs.PhrasesLaws.{word-none, word-read}
use Rattle.flat_rules.proofs.word.Goals as goal

pub returns-in_err-word : goal.returns-in_err-word
returns-in_err-word c =
    let p = err_from_is_err_and c.from_residual.result c.from_residual.ensures.1 in
    rw (p.1, p.2) (word-none c.args.reader.now _ c.in_err-word.ensures)

pub returns : goal.returns
returns c = word-read c.args.reader.now _ c.in_ok-word.ensures c.push.ensures
