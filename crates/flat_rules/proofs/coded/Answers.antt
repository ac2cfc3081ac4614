use Rattle.std.proofs.lemmas.Result.{err_from_is_err_and}
use Rattle.flat_rules.proofs.AnswersLaws.{answers-code, answers-refused}
use Rattle.flat_rules.proofs.RangesLaws.{coded-no, coded-yes}
use Rattle.flat_rules.proofs.coded.Goals as goal

pub returns-in_err-expect : goal.returns-in_err-expect
returns-in_err-expect c =
    let p = err_from_is_err_and c.from_residual.result c.from_residual.ensures.1 in
    let m = c.in_err-expect.ensures in
    rw (p.1, p.2) (answers-refused c.args.reader.now _ m.refused (λ n. coded-no _ _ c.args.code m.is))

pub returns : goal.returns
returns c = let t = c.in_ok-expect.ensures in answers-code c.args.reader.now _ c.args.code t (λ n. coded-yes _ _ c.args.code t.is) c.push.ensures
