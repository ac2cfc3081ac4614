use Rattle.std.proofs.Common.{arith}
use Rattle.std.proofs.lemmas.Result.{err_from_is_err_and}
use Rattle.flat_rules.proofs.AnswersLaws.{answers-failed, answers-on}
use Rattle.flat_rules.proofs.RangesLaws.{measured-none, measured-read}
use Rattle.flat_rules.proofs.measured.Goals as goal

pub returns-in_err-n : goal.returns-in_err-n
returns-in_err-n g c f makes =
    let p = err_from_is_err_and c.from_residual.result c.from_residual.ensures.1 in
    rw (p.1, p.2) (answers-failed c.args.reader.now _ (λ n l. measured-none _ c.args.reader.now c.in_err-n.ensures f))

pub returns : goal.returns
returns g c f makes =
    let n = c.in_ok-n.ensures in
    answers-on c.args.reader.now _ (measured-read _ c.args.reader.now _ n f (makes _ _ n.within c.f.ensures)) (omega (arith, n.fewer)) n.codes_are c.coded.ensures
