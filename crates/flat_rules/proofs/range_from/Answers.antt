use Rattle.std.proofs.Common.{rules}
use Rattle.std.proofs.lemmas.Result.{err_from_is_err_and}
use Rattle.flat_rules.proofs.AnswersLaws.{answers-failed}
use Rattle.flat_rules.proofs.RangesLaws.{from-missed, from-none, from_to}
use Rattle.flat_rules.proofs.range_from.Goals as goal

pub returns-in_err-a : goal.returns-in_err-a
returns-in_err-a g c between makes =
    let p = err_from_is_err_and c.from_residual.result c.from_residual.ensures.1 in
    rw (p.1, p.2) (answers-failed c.args.reader.now _ (λ n l. from-none _ c.args.reader.now c.in_err-a.ensures between))

pub returns-in_err-expect : goal.returns-in_err-expect
returns-in_err-expect g c between makes =
    let p = err_from_is_err_and c.from_residual-in_err-expect.result c.from_residual-in_err-expect.ensures.1 in
    rw (p.1, p.2) (from-missed _ c.args.reader.now c.number.new.self c.in_ok-a.ensures between _ c.in_err-expect.ensures)

pub returns : goal.returns
returns g c between makes =
    let within = c.in_ok-a.ensures.within in
    from_to _ c.args.reader.now c.number.new.self c.in_ok-a.ensures between c.in_ok-expect.ensures
    (c.measured.ensures (between c.in_ok-a.a) (λ b x l k. search (rules, makes)))
