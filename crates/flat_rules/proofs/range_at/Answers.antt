use Rattle.std.proofs.Common.{rules}
use Rattle.std.proofs.lemmas.Result.{err_from_is_err_and}
use Rattle.flat_rules.proofs.RangesLaws.{at_least, at-missed, at_most}
use Rattle.flat_rules.proofs.range_at.Goals as goal

pub returns-then-takes : goal.returns-then-takes
returns-then-takes g c least between makes both = at_least _ least between c.args.reader.now c.if-takes.ensures (c.measured.ensures least makes)

pub returns-in_err-expect : goal.returns-in_err-expect
returns-in_err-expect g c least between makes both =
    let p = err_from_is_err_and c.from_residual.result c.from_residual.ensures.1 in
    rw (p.1, p.2) (at-missed _ least between c.args.reader.now _ c.if-takes.ensures c.in_err-expect.ensures)

pub returns : goal.returns
returns g c least between makes both =
    at_most _ least between c.args.reader.now c.if-takes.ensures c.in_ok-expect.ensures (c.measured-2.ensures (between 0) (λ b x l e. search (rules, both)))
