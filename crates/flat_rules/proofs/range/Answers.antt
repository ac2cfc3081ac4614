use Rattle.std.proofs.Common.{rules}
use Rattle.std.proofs.lemmas.Result.{err_from_is_err_and}
use Rattle.flat_rules.proofs.RangesLaws.{range_bound, range_exactly, range_from_to, range-missed}
use Rattle.flat_rules.proofs.range.Goals as goal

pub returns-then-takes : goal.returns-then-takes
returns-then-takes g c least between makes both =
    range_exactly _ least between c.args.reader.now c.if-takes.ensures (c.measured.ensures (λ n. between n n) (λ b x l e. search (rules, both)))

pub returns-then-takes-2 : goal.returns-then-takes-2
returns-then-takes-2 g c least between makes both =
    range_from_to _ least between c.args.reader.now c.if-takes.ensures c.if-takes-2.ensures (c.range_from.ensures between both)

pub returns-in_err-expect : goal.returns-in_err-expect
returns-in_err-expect g c least between makes both =
    let p = err_from_is_err_and c.from_residual.result c.from_residual.ensures.1 in
    rw (p.1, p.2) (range-missed _ least between c.args.reader.now c.if-takes.ensures c.if-takes-2.ensures _ c.in_err-expect.ensures)

pub returns : goal.returns
returns g c least between makes both =
    range_bound _ least between c.args.reader.now c.if-takes.ensures c.if-takes-2.ensures c.in_ok-expect.ensures (c.range_at.ensures least between makes both)
