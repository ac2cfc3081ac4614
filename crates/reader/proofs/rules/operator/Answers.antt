use Rattle.std.proofs.lemmas.Result.{err_from_is_err_and}
use Rattle.reader.proofs.LevelsLaws.{not_in_broken, not_in_read}
use Rattle.reader.proofs.rules.operator.Goals as goal

pub returns-in_err-expect-in-MildNot : goal.returns-in_err-expect-in-MildNot
returns-in_err-expect-in-MildNot c =
    let p = err_from_is_err_and c.from_residual.result c.from_residual.ensures.1 in
    rw (p.1, p.2, c.in-MildNot.is) (not_in_broken c.if-is.ensures c.in_err-expect-in-MildNot.ensures)

pub returns-in_ok-expect-in-MildNot : goal.returns-in_ok-expect-in-MildNot
returns-in_ok-expect-in-MildNot c = rw (c.if-is.true, c.in-MildNot.is) (not_in_read c.if-is.ensures c.in_ok-expect-in-MildNot.ensures)
