use Rattle.std.proofs.Common.{◌∙◌, arith}
use Rattle.std.proofs.lemmas.Result.{err_from_is_err_and}
use Rattle.flat_rules.proofs.AnswersLaws.{read_further}
use Rattle.flat_rules.proofs.FiltersLaws.{filters_fail, filters_start, filters_step, filters_stop, starts-here}
use Rattle.flat_rules.proofs.filters.Goals as goal

pub loop-reader-init : goal.loop-reader-init
loop-reader-init c = filters_start c.args.reader.now

pub loop-reader-smaller : goal.loop-reader-smaller
loop-reader-smaller c = omega (arith, (read_further c.in_ok-filter.ensures).fewer)

pub loop-reader-preserved : goal.loop-reader-preserved
loop-reader-preserved c =
    filters_step c.loop-reader.invariant (starts-here _ c.symbol.ensures.symbol c.starts_filter.ensures ∙ c.loop-reader-test.true) c.in_ok-filter.ensures

pub returns-in_err-filter : goal.returns-in_err-filter
returns-in_err-filter c =
    let p = err_from_is_err_and c.from_residual.result c.from_residual.ensures.1 in
    rw (p.1, p.2) (filters_fail c.loop-reader.invariant (starts-here _ c.symbol.ensures.symbol c.starts_filter.ensures ∙ c.loop-reader-test.true) c.in_err-filter.ensures)

pub returns : goal.returns
returns c = filters_stop c.loop-reader.invariant (starts-here _ c.symbol.ensures.symbol c.starts_filter.ensures ∙ c.loop-reader-test.false)
