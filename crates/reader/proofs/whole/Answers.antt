-- A selection is read; its error is passed up, and after it the text must end.
use Rattle.std.proofs.Common.{refl}
use Rattle.std.proofs.lemmas.Result.{err_from_is_err_and}
use Rattle.scanner.specs.declared.symbols.Symbol.TheVariants.{NoMore}
use Rattle.scanner.proofs.SymbolsLaws.{untested}
use Rattle.reader.proofs.WholeLaws.{whole_fails, whole_goes_on, whole_ends}
use Rattle.reader.proofs.whole.Goals as goal

pub returns-in_err-selection : goal.returns-in_err-selection
returns-in_err-selection c =
    let p = err_from_is_err_and c.from_residual.result c.from_residual.ensures.1 in
    rw (p.1, p.2) (whole_fails c.in_err-selection.ensures)

pub returns-then-ne : goal.returns-then-ne
returns-then-ne c =
    whole_goes_on c.in_ok-selection.ensures (untested _ _ NoMore _ c.symbol.ensures.symbol refl c.ne.ensures) c.if-ne.true _ c.unexpected.ensures

pub returns : goal.returns
returns c = whole_ends c.in_ok-selection.ensures (untested _ _ NoMore _ c.symbol.ensures.symbol refl c.ne.ensures) c.if-ne.false
