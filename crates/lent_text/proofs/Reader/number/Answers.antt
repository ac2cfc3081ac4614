use Rattle.std.proofs.Common.{refl, ap}
use Rattle.model.specs.declared.Refusal.{Refusal}
use Rattle.scanner.specs.declared.symbols.Symbol.TheVariants.{Number}
use Rattle.scanner.proofs.SymbolsLaws.{untested}
use Rattle.lent_text.proofs.NumbersLaws.{number-none, number-over, number-some}
use Rattle.lent_text.proofs.Reader.number.Goals as goal

pub returns-then-ne : goal.returns-then-ne
returns-then-ne c =
    number-none _ c.args.self.now (untested _ _ Number _ c.symbol.ensures.symbol refl c.ne.ensures) c.if-ne.true c.unexpected.ensures

pub returns-then-value-most : goal.returns-then-value-most
returns-then-value-most c =
    number-over _ c.args.self.now (untested _ _ Number _ c.symbol.ensures.symbol refl c.ne.ensures) c.if-ne.false c.value-value.ensures c.requires c.if-value-most.true _ refl
    (ap (λ (r : Refusal). r.place) c.unexpected-then-value-most.ensures)

pub returns : goal.returns
returns c =
    number-some _ c.args.self.now (untested _ _ Number _ c.symbol.ensures.symbol refl c.ne.ensures) c.if-ne.false c.value-value.ensures c.requires c.if-value-most.false c.pass.ensures.passed c.pass.ensures.few
