-- Each of the seven words goes on with its rule, and any other token is refused.
use Rattle.std.proofs.Common.{◌∙◌, refl, sym, rules}
use Rattle.model.specs.declared.Code.TheVariants.{Filter as Filtered}
use Rattle.model.specs.declared.Filter.TheVariants.{Distance, Window}
use Rattle.model.specs.Limits.{max_distance}
use Rattle.scanner.specs.declared.symbols.Symbol.TheVariants as symbols
use Rattle.lent_text.proofs.TokensLaws.{passed}
use Rattle.flat_rules.proofs.FiltersLaws.{entire_left, filter-at, filter-different, filter-distance, filter_entire, filter_none, filter-ordered, filter_same, filter-window}
use Rattle.flat_rules.proofs.filter.Goals as goal

pub returns-then-not-starts_filter : goal.returns-then-not-starts_filter
returns-then-not-starts_filter c = filter_none c.args.reader.now _ c.symbol-symbol.ensures.symbol c.starts_filter.ensures c.if-not-starts_filter.true c.unexpected.ensures

pub push-requires-clause-few : goal.push-requires-clause-few
push-requires-clause-few c = (passed symbols.Ordered c.args.reader.now _ refl c.symbol-symbol.ensures.symbol c.in-Ordered.is c.pass.ensures.passed c.pass.ensures.few).room

pub returns-in-Ordered : goal.returns-in-Ordered
returns-in-Ordered c =
    filter-ordered c.args.reader.now _ (passed symbols.Ordered c.args.reader.now _ refl c.symbol-symbol.ensures.symbol c.in-Ordered.is c.pass.ensures.passed c.pass.ensures.few)
    c.push.ensures

pub returns-in-Window : goal.returns-in-Window
returns-in-Window c =
    filter-window c.args.reader.now _ (passed symbols.Window c.args.reader.now _ refl c.symbol-symbol.ensures.symbol c.in-Window.is c.pass.ensures.passed c.pass.ensures.few)
    (c.measured.ensures (λ n. Filtered (Window n)) (λ n x l k. search rules))

pub returns-in-Distance : goal.returns-in-Distance
returns-in-Distance c =
    filter-distance c.args.reader.now _ (passed symbols.Distance c.args.reader.now _ refl c.symbol-symbol.ensures.symbol c.in-Distance.is c.pass.ensures.passed c.pass.ensures.few)
    (c.range.ensures (λ a. Filtered (Distance a max_distance)) (λ a b. Filtered (Distance a b)) (λ n x l k. search rules) (λ a b x l m k. search rules))

pub returns-in-Same : goal.returns-in-Same
returns-in-Same c =
    filter_same c.args.reader.now _ (passed symbols.Same c.args.reader.now _ refl c.symbol-symbol.ensures.symbol c.in-Same.is c.pass.ensures.passed c.pass.ensures.few)
    c.by_unit.ensures

pub returns-in-Different : goal.returns-in-Different
returns-in-Different c =
    filter-different c.args.reader.now _ (passed symbols.Different c.args.reader.now _ refl c.symbol-symbol.ensures.symbol c.in-Different.is c.pass.ensures.passed c.pass.ensures.few)
    c.by_unit-in-Different.ensures

pub returns-in-At : goal.returns-in-At
returns-in-At c =
    filter-at c.args.reader.now _ (passed symbols.At c.args.reader.now _ refl c.symbol-symbol.ensures.symbol c.in-At.is c.pass.ensures.passed c.pass.ensures.few)
    c.either.ensures

pub returns-in_default : goal.returns-in_default
returns-in_default c =
    let n = c.in_default in
    let left = entire_left _ (sym c.starts_filter.ensures ∙ c.if-not-starts_filter.false) n.not-Ordered n.not-Window n.not-Distance n.not-Same n.not-Different n.not-At in
    filter_entire c.args.reader.now _ (passed symbols.Entire c.args.reader.now _ refl c.symbol-symbol.ensures.symbol left c.pass.ensures.passed c.pass.ensures.few)
    c.coded.ensures
