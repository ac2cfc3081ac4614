use Rattle.std.proofs.Common.{◌+◌, ◌*◌, ◌-◌, ◌∙◌, rules, arith}
use Rattle.std.proofs.lemmas.Iterator.{YieldsList-from_slice}
use Rattle.std.proofs.lemmas.Iterator.Consumers.{fold_from_yields_List}
use Rattle.scanner.specs.Scanned.{capped}
use Rattle.scanner.proofs.ScannerLaws.{value-folds}
use Rattle.scanner.proofs.value_of.Goals as goal

pub returns : goal.returns
returns c =
    fold_from_yields_List _ (λ v b. capped (v * 10 + (b - 48))) _ _ c.fold.ensures.ran (YieldsList-from_slice c.args.digits.now cc) (λ v x w q k. search rules)
    ∙ value-folds 0 c.args.digits.now (omega arith)
