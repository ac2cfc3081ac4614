use Rattle.std.proofs.Common.{eqb, ◌∙◌, rules}
use Rattle.std.proofs.lemmas.Iterator.{YieldsList-from_slice}
use Rattle.std.proofs.lemmas.Iterator.Consumers.{count_from_yields_List}
use Rattle.std.proofs.lemmas.Iterator.Search.{YieldsList-from_take_while}
use Rattle.std.proofs.lemmas.List.Folds.{length-prefix_len}
use Rattle.std.proofs.lemmas.Bool.Decides.{nat_tests}
use Rattle.grammar.specs.Stream.{sort_of}
use Rattle.scanner.proofs.ScannerLaws.{run-front}
use Rattle.scanner.proofs.run_length.Goals as goal

pub returns-clause-value : goal.returns-clause-value
returns-clause-value c =
    count_from_yields_List _ _ c.count.ensures.ran
    (YieldsList-from_take_while _ (λ b. eqb (sort_of b) c.args.sort) (YieldsList-from_slice c.args.bytes.now (cc)) c.take_while.ensures.closure (cc) (λ x b q k. search (rules, nat_tests)))
    ∙ length-prefix_len (λ b. eqb (sort_of b) c.args.sort) c.args.bytes.now ∙ run-front _ _
