-- Blanks are passed; then the end, a run or one byte is the first token.
use Rattle.std.proofs.Common.{refl, ◌+◌, ◌<◌, ap, ◌∙◌, arith, length}
use Rattle.model.specs.Tokens.{blank}
use Rattle.grammar.specs.Stream.{run_length, sort_of}
use Rattle.scanner.proofs.ScannerLaws.{part-rest, runs-either, scanned_end, scanned_run, scanned_sign}
use Rattle.scanner.proofs.token_at.Goals as goal
use Rattle.scanner.proofs.token_at.Goals.{in-97, in_default}

pub run_length-requires : goal.run_length-requires
unfolding sort_of
run_length-requires c = refl

pub returns-then-start-text : goal.returns-then-start-text
returns-then-start-text c =
    let blanks = ap (λ k. c.args.at + k) (c.run_length.ensures.value ∙ ap (run_length blank) (part-rest c.args.text.now c.args.at)) in
    scanned_end _ _ _ blanks (omega arith) c.if-start-text.true

pub returns : goal.returns
returns c =
    let start = c.args.at + c.run_length.result in
    let blanks = ap (λ k. c.args.at + k) (c.run_length.ensures.value ∙ ap (run_length blank) (part-rest c.args.text.now c.args.at)) in
    let within : start < length c.args.text.now = omega (arith, c.run_length.ensures.within) in
    elim c.match-sort.branch [
      | in-97 w ↦
          scanned_run _ _ start blanks (omega arith) c.sort_of-sort.result within c.sort_of-sort.ensures.value _ _ (runs-either _ w.in-97.is)
          (w.size-is ∙ w.run_length-size.ensures.value ∙ ap (run_length c.sort_of-sort.result) (part-rest c.args.text.now start)) c.symbol_of-symbol.ensures
      | in_default w ↦
          scanned_sign _ _ start blanks (omega arith) c.sort_of-sort.result within c.sort_of-sort.ensures.value _ _ (λ e. grind arith) (λ e. grind arith) w.size-is c.symbol_of-symbol.ensures
    ]
