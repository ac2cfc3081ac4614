-- For the text's answer the call's answer and selection are the engine's, and the answer is put down as it is.
use mathlib.Core.Path.{ap, ◌∙◌}
use lib.ListN.{get_or}
use lib.Seq.{sets}
use Rattle.model.specs.Typed.{reading_values}
use Rattle.jullpinay.proofs.jullpinay_read.Goals as goal

pub returns : goal.returns
returns c =
    let answer = c.args.answer.now in
    let first = c.read-reading.ensures.for_answer in
    record {
      for_answer = record { answer = first.answer; answers = first.answers; holds = c.put_reading.ensures.value ∙ ap (λ x. get_or (reading_values x) 0 0) first.holds };
      for_answer_2 = record { answer = first.answer; answers = first.answers; holds = c.put_reading.ensures.answer_after ∙ ap (λ x. sets answer 0 (reading_values x)) first.holds };
      for_answer_3 = c.read-reading.ensures.for_answer_3;
    }
