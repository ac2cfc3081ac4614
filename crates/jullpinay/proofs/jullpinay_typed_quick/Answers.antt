-- For the text's answer the call's answer is the engine's, and the answer is put down as it is.
use mathlib.Core.Path.{ap, ◌∙◌}
use lib.ListN.{get_or}
use lib.Seq.{sets}
use Rattle.model.specs.Answers.{quick_values}
use Rattle.jullpinay.proofs.jullpinay_typed_quick.Goals as goal

pub returns : goal.returns
returns c =
    let answer = c.args.answer.now in
    let first = c.typed_quick-quick.ensures.for_answer in
    record { for_answer = record { answer = first.answer; answers = first.answers; holds = c.put_quick.ensures.value ∙ ap (λ x. get_or (quick_values x) 0 0) first.holds }; for_answer_2 = record { answer = first.answer; answers = first.answers; holds = c.put_quick.ensures.answer_after ∙ ap (λ x. sets answer 0 (quick_values x)) first.holds } }
