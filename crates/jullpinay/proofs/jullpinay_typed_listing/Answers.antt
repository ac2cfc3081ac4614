-- For the text's answer the call's answer and buffer are the engine's, and the answer is put down as it is.
use mathlib.Core.Path.{ap, ◌∙◌}
use lib.ListN.{get_or}
use lib.Seq.{sets}
use Rattle.model.specs.Answers.{listing_values}
use Rattle.jullpinay.proofs.jullpinay_typed_listing.Goals as goal

pub returns : goal.returns
returns c =
    let answer = c.args.answer.now in
    let first = c.typed_listing-listing.ensures.for_answer in
    record {
      for_answer = record { answer = first.answer; answers = first.answers; holds = c.put_listing.ensures.value ∙ ap (λ x. get_or (listing_values x) 0 0) first.holds };
      for_answer_2 = record { answer = first.answer; answers = first.answers; holds = c.put_listing.ensures.answer_after ∙ ap (λ x. sets answer 0 (listing_values x)) first.holds };
      for_answer_3 = c.typed_listing-listing.ensures.for_answer_3;
    }
