-- Where the sum is the rise from first to last, paragraphs do not rise from zero, and sentences do not or may, no position is faulty (faultless).
use Rattle.std.proofs.Common.{sym, ◌∙◌, inl, inr, arith}
use borrow.Author.Tests.{eqb-true, not-true}
use Rattle.section.proofs.RisesLaws.{faultless}
use Rattle.section.proofs.places.Places.is_faultless.Goals as goal
use Rattle.section.proofs.places.Places.is_faultless.Goals.{then-summed_rises-first, else-summed_rises-first}

pub returns-then-last-eq0 : goal.returns-then-last-eq0
returns-then-last-eq0 c = λ t.
    elim c.if-summed_rises-first.branch [
      | then-summed_rises-first w ↦
          let rise = sym w.rises_from_zero.ensures ∙ not-true _ (sym w.value-is ∙ c.if-not-rises_from_zero.true) in
          faultless c.args.self.now.section.now c.args.from c.args.to (omega arith) (omega arith) (omega arith) c.summed_rises.ensures c.at-first.ensures c.at-end.ensures
          w.if-summed_rises-first.true rise c.requires.last_is (inl c.if-last-eq0.true)
      | else-summed_rises-first w ↦ absurd (w.if-summed_rises-first.false (eqb-true _ _ (sym w.value-is ∙ c.if-not-rises_from_zero.true)))
    ]

pub returns-else-last-eq0 : goal.returns-else-last-eq0
returns-else-last-eq0 c = λ t.
    elim c.if-summed_rises-first.branch [
      | then-summed_rises-first w ↦
          let rise = sym w.rises_from_zero.ensures ∙ not-true _ (sym w.value-is ∙ c.if-not-rises_from_zero.true) in
          faultless c.args.self.now.section.now c.args.from c.args.to (omega arith) (omega arith) (omega arith) c.summed_rises.ensures c.at-first.ensures c.at-end.ensures
          w.if-summed_rises-first.true rise c.requires.last_is (inr (sym c.rises_from_zero-else-last-eq0.ensures ∙ not-true _ t))
      | else-summed_rises-first w ↦ absurd (w.if-summed_rises-first.false (eqb-true _ _ (sym w.value-is ∙ c.if-not-rises_from_zero.true)))
    ]
