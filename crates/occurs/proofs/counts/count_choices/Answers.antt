use mathlib.Core.Logic.{inl, inr, ⊎_elim}
use Rattle.occurs.proofs.CountsLaws.{counted_none, start, many, step, finish}
use Rattle.occurs.proofs.counts.count_choices.Goals as goal

pub returns-then-m-a : goal.returns-then-m-a
returns-then-m-a c = counted_none _ _ c.if-m-a.true

pub loop-d-init : goal.loop-d-init
loop-d-init c = start _ _ c.if-m-a.false c.requires

pub returns-then-counts-gt-MAX_MATCHES : goal.returns-then-counts-gt-MAX_MATCHES
returns-then-counts-gt-MAX_MATCHES c = many c.loop-d.invariant c.loop-d-test.true (⊎_elim (λ x. inl x) (λ x. inr x.1) c.then-counts-gt-MAX_MATCHES.either)

pub loop-d-preserved : goal.loop-d-preserved
loop-d-preserved c = step c.loop-d.invariant c.loop-d-test.true c.if-counts-gt-MAX_MATCHES.false c.if-counts-gt-MAX_STRINGS.false

pub returns : goal.returns
returns c = finish c.loop-d.invariant c.loop-d-test.false
