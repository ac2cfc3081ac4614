-- Less than a pair of numbers holds no string; a pair is the first string, and what is after it holds the others.
use Rattle.std.proofs.Common.{arith, ap, sym, ◌∙◌, length}
use Rattle.strings.proofs.StringsLaws.{strs_at-short, strs_at-first}
use Rattle.strings.proofs.packed.StringsIterator.next.Goals as goal

pub returns-in_default-clause-steps : goal.returns-in_default-clause-steps
returns-in_default-clause-steps c = let e = sym c.self.view_is ∙ strs_at-short c.self.inside.rest.now (omega arith) in (e, e)

pub returns-clause-steps : goal.returns-clause-steps
returns-clause-steps c = sym c.self.view_is ∙ strs_at-first c.self.inside.rest.now (omega arith)

pub returns-clause-goes : goal.returns-clause-goes
returns-clause-goes c =
    let e = ap length (sym c.self.view_is ∙ strs_at-first c.self.inside.rest.now (omega arith)) in
    record { on = λ k. (tt, tt, omega (arith, e)); keeps = tt; rests = λ _. tt }
