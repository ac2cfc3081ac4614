use Rattle.std.proofs.lemmas.Result.{err_from_is_err_and}
use Rattle.flat_rules.proofs.AnswersLaws.{read_further}
use Rattle.reader.proofs.RulesLaws.{and_level, and_rule, mild_level, mild_rule, not_is, not_plain, not_room, not_rule, not-fails, or_level, primary_ends, primary_fails, primary_not, primary_phrase, whole_fails, whole_is}
use Rattle.reader.proofs.rules.+rules.Goals as goal

pub selection-returns-in_err-ors : goal.selection-returns-in_err-ors
selection-returns-in_err-ors t c =
    let p = err_from_is_err_and c.from_residual.result c.from_residual.ensures.1 in
    rw (p.1, p.2) (whole_fails c.in_err-ors.ensures)

pub selection-returns : goal.selection-returns
selection-returns t c = whole_is _ c.in_ok-ors.ensures c.filters.ensures

pub ors-level-requires-clause-goes : goal.ors-level-requires-clause-goes
ors-level-requires-clause-goes t c x u y l a = read_further a

pub ors-returns : goal.ors-returns
ors-returns t c = or_level _ (c.level.ensures and_rule (λ x r y l a. a))

pub ands-level-requires-clause-goes : goal.ands-level-requires-clause-goes
ands-level-requires-clause-goes t c x u y l a = read_further a

pub ands-returns : goal.ands-returns
ands-returns t c = and_level _ (c.level.ensures mild_rule (λ x r y l a. a))

pub milds-level-requires-clause-goes : goal.milds-level-requires-clause-goes
milds-level-requires-clause-goes t c x u y l a = read_further a

pub milds-returns : goal.milds-returns
milds-returns t c = mild_level _ (c.level.ensures not_rule (λ x r y l a. a))

pub nots-returns-in_err-primary : goal.nots-returns-in_err-primary
nots-returns-in_err-primary t c =
    let p = err_from_is_err_and c.from_residual.result c.from_residual.ensures.1 in
    rw (p.1, p.2) (not-fails _ c.takes-negated.ensures c.in_err-primary.ensures)

pub nots-push-requires-clause-few : goal.nots-push-requires-clause-few
nots-push-requires-clause-few t c = not_room (rw c.if-negated.true at c.takes-negated.ensures) c.in_ok-primary.ensures

pub nots-returns-then-negated : goal.nots-returns-then-negated
nots-returns-then-negated t c = not_is (rw c.if-negated.true at c.takes-negated.ensures) c.in_ok-primary.ensures c.push.ensures

pub nots-returns-else-negated : goal.nots-returns-else-negated
nots-returns-else-negated t c = not_plain (rw c.if-negated.false at c.takes-negated.ensures) c.in_ok-primary.ensures

pub primary-returns-then-takes : goal.primary-returns-then-takes
primary-returns-then-takes t c = primary_phrase c.if-takes.ensures c.phrase.ensures

pub primary-returns-in_err-expect : goal.primary-returns-in_err-expect
primary-returns-in_err-expect t c =
    let p = err_from_is_err_and c.from_residual.result c.from_residual.ensures.1 in
    rw (p.1, p.2) (primary_not c.if-takes.ensures _ c.in_err-expect.ensures)

pub primary-returns-in_err-selection : goal.primary-returns-in_err-selection
primary-returns-in_err-selection t c =
    let p = err_from_is_err_and c.from_residual-in_err-selection.result c.from_residual-in_err-selection.ensures.1 in
    rw (p.1, p.2) (primary_fails c.if-takes.ensures c.in_ok-expect.ensures c.in_err-selection.ensures)

pub primary-returns : goal.primary-returns
primary-returns t c = primary_ends c.if-takes.ensures c.in_ok-expect.ensures c.in_ok-selection.ensures _ c.expect-2.ensures
