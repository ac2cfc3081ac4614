-- The blocks passed rise; the first entry from there on that doesn't is the first out of order (OrderLaws).
use Rattle.std.proofs.Common.{◌+◌, ◌<◌, ◌≤◌, rules, get_or, sym, ◌∙◌, arith}
use borrow.Author.Tests.{tests}
use Rattle.std.proofs.lemmas.Iterator.{first_from_Range}
use Rattle.slices.proofs.BlocksLaws.{passed_all}
use Rattle.families.proofs.OrderLaws.{Whole, whole_at_1, whole_on, none_falls, first_falls}
use Rattle.families.proofs.order.first_out_of_order.Goals as goal

pub returns-in_err-before : goal.returns-in_err-before
returns-in_err-before c =
    let lent = c.args.families.now in
    let w = passed_all (Whole lent c.args.m) (whole_at_1 lent c.args.m c.requires.m_is) (λ p a b no w. whole_on lent c.args.m p 16 w (omega (arith, b, a, c.max.ensures)) (search rules)) c.pass_blocks-begin.ensures in
    let f = first_from_Range _ _ _ c.find.result (λ i. get_or lent (i + 1) 0 ≤ get_or lent i 0) (λ i. get_or lent i 0 < get_or lent (i + 1) 0) c.find.ensures.ran (λ x q k. search (rules, tests)) (λ x q k. search (rules, tests)) in
    let rise = rw c.in_err-before.was at f in
    c.from_residual.ensures ∙ sym (none_falls lent c.args.m c.pass_blocks-begin.result w (omega (arith, c.pass_blocks-begin.ensures.p_is)) rise)

pub overflow_cast-result : goal.overflow_cast-result
overflow_cast-result c =
    let lent = c.args.families.now in
    let f = first_from_Range _ _ _ c.find.result (λ i. get_or lent (i + 1) 0 ≤ get_or lent i 0) (λ i. get_or lent i 0 < get_or lent (i + 1) 0) c.find.ensures.ran (λ x q k. search (rules, tests)) (λ x q k. search (rules, tests)) in
    let found = rw c.in_ok-before.was at f in
    omega (arith, found.1)

pub overflow_add-result : goal.overflow_add-result
overflow_add-result c =
    let lent = c.args.families.now in
    let f = first_from_Range _ _ _ c.find.result (λ i. get_or lent (i + 1) 0 ≤ get_or lent i 0) (λ i. get_or lent i 0 < get_or lent (i + 1) 0) c.find.ensures.ran (λ x q k. search (rules, tests)) (λ x q k. search (rules, tests)) in
    let found = rw c.in_ok-before.was at f in
    omega (arith, found.1)

pub returns : goal.returns
returns c =
    let lent = c.args.families.now in
    let w = passed_all (Whole lent c.args.m) (whole_at_1 lent c.args.m c.requires.m_is) (λ p a b no w. whole_on lent c.args.m p 16 w (omega (arith, b, a, c.max.ensures)) (search rules)) c.pass_blocks-begin.ensures in
    let f = first_from_Range _ _ _ c.find.result (λ i. get_or lent (i + 1) 0 ≤ get_or lent i 0) (λ i. get_or lent i 0 < get_or lent (i + 1) 0) c.find.ensures.ran (λ x q k. search (rules, tests)) (λ x q k. search (rules, tests)) in
    let found = rw c.in_ok-before.was at f in
    sym (first_falls lent c.args.m c.pass_blocks-begin.result w (omega (arith, c.pass_blocks-begin.ensures.p_is)) c.in_ok-before.before found.0 found.1 found.2 found.3)
