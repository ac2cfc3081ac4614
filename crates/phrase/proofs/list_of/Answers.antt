use Rattle.std.proofs.Common.{refl, rules, arith}
use Rattle.phrase.proofs.FindsLaws.{find_start, find_over, find_step, find_finish}
use Rattle.phrase.proofs.list_of.Goals as goal

pub loop-p-init : goal.loop-p-init
loop-p-init g c = (omega arith, refl, find_start _ _ _ _ _)

pub returns-then-matches-eq-MAX_MATCHES : goal.returns-then-matches-eq-MAX_MATCHES
returns-then-matches-eq-MAX_MATCHES g c =
    let n = c.in-Some.ensures.next in
    find_over c.loop-p.invariant.2 n.0 n.1 c.if-matches-eq-MAX_MATCHES.true

pub put_found-q-requires : goal.put_found-q-requires
put_found-q-requires g c =
    let n = c.in-Some.ensures.next in
    let i = c.loop-p.invariant in
    record { room = omega (arith, i.2.q_is, i.1); from_one = omega (arith, i.2.from_one, n.0.skipped.not_before); up_to = c.in-Some.ensures.few; few_words = omega (arith, c.length-k.ensures.few); rank_up_to = omega arith }

pub overflow_add-from : goal.overflow_add-from
overflow_add-from g c = omega (arith, c.in-Some.ensures.few)

pub loop-p-preserved : goal.loop-p-preserved
loop-p-preserved g c =
    let n = c.in-Some.ensures.next in
    (search rules, search rules, find_step c.loop-p.invariant.2 n.0 n.1 (rw c.length-k.ensures.is at c.put_found-q.ensures))

pub returns : goal.returns
returns g c = find_finish c.loop-p.invariant.2 c.in_default.ensures.next c.loop-p.invariant.0 c.put_slot_header.ensures
