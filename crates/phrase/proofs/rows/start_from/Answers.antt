use Rattle.std.proofs.Common.{◌≡◌, ◌≤◌, true, false, arith, rules}
use Rattle.std.proofs.lemmas.Iterator.{first_from_Range}
use Rattle.model.specs.Rules.{stand_from}
use Rattle.phrase.proofs.RowsLaws.{stands-empty}
use Rattle.phrase.proofs.StartsLaws.{skipped-none, skipped-on, skipped_between, skipped_beyond}
use Rattle.phrase.proofs.rows.start_from.Goals as goal

pub returns-then-after-from-clause-next : goal.returns-then-after-from-clause-next
returns-then-after-from-clause-next g c =
    skipped_beyond {to = c.args.from} (skipped-none (omega arith)) c.requires (omega (arith, c.tokens-after.ensures.is, c.length-k.ensures.is))

pub returns-then-from-after : goal.returns-then-from-after
returns-then-from-after g c =
    let in_section : c.args.from ≤ (g.R.Rows.searched c.args.rows.now).section.tokens = omega (arith, c.tokens-after.ensures.is) in
    let stands = stands-empty (g.R.Rows.searched c.args.rows.now) (g.R.Rows.words c.args.rows.now) c.args.from (omega (arith, c.length-k.ensures.is)) in
    record { next = (record { skipped = skipped-none c.requires; stands = λ l. stands }, in_section); few = omega (arith, c.tokens-after.ensures.few) }

pub returns-else-from-after-clause-next : goal.returns-else-from-after-clause-next
returns-else-from-after-clause-next g c =
    skipped_between (skipped-none {to = c.args.from} (omega arith)) c.requires (omega arith) (omega arith) (λ p a b. absurd (omega (arith, c.tokens-after.ensures.is)))

pub returns-then-stands_first : goal.returns-then-stands_first
returns-then-stands_first g c =
    let in_section : c.args.from ≤ (g.R.Rows.searched c.args.rows.now).section.tokens = omega (arith, c.tokens-after.ensures.is) in
    record { next = (record { skipped = skipped-none c.requires; stands = λ l. c.stands_first.ensures c.if-stands_first.true }, in_section); few = omega (arith, in_section, c.tokens-after.ensures.is, c.tokens-after.ensures.few) }

pub returns-in-Some : goal.returns-in-Some
returns-in-Some g c =
    let s = g.R.Rows.searched c.args.rows.now in
    let words = g.R.Rows.words c.args.rows.now in
    let f = first_from_Range _ _ _ c.find.result (λ p. stand_from s words p ≡ true) (λ p. stand_from s words p ≡ false) c.find.ensures.ran (λ x q k. search rules) (λ x q k. search rules) in
    let found = rw c.in-Some.is at f in
    let begin = skipped-on c.loop-p.invariant.1 c.pass-begin.ensures c.pass-begin.ensures.up_to in
    let in_section : c.in-Some.start ≤ s.section.tokens = omega (arith, found.1, c.min.ensures, c.pass-begin.ensures.up_to, c.tokens-after.ensures.is) in
    record {
      next = (record { skipped = skipped_between begin found.0 (omega arith) (omega arith) found.3; stands = λ l. found.2 }, in_section);
      few = omega (arith, in_section, c.tokens-after.ensures.is, c.tokens-after.ensures.few);
    }

pub loop-p-preserved : goal.loop-p-preserved
loop-p-preserved g c =
    let s = g.R.Rows.searched c.args.rows.now in
    let words = g.R.Rows.words c.args.rows.now in
    let f = first_from_Range _ _ _ c.find.result (λ p. stand_from s words p ≡ true) (λ p. stand_from s words p ≡ false) c.find.ensures.ran (λ x q k. search rules) (λ x q k. search rules) in
    let none = rw c.in_default.is at f in
    let begin = skipped-on c.loop-p.invariant.1 c.pass-begin.ensures c.pass-begin.ensures.up_to in
    (omega (arith, c.after-by.ensures, c.length-k.ensures.is), skipped_between begin (omega arith) (omega (arith, c.min.ensures, c.pass-begin.ensures.up_to, c.tokens-after.ensures.is)) (omega (arith, c.min.ensures, c.pass-begin.ensures.up_to)) none)

pub returns-clause-next : goal.returns-clause-next
returns-clause-next g c =
    skipped_beyond c.loop-p.invariant.1 (omega (arith, c.loop-p.invariant.1.up_to, c.tokens-after.ensures.is)) (omega (arith, c.tokens-after.ensures.is, c.length-k.ensures.is))
