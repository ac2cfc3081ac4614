use Rattle.std.proofs.Common.{sym, eq-eqb, ne_eqb, arith}
use Rattle.model.specs.Families.{equal_words}
use Rattle.phrase.proofs.RowsLaws.{stands_without, stands_each}
use Rattle.phrase.proofs.equal.Equal.all_equal.Goals as goal

pub returns-then-self-p : goal.returns-then-self-p
returns-then-self-p c =
    sym (stands_without (equal_words c.args.self.now.section.now) c.args.self.now.words.now c.args.p c.loop-i.i (omega arith) (omega arith) (ne_eqb _ _ c.if-self-p.true))

pub returns : goal.returns
returns c =
    sym (stands_each (equal_words c.args.self.now.section.now) c.args.self.now.words.now c.args.p (omega arith) (λ i l. eq-eqb _ _ (c.loop-i.invariant i (omega arith))))
