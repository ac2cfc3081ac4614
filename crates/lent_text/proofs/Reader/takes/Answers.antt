use Rattle.std.proofs.Common.{refl}
use Rattle.lent_text.proofs.TokensLaws.{taken, kept}
use Rattle.lent_text.proofs.Reader.takes.Goals as goal

pub returns-then-is : goal.returns-then-is
returns-then-is c =
    rw c.if-is.true (taken c.args.symbol c.args.self.now _ c.requires c.symbol.ensures.symbol c.eq-is.ensures c.if-is.true c.pass.ensures.passed c.pass.ensures.few)

pub returns-else-is : goal.returns-else-is
returns-else-is c =
    rw c.if-is.false (kept c.args.symbol c.args.self.now c.args.self.now c.requires c.symbol.ensures.symbol c.eq-is.ensures c.if-is.false refl)
