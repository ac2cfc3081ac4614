use Rattle.std.proofs.Common.{rules}
use borrow.Author.Tests.{tests}
use Rattle.families.proofs.order.block_falls.Goals as goal

pub returns : goal.returns
returns c = λ e i l. let h = c.block_has.ensures e i l in search (rules, tests)
