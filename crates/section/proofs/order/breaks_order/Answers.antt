-- Just one is zero where the tests for zero differ.
use Rattle.std.proofs.Common.{rules}
use Rattle.std.proofs.lemmas.Bool.Decides.{nat_tests}
use Rattle.section.proofs.OrderLaws.{differ}
use Rattle.section.proofs.order.breaks_order.Goals as goal

pub returns : goal.returns
returns c = rw differ (search (rules, nat_tests))
