-- Invariant: the words of the family's entries before `from` are told. Measure: the entries left.
use Rattle.std.proofs.Common.{◌+◌, ◌-◌, ◌≤◌}
use Rattle.model.specs.Section.{size}
use Rattle.families.specs.Kin.{Gathered}
use Rattle.families.proofs.table.Table.gather.Given as goal

abbrev pub invariant-loop-i : goal.invariant-loop-i
invariant-loop-i l = (1 ≤ l.from) × (l.from ≤ size l.self.lent.now + 1) × Gathered l.self.lent.now l.family l.kin l.from

abbrev pub decreases-loop-i : goal.decreases-loop-i
decreases-loop-i l = size l.self.lent.now + 1 - l.from
