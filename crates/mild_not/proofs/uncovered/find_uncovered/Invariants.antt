-- Invariant: the strings left have an uncovered position just where all do, and cover nothing that all don't. The run of a string that stops being covered within it
-- stops at such a position.
use Rattle.strings.specs.Strings.{strs_at}
use Rattle.mild_not.proofs.UncoveredLaws.{Searching}
use Rattle.mild_not.proofs.uncovered.find_uncovered.Given as goal

abbrev pub invariant-loop-s : goal.invariant-loop-s
invariant-loop-s l = Searching (strs_at l.lefts) (strs_at l.rights) l.s-iterator
