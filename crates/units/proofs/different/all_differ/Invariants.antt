-- Invariant: what is left passes both tests just where all strings do. Measure: the strings left.
use Rattle.std.proofs.Common.{◌≡◌, length}
use Rattle.model.specs.Section.{section_of}
use Rattle.strings.specs.Strings.{strs_at}
use Rattle.units.proofs.UnitsLaws.{both_tests}
use Rattle.units.proofs.different.all_differ.Given as goal

abbrev pub invariant-loop-s : goal.invariant-loop-s
invariant-loop-s g l = both_tests (g.U.Unit.unit_in (section_of l.section)) l.rest ≡ both_tests (g.U.Unit.unit_in (section_of l.section)) (strs_at l.strs)

abbrev pub decreases-loop-s : goal.decreases-loop-s
decreases-loop-s g l = length l.rest
