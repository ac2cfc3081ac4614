-- The filters read so far are followed by the rest. Measure: the bytes left.
use Rattle.lent_text.specs.State.{left}
use Rattle.flat_rules.proofs.FiltersLaws.{Filters}
use Rattle.flat_rules.proofs.filters.Given as goal

abbrev pub invariant-loop-reader : goal.invariant-loop-reader
invariant-loop-reader l = Filters l.fn.reader l.reader

abbrev pub decreases-loop-reader : goal.decreases-loop-reader
decreases-loop-reader l = left l.reader
