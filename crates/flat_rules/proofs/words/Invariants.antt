-- The words read so far are followed by the rest of the phrase.
use Rattle.flat_rules.proofs.PhrasesLaws.{Worded}
use Rattle.flat_rules.proofs.words.Given as goal

abbrev pub invariant-loop-size : goal.invariant-loop-size
invariant-loop-size l = Worded l.fn.reader l.reader l.size
