-- Invariant: the positions up to p are passed, and `last` is the last nonzero sentence up to p.
use Rattle.std.proofs.Common.{◌≡◌}
use Rattle.model.specs.Checks.{last_nonzero}
use Rattle.model.specs.Section.{sentence_at}
use Rattle.section.specs.Looks.{faulty_after}
use Rattle.section.proofs.places.Places.scan.Given as goal

abbrev pub invariant-loop-p : goal.invariant-loop-p
invariant-loop-p l =
    (l.last.0 ≡ last_nonzero (sentence_at l.self.section.now) l.p) × (faulty_after l.self.section.now l.from l.to ≡ faulty_after l.self.section.now l.p l.to)
