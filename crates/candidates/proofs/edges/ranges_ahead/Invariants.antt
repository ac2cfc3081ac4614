-- Invariant: the ranges, widened to the matches that are still to come, are what they are to be.
use Rattle.candidates.specs.Edges.{ranges_at}
use Rattle.candidates.proofs.EdgesLaws.{Widening}
use Rattle.store.specs.Stream.{StreamAt}
use Rattle.candidates.proofs.edges.ranges_ahead.Given as goal

abbrev pub invariant-loop : goal.invariant-loop
invariant-loop l = (w : StreamAt l.mem l.from l.n) → Widening w.list (ranges_at l.fn.edges) l.mem l.n l.at l.counter l.ranges
