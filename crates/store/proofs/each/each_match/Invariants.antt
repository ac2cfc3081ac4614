-- Invariant: what the rule makes of the matches passed is written from `at` to q, and the others lie at `from` as they were.
use mathlib.Core.Path.{◌≡◌}
use lib.ListN.{length}
use Rattle.store.specs.Each.{Writer}
use Rattle.store.proofs.EachLaws.{Going}
use Rattle.store.proofs.each.each_match.Given as goal

abbrev pub invariant-loop : goal.invariant-loop
invariant-loop g l =
    (length l.mem ≡ length l.initial.mem)
    × ((w : Writer (goal.F-pre g l.put) (goal.F-post g l.put) l.initial.mem l.first l.n l.at) → Going w.rule w.list l.initial.mem l.n l.at l.mem l.from l.q l.counter)
