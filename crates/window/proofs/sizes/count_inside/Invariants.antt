-- Invariant: the count so far and what the strings left add to it are the whole (Counted).
use Rattle.strings.specs.Strings.{strs_at}
use Rattle.window.proofs.SizesLaws.{Counted}
use Rattle.window.proofs.sizes.count_inside.Given as goal

abbrev pub invariant-loop-s : goal.invariant-loop-s
invariant-loop-s l = Counted l.n l.run.lo.0 l.run.hi.0 (strs_at l.strs) l.s-iterator l.count
