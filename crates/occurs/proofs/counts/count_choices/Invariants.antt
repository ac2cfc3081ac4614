-- Invariant: the choices of d finds less than all, and of more, are counted, with their includes, and those of d finds less by themselves (Counting).
use Prim.Native.Nat.{◌-◌}
use Rattle.occurs.proofs.CountsLaws.{Counting}
use Rattle.occurs.proofs.counts.count_choices.Given as goal

abbrev pub invariant-loop-d : goal.invariant-loop-d
invariant-loop-d l = Counting l.m l.a (l.m - l.d) l.counts.fewest l.counts.choices l.counts.includes
