-- Invariant: the numbers of the strings passed that are inside are written, and the strings left lie where they were, below what is written. What is written at the end is
-- the numbers of the strings kept.
use Prim.Native.Nat.{◌+◌, ◌*◌}
use mathlib.Core.Path.{◌≡◌}
use lib.ListN.{length}
use Rattle.window.specs.Inside.{ExcludesAt}
use Rattle.window.proofs.InsideLaws.{Copying}
use Rattle.window.proofs.writing.Source.put_inside.Given as goal

abbrev pub invariant-loop-i : goal.invariant-loop-i
invariant-loop-i l =
    (length l.mem ≡ length l.initial.mem)
    × ((w : ExcludesAt l.self.n l.last.0 l.initial.mem l.self.excludes l.self.end l.q)
    → Copying l.self.n l.last.0 w.list l.initial.mem l.self.end l.q l.mem l.next (l.self.excludes + 2 * l.i))
