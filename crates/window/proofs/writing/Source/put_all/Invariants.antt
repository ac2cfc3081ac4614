-- Invariant: the windows before the one in hand are written. There is room for all, so there is for each.
use Prim.Native.Nat.{◌+◌, ◌/◌}
use mathlib.Core.Path.{◌≡◌}
use Rattle.model.specs.Limits.{radix}
use lib.ListN.{length}
use Rattle.window.specs.Windows.{WindowsAt}
use Rattle.window.proofs.WindowsLaws.{EachSoFar}
use Rattle.window.proofs.writing.Source.put_all.Given as goal

abbrev pub invariant-loop-last : goal.invariant-loop-last
invariant-loop-last l =
    (length l.mem ≡ length l.initial.mem)
    × ((w : WindowsAt l.self.n l.initial.mem l.self.excludes l.self.end l.q l.self.join.span l.self.join.tag) → EachSoFar l.self.n w.item l.initial.mem (l.self.join.span / radix + l.self.n) l.q l.mem l.last l.next)
