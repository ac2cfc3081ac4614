-- Invariant: what mild not makes of the matches passed is written and counted, the others of L lie where they were, and a part of R, if one is known, decides as all
-- of R does. R lies below what is written, so each turn finds it as it was; no list comes out longer than L.
use Rattle.std.proofs.Common.{◌≡◌, ◌+◌, length}
use Rattle.store.specs.Slot.{TwoSlots}
use Rattle.store.proofs.EachLaws.{Counting}
use Rattle.candidates.specs.Candidates.{KnownAre}
use Rattle.mild_not.specs.Uncovered.{mild_not}
use Rattle.mild_not.proofs.mild_not_list.Given as goal

abbrev pub invariant-loop-i : goal.invariant-loop-i
invariant-loop-i l =
    (length l.mem ≡ length l.initial.mem)
    × ((w : TwoSlots l.initial.mem l.l l.r) → Counting (mild_not w.rights) w.lefts l.initial.mem l.n (l.at + 2) l.mem l.left l.q l.i l.matches × KnownAre w.rights l.mem l.r l.known)
