-- Invariant: of the excludes before number i those that stay are written, in order, from `to` on. The includes lie below what is written, so that each exclude is
-- tested against the same.
use Rattle.std.proofs.Common.{◌≡◌, ◌+◌, ◌*◌, length}
use Rattle.filters.specs.Writing.{RoomAt, excludes_numbers}
use Rattle.filters.proofs.WritingLaws.{Staying}
use Rattle.filters.proofs.writing.put_excludes.Given as goal

abbrev pub invariant-loop-i : goal.invariant-loop-i
invariant-loop-i g l =
    (length l.mem ≡ length l.initial.mem)
    × ((w : RoomAt (excludes_numbers (g.K.Keeper.keeping l.keeper)) l.initial.mem l.bounds l.to)
    → Staying (g.K.Keeper.keeping l.keeper) w.item l.initial.mem l.bounds.end l.to l.mem (l.bounds.excludes + 2 * l.i) l.q)
