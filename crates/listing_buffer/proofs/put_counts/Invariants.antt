-- Invariant: the counts of the first i matches are written, and the others lie from at on. The place of a count is its match's number, so the buffer's
-- index needs no variable.
use Prim.Native.Nat.{◌+◌}
use mathlib.Core.Path.{◌≡◌}
use lib.ListN.{length}
use Rattle.store.specs.Stream.{StreamAt}
use Rattle.listing_buffer.proofs.ColumnLoopLaws.{Writing, count_in}
use Rattle.listing_buffer.proofs.put_counts.Given as goal

abbrev pub invariant-loop-i : goal.invariant-loop-i
invariant-loop-i l =
    (length l.buffer ≡ length l.initial.buffer) × ((w : StreamAt l.mem l.first l.n) → Writing count_in w.list l.mem l.n l.initial.buffer l.q l.buffer l.at (l.q + l.i) l.i)
