-- Invariant: the numbers of the matches passed are written up to q, and the others lie from from on. Each match brings one number for each of its
-- strings, so room for all is room for the next.
use mathlib.Core.Path.{◌≡◌}
use lib.ListN.{length}
use Rattle.listing_buffer.specs.Columns.{column_in, offset_of, ColumnAt}
use Rattle.listing_buffer.proofs.ColumnLoopLaws.{Writing}
use Rattle.listing_buffer.proofs.put_column.Given as goal

abbrev pub invariant-loop : goal.invariant-loop
invariant-loop l =
    (length l.buffer ≡ length l.initial.buffer)
    × ((w : ColumnAt l.mem l.first l.n (length l.initial.buffer) l.at) → Writing (column_in (offset_of l.column)) w.list l.mem l.n l.initial.buffer l.at l.buffer l.from l.q l.counter)
