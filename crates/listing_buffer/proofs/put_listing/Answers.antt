-- The two counts and three passes, each from where the one before ends. The passes keep the buffer's length, and 1,282 numbers hold any list within the limits.
use Prim.Native.Nat.{◌≤◌}
use native.Mathlib.Omega.{arith}
use mathlib.Core.Path.{◌∙◌}
use lib.ListN.{length, length-set}
use Rattle.model.specs.Limits.{buffer_length}
use Rattle.listing_buffer.proofs.ListingLaws.{CountsAre, counts_given, column_given, listed}
use Rattle.listing_buffer.proofs.put_listing.Goals as goal
use Rattle.listing_buffer.proofs.put_listing.Goals.{After-put_column, After-put_counts, After-size_at-size}

-- the buffer keeps its length
long : (c : After-put_counts) → buffer_length ≤ length c.put_counts.new.buffer
long c = omega (arith, simp length-set at c.put_counts.auto.buffer)

longer : (c : After-put_column) → buffer_length ≤ length c.put_column.new.buffer
longer c = omega (arith, simp length-set at c.put_counts.auto.buffer, c.put_column.auto.buffer)

-- the two counts
counts : (c : After-size_at-size) → CountsAre c.args.mem.now c.args.src c.size_at-size.result.matches c.size_at-size.result.strings
counts c = record { matches_are = c.size_at-size.ensures.matches; strings_are = c.size_at-size.ensures.strings }

pub bounds-buffer-1 : goal.bounds-buffer-1
bounds-buffer-1 c = simp length-set (omega arith)

pub put_counts-requires : goal.put_counts-requires
put_counts-requires c = record { stream_at = counts_given c.requires.slot_at.slot (counts (goal.at.put_counts-requires c).After-size_at-size); n_in_bounds = simp length-set (omega arith) }

pub put_column-requires : goal.put_column-requires
put_column-requires c = column_given c.requires.slot_at.slot (counts (goal.at.put_column-requires c).After-size_at-size) _ (omega arith) (long (goal.at.put_column-requires c).After-put_counts)

pub put_column-requires-2 : goal.put_column-requires-2
put_column-requires-2 c = column_given c.requires.slot_at.slot (counts (goal.at.put_column-requires-2 c).After-size_at-size) _ (omega arith) (longer (goal.at.put_column-requires-2 c).After-put_column)

pub shape_of-buffer : goal.shape_of-buffer
shape_of-buffer c =
    c.put_column-2.auto.buffer ∙ c.put_column.auto.buffer ∙ c.put_counts.auto.buffer ∙ simp length-set

pub returns : goal.returns
returns c w =
    let s = w.slot in
    let k = counts (goal.at.returns c).After-size_at-size in
    listed s k _ (c.put_counts.ensures (counts_given s k)) (c.put_column.ensures (column_given s k _ (omega arith) (long (goal.at.returns c).After-put_counts)))
    (c.put_column-2.ensures (column_given s k _ (omega arith) (longer (goal.at.returns c).After-put_column)))
