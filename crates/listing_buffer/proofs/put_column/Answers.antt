use Prim.Native.Nat.{◌≤◌}
use native.Mathlib.Omega.{arith}
use mathlib.Core.Path.{refl}
use Rattle.store.specs.Stream.{MatchHeader}
use Rattle.listing_buffer.proofs.ColumnLoopLaws.{Room, start, here, finish, column_room, column_step}
use borrow.Author.Rules.{rules}
use Rattle.listing_buffer.specs.Columns.{offset_of}
use Rattle.listing_buffer.specs.declared.Column.{Column}
use Rattle.listing_buffer.specs.declared.Column.TheVariants.{Spans, Tags}
use Rattle.listing_buffer.proofs.put_column.Goals as goal
use Rattle.listing_buffer.proofs.put_column.Goals.{After-strings-strings, In-loop}

-- a string is two numbers
offset-small : (column : Column) → offset_of column ≤ 1
offset-small Spans = omega arith
offset-small Tags = omega arith

-- the header in hand
one : (c : In-loop) → MatchHeader c.args.mem.now c.loop.from
one c = (here (c.loop.invariant.1 c.requires) c.loop-test.true).held.header

-- and room for its strings' numbers
room : (c : After-strings-strings) → Room c.args.mem.now c.loop.buffer c.loop.from c.loop.q c.strings-strings.result
room c = column_room _ (c.loop.invariant.1 c.requires) c.loop-test.true c.strings-strings.ensures c.requires.room

pub loop-init : goal.loop-init
loop-init c = (refl, λ w. start w.stream w.count)

pub bounds_at-bounds-requires : goal.bounds_at-bounds-requires
bounds_at-bounds-requires c = one c

pub offset_bounds-mem-from : goal.offset_bounds-mem-from
offset_bounds-mem-from c = omega (arith, one (goal.at.offset_bounds-mem-from c).In-loop)

pub bounds-mem-from : goal.bounds-mem-from
bounds-mem-from c = omega (arith, one (goal.at.bounds-mem-from c).In-loop)

pub overflow_add-bounds : goal.overflow_add-bounds
overflow_add-bounds c = omega (arith, room (goal.at.overflow_add-bounds c).After-strings-strings, c.bounds_at-bounds.ensures, c.offset.ensures, offset-small c.args.column)

pub copy_every_second-requires : goal.copy_every_second-requires
copy_every_second-requires c = omega (arith, room (goal.at.copy_every_second-requires c).After-strings-strings, c.bounds_at-bounds.ensures, c.offset.ensures, offset-small c.args.column)

pub overflow_add-q : goal.overflow_add-q
overflow_add-q c = omega (arith, room (goal.at.overflow_add-q c).After-strings-strings)

pub loop-preserved : goal.loop-preserved
loop-preserved c = (
  search rules,
  λ w. column_step _ (c.loop.invariant.1 w) c.loop-test.true c.strings-strings.ensures c.bounds_at-bounds.ensures (offset-small c.args.column)
      (rw c.offset.ensures at c.copy_every_second.ensures),
)

pub returns : goal.returns
returns c w = finish (c.loop.invariant.1 w) c.loop-test.false
