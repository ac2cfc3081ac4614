-- The witness's includes are the strings within the bounds; where they are not joined, their numbers are copied.
use Rattle.filters.proofs.WritingLaws.{join-fits, put-joined, copy_fits, put_plain}
use Rattle.filters.proofs.writing.put_includes.Goals as goal

pub put_join-requires : goal.put_join-requires
put_join-requires c = join-fits c.args.joins c.requires c.if-joins.true

pub returns-then-joins : goal.returns-then-joins
returns-then-joins c w = put-joined c.args.joins w c.if-joins.true c.put_join.ensures

pub copy_within-requires-clause-dest_in_bounds : goal.copy_within-requires-clause-dest_in_bounds
copy_within-requires-clause-dest_in_bounds c = copy_fits c.args.joins c.requires c.if-joins.false

pub returns : goal.returns
returns c w = put_plain c.args.joins w c.if-joins.false c.copy_within.ensures.after
