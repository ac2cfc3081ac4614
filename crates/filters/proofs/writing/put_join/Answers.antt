-- Strings give the two numbers of one, and no string gives none.
use Rattle.filters.proofs.WritingLaws.{join-room, put_no_join}
use Rattle.filters.proofs.writing.put_join.Goals as goal

pub put_string-requires : goal.put_string-requires
put_string-requires c = join-room c.args.mem.now c.args.bounds c.args.q c.requires (rw c.includes.ensures at c.in-Some.ensures)

pub returns-in-None : goal.returns-in-None
returns-in-None c = put_no_join c.args.mem.now _ c.args.q (rw c.includes.ensures at c.in-None.ensures)
