-- The bytes from the position on, as many as have room, stand at the front of the zeros.
use Rattle.lent_text.proofs.LentLaws.{copied_front}
use Rattle.lent_text.proofs.lent.copy_from.Goals as goal

pub returns : goal.returns
returns c = rw (c.copy_from_slice.ensures.after) (copied_front c.args.text.now c.args.at c.min.result c.min-n.result c.min.ensures c.min-n.ensures)
