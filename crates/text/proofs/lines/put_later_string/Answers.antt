-- A blank, and the string after it.
use Rattle.store.proofs.PutLaws.{put-append}
use Rattle.text.proofs.lines.put_later_string.Goals as goal

pub returns : goal.returns
returns c =
    put-append c.put_byte-first.ensures c.put_string.ensures
