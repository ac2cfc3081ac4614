-- The word by the test, as the definition has it; a word and any two numbers take no more room than there is.
use native.Mathlib.Omega.{arith}
use Rattle.text.proofs.PutsLaws.{put-answer}
use Rattle.text.proofs.RoomLaws.{head_room}
use Rattle.text.proofs.printing.put_answer.Goals as goal

pub put_head-requires : goal.put_head-requires
put_head-requires c = head_room _ _ _ _ (omega arith) (omega arith) (omega arith) (omega arith)

pub returns-then-said : goal.returns-then-said
returns-then-said c =
    put-answer c.args.said c.args.matches c.args.strings c.if-said.true c.put_head.ensures

pub put_head-requires-2 : goal.put_head-requires-2
put_head-requires-2 c = head_room _ _ _ _ (omega arith) (omega arith) (omega arith) (omega arith)

pub returns : goal.returns
returns c =
    put-answer c.args.said c.args.matches c.args.strings c.if-said.false c.put_head-2.ensures
