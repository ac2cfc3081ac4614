-- The sizes come first, so that a list that is too long is refused before anything is written, and one that is not has room in its slot.
use mathlib.Core.Path.{◌≡◌}
use Rattle.std.specs.Prelude.{Ok}
use Rattle.store.proofs.SlotsLaws.{refused}
use Rattle.negation.proofs.ChoicesLaws.{all_of, made}
use Rattle.negation.proofs.not_list.Goals as goal

pub returns-in_err-size : goal.returns-in_err-size
returns-in_err-size c w = refused (c.not_size.ensures w) c.in_err-size.was c.from_residual.ensures.0

pub put_all-requires : goal.put_all-requires
put_all-requires c =
    all_of c.requires.slot_at c.requires.slot_below (c.not_size.ensures c.requires.slot_at) c.in_ok-size.was

pub returns : goal.returns
returns c w =
    let e = c.not_size.ensures w in
    let t : c.not_size.result ≡ Ok c.in_ok-size.size = c.in_ok-size.was in
    made w c.requires.slot_below e t (c.put_all.ensures (all_of w c.requires.slot_below e t)) c.put_slot_header.ensures
