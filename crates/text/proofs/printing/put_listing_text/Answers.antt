-- A refusal is one line; a listing is what the buffer gives, which is its text where the buffer holds it.
use native.Mathlib.Omega.{arith}
use Rattle.text.proofs.ListingsLaws.{listing_within, listing_room, listing_in, put-within, text-refused, text-listed}
use Rattle.text.proofs.RoomLaws.{head_room}
use Rattle.text.proofs.printing.put_listing_text.Goals as goal

pub put_head-requires : goal.put_head-requires
put_head-requires c = head_room _ _ _ _ (omega arith) (omega arith) (omega arith) (omega arith)

pub put_listed-requires : goal.put_listed-requires
put_listed-requires c =
    let g = listing_in c.in-Listed.is c.requires.printable in
    record { text_length_in_bounds = omega arith; lines_at = listing_within g; buffer_in_bounds = omega (arith, listing_room g c.in-Listed.yes) }

pub returns-in-Refused : goal.returns-in-Refused
returns-in-Refused c =
    let put = text-refused _ c.in-Refused.is (rw c.from-number.ensures at c.put_head.ensures) in
    record {
      text_after = λ w. (put w.list).wrote;
      value = λ w. (put w.list).length-is;
      upper_bound = put-within c.put_head.ensures (head_room _ _ _ _ (omega arith) (omega arith) (omega arith) (omega arith));
    }

pub returns-in-Listed : goal.returns-in-Listed
returns-in-Listed c =
    let put = text-listed c.in-Listed.is c.put_listed.ensures in
    let g = listing_in c.in-Listed.is c.requires.printable in
    record { text_after = λ w. (put w).wrote; value = λ w. (put w).length-is; upper_bound = put-within c.put_listed.ensures (omega (arith, listing_room g c.in-Listed.yes)) }
