use Prim.Native.Nat.{ℕ, ◌+◌, ◌-◌, ◌≤◌}
use borrow.Rule.Slice.PartMut.{put_mid}
use lib.Seq.{sets, sets-eq}
use Rattle.std.proofs.Common.{◌≡◌, List, length, refl, append_assoc, arith}
use Rattle.std.proofs.lemmas.List.{drop-drop}
use Rattle.text.proofs.words.put_word.Goals as goal

-- a part of a text that is replaced by a word of its length
put-part : (text word part : List ℕ) (at end : ℕ) → at + length word ≤ length text → end ≡ at + length word → part ≡ word
    → put_mid at (end - at) text part ≡ sets text at word
put-part text word part at end h e same =
    let k : end - at ≡ length word = omega arith in
    rw (same, k, sets-eq word text at h, append_assoc, drop-drop)

pub returns : goal.returns
returns c = record { wrote = put-part c.args.text.now c.args.word.now _ c.args.at _ (omega arith) refl c.copy_from_slice.ensures.after; next_is = refl }
