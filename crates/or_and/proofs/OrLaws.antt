-- Or: the right list's matches copied after the left list's are both lists' matches, and the sums of the headers are their sizes.
use Prim.Native.Nat.{ℕ, ◌+◌, ◌-◌, ◌≤◌}
use native.Mathlib.Omega.{arith}
use mathlib.Core.Path.{◌≡◌, refl, sym, ap₂, ◌∙◌, subst}
use mathlib.Core.List.{List, [], ◌∷◌}
use lib.ListN.{length}
use lib.Seq.{sets}
use Rattle.model.specs.Rules.{or_list}
use Rattle.model.proofs.RulesLaws.{length-or, strings-or}
use Rattle.std.specs.Prelude.{Ok}
use Rattle.std.specs.List.{copy_within}
use Rattle.store.specs.declared.Size.{Size}
use Rattle.store.specs.Built.{built_of, sized_as}
use Rattle.store.specs.Layout.{matches_at, matches_numbers, strings_at, slot_length, slot_size}
use Rattle.store.specs.Outcome.{Outcome}
use Rattle.store.specs.Put.{Put}
use Rattle.store.proofs.LayoutLaws.{length_matches, matches_append}
use Rattle.store.proofs.PutLaws.{put_copy, put-held}
use Rattle.store.proofs.SlotsLaws.{matches_held, strings-held, slot-stream, filled}
use Rattle.store.specs.Slot.{TwoSlots}

module _ {mem : List ℕ} {l r : ℕ} (w : TwoSlots mem l r) where
  -- its sizes by the headers of the two slots
  pub or-sizes : {ml mr sl sr : ℕ} → ml ≡ matches_at mem l → mr ≡ matches_at mem r → sl ≡ strings_at mem l → sr ≡ strings_at mem r
      → sized_as (ml + mr) (sl + sr) ≡ built_of (or_list w.lefts w.rights)
  or-sizes a b c d =
      ap₂ (λ m s. sized_as m s) (ap₂ ◌+◌ (a ∙ matches_held w.left) (b ∙ matches_held w.right) ∙ sym (length-or w.lefts w.rights))
      (ap₂ ◌+◌ (c ∙ strings-held w.left) (d ∙ strings-held w.right) ∙ sym (strings-or w.lefts w.rights))

  module _ {size : Size} (b : Ok size ≡ built_of (or_list w.lefts w.rights)) {to end : ℕ} (e : to ≡ l + slot_length mem l) (f : end ≡ r + slot_length mem r) where
    -- the matches copied, and then the header put
    pub or_filled : {E exit : List ℕ} → l + slot_size ≤ r → E ≡ copy_within mem (r + 2) end to → exit ≡ sets E l (size.matches ∷ size.strings ∷ [])
        → Outcome (or_list w.lefts w.rights) mem exit l (Ok size)
    or_filled {E} h g i =
        let A = (slot-stream w.left (l + 2) _ refl refl).holds in
        let B = (slot-stream w.right (r + 2) _ refl refl).holds in
        let n : length (matches_numbers w.rights) ≡ end - (r + 2) = omega (arith, length_matches w.rights, matches_held w.right, strings-held w.right) in
        let copied : Put mem E to (matches_numbers w.rights) (to + (end - (r + 2))) =
        put_copy (omega arith) (omega arith) (omega (arith, w.left.header, w.right.header)) B g in
        let both = put-held to (omega (arith, length_matches w.lefts, matches_held w.left, strings-held w.left)) A copied in
        filled b (subst (λ xs. Put mem E (l + 2) xs (to + (end - (r + 2)))) (sym (matches_append w.lefts w.rights)) both) i
