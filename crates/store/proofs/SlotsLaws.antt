-- A list in its slot: its header and its stream; what an answer tells of a list; and how a rule comes to its outcome, where it sizes its list first or
-- writes it and then puts the header.
use Prim.Native.Nat.{ℕ, ◌+◌, ◌≤◌, ◌<◌}
use native.Mathlib.Omega.{arith}
use mathlib.Core.Path.{◌≡◌, refl, sym, ap, ap₂, ◌∙◌, subst}
use mathlib.Core.Bool.{Bool, true, false, cond, or-true, true≢false}
use mathlib.Core.List.{List, [], ◌∷◌}
use mathlib.Core.Logic.{◌⊎◌, inl, inr}
use borrow.Author.Tests.{lt-ltb, le-ltb, ltb-false}
use lib.Dec.{ltb}
use lib.ListN.{length, get_or}
use lib.Seq.{sets}
use Rattle.model.specs.AllStrings.{AllList}
use Rattle.model.specs.Limits.{max_matches, max_strings}
use Rattle.model.specs.Matches.{Match, strings, too_long}
use Rattle.model.proofs.TestsLaws.{both_false}
use Rattle.store.specs.declared.Size.{Size}
use Rattle.store.specs.declared.TooLong.{TooLong}
use Rattle.store.specs.Built.{Built, built_of, made, over, Small}
use Rattle.store.specs.Indices.{Closing}
use Rattle.store.specs.ValidStr.{ValidStr}
use Rattle.store.specs.Layout.{Holds, matches_numbers, slot_length, slot_numbers, slot_size, strings_before}
use Rattle.store.specs.Outcome.{Outcome, Closed}
use Rattle.store.specs.Put.{Put, PutMatches}
use Rattle.store.specs.Slot.{SlotHeader, SlotHolds}
use Rattle.store.specs.Stream.{Remaining}
use Rattle.store.proofs.MemoryLaws.{get_d_head, holds_tail}
use Rattle.store.proofs.PutLaws.{holds-put, holds-below, put_front, length-put}
use Rattle.std.specs.Prelude.{IsErr, Ok, Err}
use Rattle.store.proofs.LayoutLaws.{length_matches, length-slot, slot-fits}

-- ---- SlotHolds

module _ {mem : List ℕ} {at : ℕ} (ms : List Match) (r : Holds mem at (slot_numbers ms)) where
  first_head : get_or mem at 0 ≡ length ms
  unfolding slot_numbers
  first_head = get_d_head _ r

  second_head : get_or mem (at + 1) 0 ≡ strings ms
  unfolding slot_numbers
  second_head = get_d_head _ (holds_tail _ r)

  -- a list in a slot, with its header's numbers
  pub slot-holds : Small ms → AllList ValidStr ms → SlotHolds mem at ms
  slot-holds h f =
      let numbers : SlotHeader mem at = omega (arith, first_head, second_head, length-slot ms, r.within) in
      record { holds = r; few = h.few; strs = h.strs; valid = f; header = numbers }

module _ {mem : List ℕ} {at : ℕ} {ms : List Match} (s : SlotHolds mem at ms) where
  pub slot_small : Small ms
  slot_small = record { few = s.few; strs = s.strs }

  -- its counts and its length by its header
  pub matches_held : get_or mem at 0 ≡ length ms
  matches_held = first_head ms s.holds

  pub strings-held : get_or mem (at + 1) 0 ≡ strings ms
  strings-held = second_head ms s.holds

  pub length-slot-held : slot_length mem at ≡ length (slot_numbers ms)
  length-slot-held = omega (arith, matches_held, strings-held, length-slot ms)

  -- the matches after the header
  pub slot-stream : (p end : ℕ) → p ≡ at + 2 → end ≡ at + slot_length mem at → Remaining ms mem p end
  unfolding slot_numbers
  slot-stream p end e f =
      record {
        holds = subst (λ k. Holds mem k (matches_numbers ms)) (omega arith) (holds_tail _ (holds_tail _ s.holds));
        up_to = omega (arith, matches_held, strings-held, length_matches ms);
        few = s.strs;
        valid = s.valid;
      }

-- stores above a slot leave it
pub slot-below : {mem mem' : List ℕ} {q next : ℕ} {xs : List ℕ} → Put mem mem' q xs next
    → {at : ℕ} {ms : List Match} → at + slot_size ≤ q → SlotHolds mem at ms → SlotHolds mem' at ms
slot-below v {ms = ms} h s = slot-holds ms (holds-below v (omega (arith, slot-fits ms (slot_small s))) s.holds) (slot_small s) s.valid

-- ---- too_long, built_of

module _ (ms : List Match) where
  pub not-long : Small ms → too_long ms ≡ false
  not-long h = rw (le-ltb max_matches (length ms) h.few, le-ltb max_strings (strings ms) h.strs)

  pub long : (max_matches < length ms) ⊎ (max_strings < strings ms) → too_long ms ≡ true
  long (inl h) = rw (lt-ltb max_matches (length ms) h)
  long (inr h) = rw (lt-ltb max_strings (strings ms) h) (or-true (ltb max_matches (length ms)))

  -- the answer of a list that isn't too long, and of one that is
  pub built_made : {m s : ℕ} → length ms ≡ m → strings ms ≡ s → Small ms → made m s ≡ built_of ms
  built_made e f h = rw (not-long h) (sym (ap₂ made e f))

  pub built_long : (max_matches < length ms) ⊎ (max_strings < strings ms) → over ≡ built_of ms
  built_long h = rw (long h)

  -- what an answer tells of the list
  pub record Sized (size : Size) : Type 0 where
    pub fits : too_long ms ≡ false
    pub small : Small ms
    pub matches_are : length ms ≡ size.matches
    pub strings_are : strings ms ≡ size.strings

  pub answer_made : {size : Size} → Ok size ≡ built_of ms → Sized size
  answer_made {size} e = at (too_long ms) refl e
    where
      at : (t : Bool) → too_long ms ≡ t → Ok size ≡ cond t over (made (length ms) (strings ms)) → Sized size
      at true q e' = absurd cc
      at false q e' =
          let b = both_false (ltb max_matches (length ms)) (ltb max_strings (strings ms)) q in
          let same : size ≡ record { matches = length ms; strings = strings ms } = cc in
          record {
            fits = q;
            small = record { few = ltb-false max_matches (length ms) b.0; strs = ltb-false max_strings (strings ms) b.1 };
            matches_are = ap (λ (z : Size). z.matches) (sym same);
            strings_are = ap (λ (z : Size). z.strings) (sym same);
          }

  pub answer-long : over ≡ built_of ms → too_long ms ≡ true
  answer-long e = at (too_long ms) e
    where
      at : (t : Bool) → over ≡ cond t over (made (length ms) (strings ms)) → t ≡ true
      at true e' = refl
      at false e' = absurd cc

-- there is one error
pub the-error : (b : Built) → IsErr b → b ≡ over
the-error (Ok z) h = absurd (true≢false (sym h))
the-error (Err e) h = refl

-- ---- Outcome

-- what closing a slot wants, where its list is within the limits
pub closing : {ms : List Match} {entry exit : List ℕ} {at next matches : ℕ} → Small ms → PutMatches entry exit (at + 2) ms next matches
    → at + slot_size ≤ length entry → Closing (length exit) at next matches
closing {ms} h v room = omega (arith, v.put.next_is, length_matches ms, v.count_is, length-put v.put)

module _ {ms : List Match} {entry exit : List ℕ} {at : ℕ} where
  -- a rule that sizes first refuses a list that is too long: it returns the error
  pub refused : {built result : Built} {e : TooLong} → built ≡ built_of ms → built ≡ Err e → IsErr result → Outcome ms entry exit at result
  refused {built} {result} e t h =
      let g : result ≡ over = the-error result h in
      let long : over ≡ built_of ms = sym t ∙ e in
      record { answered = g ∙ long; written = λ f. absurd (true≢false (sym (answer-long ms long) ∙ f)) }

  -- a rule has written its list after the header, and then puts it
  pub filled : {E : List ℕ} {size : Size} {next : ℕ} → Ok size ≡ built_of ms → Put entry E (at + 2) (matches_numbers ms) next
      → exit ≡ sets E at (size.matches ∷ size.strings ∷ []) → Outcome ms entry exit at (Ok size)
  unfolding slot_numbers
  filled {E} {size} b v e =
      let z = answer_made ms b in
      let front : Put E exit at (length ms ∷ strings ms ∷ []) (at + 2) =
      record { wrote = e ∙ ap₂ (λ x y. sets E at (x ∷ y ∷ [])) (sym z.matches_are) (sym z.strings_are); next_is = refl } in
      record { answered = b; written = λ f. (put_front v front).wrote }

  -- .. by the number of its matches and the index after them
  pub closed : {E : List ℕ} {next matches : ℕ} {size : Size} → Small ms → PutMatches entry E (at + 2) ms next matches
      → Closed E exit at next matches size → Outcome ms entry exit at (Ok size)
  closed {next = next} {matches} h v c =
      let strings_are : strings ms ≡ strings_before next at matches = omega (arith, v.put.next_is, length_matches ms, v.count_is) in
      subst (λ z. Outcome ms entry exit at (Ok z)) (sym c.counted) (filled (built_made ms v.count_is strings_are h) v.put c.header)

  module _ {built : Built} (o : Outcome ms entry exit at built) where
    -- the list as numbers put
    pub outcome-put : too_long ms ≡ false → Put entry exit at (slot_numbers ms) (at + length (slot_numbers ms))
    outcome-put f = record { wrote = o.written f; next_is = refl }

    -- what a rule's caller then has
    pub outcome-slot : {size : Size} → built ≡ Ok size → AllList ValidStr ms → at + slot_size ≤ length entry → SlotHolds exit at ms
    outcome-slot e f h =
        let z = answer_made ms (sym e ∙ o.answered) in
        slot-holds ms (holds-put (outcome-put z.fits) (omega (arith, slot-fits ms z.small))) z.small f
