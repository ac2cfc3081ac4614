-- The text of an answer: of a refusal its one line; of a listing what is decoded from the buffer that holds it, in the room that there is.
use Prim.Native.Nat.{ℕ, ◌+◌, ◌≤◌}
use native.Mathlib.Omega.{arith}
use mathlib.Core.Path.{◌≡◌, sym, ap, ap₂, subst, ◌∙◌}
use mathlib.Core.Bool.{Bool}
use mathlib.Core.List.{List, ◌++◌, flat_map}
use lib.ListN.{length, length-append}
use lib.Seq.{sets}
use Rattle.model.specs.Bytes.{bytes}
use Rattle.model.specs.Matches.{Match}
use Rattle.model.specs.declared.Listing.{Listing}
use Rattle.model.specs.declared.Listing.TheVariants.{Listed, Refused}
use Rattle.model.specs.Checks.{number_of}
use Rattle.model.specs.declared.Refusal.{Refusal}
use Rattle.model.proofs.AnswersLaws.{length-listing_numbers}
use Rattle.store.specs.Put.{Put}
use Rattle.store.proofs.PutLaws.{put-append, length-put}
use Rattle.text.specs.Decoded.{matches_at, total_at, LinesAt, listed_text}
use Rattle.text.specs.Printable.{text_length, ListingIn, PrintableAs, Printable}
use Rattle.text.specs.Printed.{line_of, match_text, head_text, answer_text, listing_text}
use Rattle.text.proofs.DecodedLaws.{listing_strings, listing_lines}
use Rattle.text.proofs.RoomLaws.{listing_short}

-- ---- a listing, from the buffer that holds it

module _ {matches strs : ℕ} {ms : List Match} {buffer : List ℕ} (g : ListingIn matches strs ms buffer) where
  pub listing_within : LinesAt buffer 2 (2 + matches) (2 + matches + strs) matches
  listing_within =
      let k = ap (λ n. total_at buffer 2 n) g.matches_are ∙ listing_strings ms g.holds in
      omega (arith, g.holds.within, length-listing_numbers ms, g.matches_are, g.strings_are, k)

  pub listing_decoded : (said : Bool) → listed_text said matches strs buffer ≡ answer_text said matches strs ++ flat_map match_text ms
  unfolding listed_text
  listing_decoded said =
      let e = ap₂ (λ m k. flat_map line_of (matches_at buffer 2 (2 + m) (2 + m + k) m)) g.matches_are g.strings_are ∙ listing_lines ms g.holds g.valid in
      ap (λ l. answer_text said matches strs ++ l) e

  pub listing_room : (said : Bool) → length (listed_text said matches strs buffer) ≤ text_length
  listing_room said =
      let e = ap₂ (λ m k. answer_text said m k ++ flat_map match_text ms) g.matches_are g.strings_are in
      omega (arith, ap length (listing_decoded said ∙ e), listing_short said ms g.few g.short g.valid)

-- what its first line leaves to its others
pub length-listed : (said : Bool) (matches strs : ℕ) (buffer : List ℕ)
    → length (listed_text said matches strs buffer) ≡ length (answer_text said matches strs) + length (flat_map line_of (matches_at buffer 2 (2 + matches) (2 + matches + strs) matches))
unfolding listed_text
length-listed said matches strs buffer = length-append (answer_text said matches strs) (flat_map line_of (matches_at buffer 2 (2 + matches) (2 + matches + strs) matches))

pub put-listed : {a b c : List ℕ} {first next : ℕ} (said : Bool) (matches strs : ℕ) (buffer : List ℕ) → Put a b 0 (answer_text said matches strs) first
    → Put b c first (flat_map line_of (matches_at buffer 2 (2 + matches) (2 + matches + strs) matches)) next → Put a c 0 (listed_text said matches strs buffer) next
unfolding listed_text
put-listed said matches strs buffer v w = put-append v w

-- what there is room for ends within it
pub put-within : {a b : List ℕ} {q next : ℕ} {xs : List ℕ} → Put a b q xs next → q + length xs ≤ length a → next ≤ length b
put-within v h = omega (arith, v.next_is, length-put v)

-- ---- an answer

-- the listing that is the answer
pub listing_in : {answer : Listing} {buffer : List ℕ} {matches strs : ℕ} {said : Bool} → answer ≡ Listed matches strs said → (w : Printable answer buffer)
    → ListingIn matches strs w.list buffer
listing_in {buffer = buffer} e w = subst (λ a. PrintableAs a w.list buffer) e w.held

-- what is put is the answer's text
pub record PutText (a b : List ℕ) (text : List ℕ) (r : ℕ) : Type 0 where
  pub wrote : b ≡ sets a 0 text
  pub length-is : r ≡ length text

put-text : {a b : List ℕ} {r : ℕ} {text : List ℕ} (xs : List ℕ) → text ≡ xs → Put a b 0 xs r → PutText a b text r
put-text {a} xs e v = record { wrote = v.wrote ∙ ap (sets a 0) (sym e); length-is = omega (arith, v.next_is, ap length e) }

pub text-refused : {answer : Listing} {a b : List ℕ} {n : ℕ} (r : Refusal) → answer ≡ Refused r
    → Put a b 0 (head_text (bytes "refused ") (number_of r.reason) r.place) n → (ms : List Match) → PutText a b (listing_text answer ms) n
unfolding listing_text
text-refused r e v ms = put-text _ (ap (λ x. listing_text x ms) e) v

pub text-listed : {answer : Listing} {buffer a b : List ℕ} {r matches strs : ℕ} {said : Bool} → answer ≡ Listed matches strs said
    → Put a b 0 (listed_text said matches strs buffer) r → (w : Printable answer buffer) → PutText a b (listing_text answer w.list) r
unfolding listing_text
text-listed {said = said} e v w = put-text _ (ap (λ x. listing_text x w.list) e ∙ sym (listing_decoded (listing_in e w) said)) v
