-- A phrase's list is one of finds. In memory each find is a header and a string, three numbers: find number d lies 3 × d numbers after the first.
use Prim.Native.Nat.{ℕ, zero, suc, ◌+◌, ◌*◌, ◌≤◌, ◌<◌}
use native.Mathlib.Omega.{arith}
use mathlib.Core.Path.{◌≡◌, refl, sym, ◌∙◌, subst}
use mathlib.Core.List.{List, [], ◌∷◌, ◌++◌, map, map-map}
use lib.ListN.{length, drop, length-map}
use Rattle.model.specs.Answers.{span_of, tag_of}
use Rattle.model.specs.Limits.{max_matches}
use Rattle.model.specs.Lists.{keep, from_to}
use Rattle.model.specs.Matches.{Str, strings}
use Rattle.model.specs.Rules.{stand_from, phrase_list}
use Rattle.model.specs.Families.{Searched}
use Rattle.strings.specs.Strings.{strs_of}
use Rattle.store.specs.Layout.{Holds, matches_at, match_numbers, matches_numbers}
use Rattle.store.specs.Put.{Put}
use Rattle.store.specs.Slot.{SlotHolds}
use Rattle.store.proofs.LayoutLaws.{length_matches, matches_cons}
use Rattle.store.proofs.MemoryLaws.{holds-left, holds-right, holds_tail}
use Rattle.store.proofs.SlotsLaws.{matches_held, slot-stream, slot-below}
use Rattle.occurs.specs.Finds.{find, finds_of}
use Rattle.occurs.specs.Writing.{Source}

pub phrase-finds : (s : Searched) (rank : ℕ) (ws : List ℕ) → phrase_list s rank ws ≡ map find (finds_of s rank ws)
unfolding phrase_list finds_of
phrase-finds s rank ws = sym (map-map find _ (keep (stand_from s ws) (from_to 1 s.section.tokens)))

-- ---- in memory

strings-finds : (ss : List Str) → strings (map find ss) ≡ length ss
unfolding strings
strings-finds [] = refl
strings-finds (s ∷ ss) = omega (arith, strings-finds ss)

pub length-finds : (ss : List Str) → length (matches_numbers (map find ss)) ≡ 3 * length ss
length-finds ss = omega (arith, length_matches (map find ss), strings-finds ss, length-map ss find)

-- the first find's string, and the finds after it
pub record FirstFind (mem : List ℕ) (from : ℕ) (s : Str) (ss : List Str) : Type 0 where
  pub string : Holds mem (from + 1) (span_of s ∷ tag_of 0 s ∷ [])
  pub after : Holds mem (from + 3) (matches_numbers (map find ss))

pub first-find : {mem : List ℕ} {from : ℕ} (s : Str) (ss : List Str) → Holds mem from (matches_numbers (map find (s ∷ ss))) → FirstFind mem from s ss
unfolding match_numbers strs_of
first-find {mem} {from} s ss h =
    let xs = match_numbers (find s) in
    let ys = matches_numbers (map find ss) in
    let both : Holds mem from (xs ++ ys) = subst (Holds mem from) (matches_cons (find s) (map find ss)) h in
    record { string = holds_tail _ (holds-left xs ys both); after = holds-right xs ys both }

-- find number d's string
pub record FindAt (mem : List ℕ) (from : ℕ) (ss : List Str) (d : ℕ) : Type 0 where
  pub first : Str
  pub others : List Str
  pub is : drop d ss ≡ first ∷ others
  pub string : Holds mem (from + 3 * d + 1) (span_of first ∷ tag_of 0 first ∷ [])

pub find_at : {mem : List ℕ} {from : ℕ} (ss : List Str) (d : ℕ) → Holds mem from (matches_numbers (map find ss)) → d < length ss → FindAt mem from ss d
find_at [] d h k = absurd (omega arith)
find_at {mem} {from} (s ∷ ss) zero h k =
    let e : from + 1 ≡ from + 3 * 0 + 1 = omega arith in
    record { first = s; others = ss; is = refl; string = subst (λ p. Holds mem p (span_of s ∷ tag_of 0 s ∷ [])) e (first-find s ss h).string }
find_at {mem} {from} (s ∷ ss) (suc d) h k =
    let f = find_at {from = from + 3} ss d (first-find s ss h).after (omega arith) in
    let t = f.first in
    let e : from + 3 + 3 * d + 1 ≡ from + 3 * suc d + 1 = omega arith in
    record { first = t; others = f.others; is = f.is; string = subst (λ p. Holds mem p (span_of t ∷ tag_of 0 t ∷ [])) e f.string }

-- ---- in a slot

module _ {mem : List ℕ} {src : ℕ} (finds : List Str) (s : SlotHolds mem src (map find finds)) where
  pub finds-counted : matches_at mem src ≡ length finds
  finds-counted = matches_held s ∙ length-map finds find

  pub finds-few : length finds ≤ max_matches
  finds-few = omega (arith, s.few, length-map finds find)

  pub finds_hold : Holds mem (src + 2) (matches_numbers (map find finds))
  finds_hold = (slot-stream s (src + 2) _ refl refl).holds

-- stores above the finds leave them, and what is to come lies above them too
pub source-below : {finds : List Str} {mem mem' : List ℕ} {src at q next : ℕ} {xs : List ℕ} → Source finds mem src at → at ≤ q
    → Put mem mem' q xs next → Source finds mem' src next
source-below {finds} s h v =
    record { slot = slot-below v {ms = map find finds} (omega (arith, s.below)) s.slot; below = omega (arith, s.below, v.next_is) }
