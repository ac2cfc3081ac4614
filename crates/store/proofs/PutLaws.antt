-- Laws of Put: numbers put one after the other are put as one list, and whatever lies below them is held still.
use Prim.Native.Nat.{ℕ, ◌+◌, ◌-◌, ◌/◌, ◌≤◌, ◌<◌}
use native.Mathlib.Omega.{arith}
use mathlib.Core.Bool.{Bool, true, false}
use mathlib.Core.Path.{◌≡◌, refl, sym, ap, ap₂, ◌∙◌, subst}
use mathlib.Core.List.{List, [], ◌∷◌, ◌++◌}
use mathlib.Core.Logic.{inl}
use lib.ListN.{length, take, drop, get_or, set, length-append}
use lib.Seq.{sets, length-sets, sets-eq}
use Rattle.std.specs.List.{copy_within}
use Rattle.model.specs.Limits.{radix}
use Rattle.model.specs.Matches.{Match, strings_in}
use Rattle.model.specs.Rules.{kept_if}
use Rattle.strings.specs.Strings.{strs_of}
use Rattle.store.specs.Layout.{Holds, header_between, header_of, match_length, match_numbers, matches_numbers}
use Rattle.store.specs.Indices.{ClosingMatch, Counts}
use Rattle.store.specs.Put.{Put}
use Rattle.store.specs.Stream.{MatchHolds}
use Rattle.model.proofs.SetsLaws.{sets-append}
use Rattle.store.proofs.MemoryLaws.{sets_front, sets-held, holds-written, holds-other, holds-part}
use Rattle.store.proofs.LayoutLaws.{length-strs_of, matches_kept, matches_dropped}
use Rattle.store.proofs.DecodeLaws.{length-held}

pub put-none : (mem : List ℕ) (q : ℕ) → Put mem mem q [] q
put-none mem q = record { wrote = refl; next_is = omega arith }

module _ {a b : List ℕ} {q next : ℕ} {xs : List ℕ} (v : Put a b q xs next) where
  pub length-put : length b ≡ length a
  length-put = ap length v.wrote ∙ length-sets a q xs

  pub holds-put : next ≤ length a → Holds b q xs
  holds-put h = rw v.wrote (holds-written a q xs (omega (arith, v.next_is)))

  pub holds-below : {at : ℕ} {ys : List ℕ} → at + length ys ≤ q → Holds a at ys → Holds b at ys
  holds-below h r = rw v.wrote (holds-other a q xs (inl h) r)

  -- then numbers after them ..
  pub put-append : {c : List ℕ} {end : ℕ} {ys : List ℕ} → Put b c next ys end → Put a c q (xs ++ ys) end
  put-append {ys = ys} w =
      record {
        wrote = w.wrote ∙ ap (λ l. sets l next ys) v.wrote ∙ ap (λ k. sets (sets a q xs) k ys) v.next_is ∙ sym (sets-append a q xs ys);
        next_is = omega (arith, w.next_is, v.next_is, length-append xs ys);
      }

  -- .. or in front of them
  pub put_front : {c : List ℕ} {at : ℕ} {ys : List ℕ} → Put b c at ys q → Put a c at (ys ++ xs) next
  put_front {c} {at} {ys} w =
      record {
        wrote = w.wrote ∙ ap (λ l. sets l at ys) v.wrote ∙ sets_front a at ys xs q w.next_is;
        next_is = omega (arith, w.next_is, v.next_is, length-append ys xs);
      }

-- numbers after others that memory holds already
pub put-held : {a b : List ℕ} {q next : ℕ} {xs ys : List ℕ} (at : ℕ) → at ≡ q + length xs → Holds a q xs → Put a b at ys next → Put a b q (xs ++ ys) next
put-held {a} {q = q} {xs = xs} {ys} at e r v =
    record {
      wrote = v.wrote ∙ ap₂ (λ l k. sets l k ys) (sym (sets-held xs r)) e ∙ sym (sets-append a q xs ys);
      next_is = omega (arith, v.next_is, length-append xs ys);
    }

-- a copy of numbers that memory holds
pub put_copy : {a b : List ℕ} {from end to next : ℕ} {xs : List ℕ} → end ≡ from + length xs → next ≡ to + length xs → next ≤ length a → Holds a from xs
    → b ≡ copy_within a from end to → Put a b to xs next
put_copy {a} {b} {from} {end} {to} {next} {xs} e f room h w =
    let n : end - from ≡ length xs = omega arith in
    let part : b ≡ take to a ++ xs ++ drop (to + length xs) a =
    w ∙ ap₂ (λ ys k. take to a ++ ys ++ drop (to + k) a) (holds-part (end - from) n h) n in
    record { wrote = part ∙ sym (sets-eq xs a to (omega arith)); next_is = f }

-- ---- a match

-- its strings put, and then its header in front of them
pub put_match : {a b : List ℕ} {q next header : ℕ} (m : Match) → Put a b (q + 1) (strs_of 0 m.includes ++ strs_of 1 m.excludes) next
    → header ≡ header_of (length m.includes) (length m.excludes) → Put a (set b q header) q (match_numbers m) next
unfolding match_numbers
put_match {b = b} {q} {header = header} m v e =
    let front : Put b (set b q header) q (header_of (length m.includes) (length m.excludes) ∷ []) (q + 1) = record { wrote = ap (set b q) e; next_is = refl } in
    put_front v front

-- its includes put, its excludes after them, and then its header by where both end
module _ {a b c : List ℕ} (q : ℕ) {excludes end : ℕ} (m : Match) (v : Put a b (q + 1) (strs_of 0 m.includes) excludes) (w : Put b c excludes (strs_of 1 m.excludes) end) where
  includes-are : (excludes - (q + 1)) / 2 ≡ length m.includes
  includes-are = omega (arith, v.next_is, length-strs_of 0 m.includes)

  excludes-are : (end - excludes) / 2 ≡ length m.excludes
  excludes-are = omega (arith, w.next_is, length-strs_of 1 m.excludes)

  pub closing_match : strings_in m < radix → q < length a → ClosingMatch (length c) q excludes end
  closing_match few h =
      let counts : Counts ((excludes - (q + 1)) / 2) ((end - excludes) / 2) = omega (arith, includes-are, excludes-are) in
      omega (arith, v.next_is, w.next_is, length-put v, length-put w)

  pub closed_match : {d : List ℕ} → d ≡ set c q (header_between q excludes end) → Put a d q (match_numbers m) end
  closed_match {d} e = subst (λ l. Put a l q (match_numbers m) end) (sym e) (put_match m (put-append v w) (ap₂ header_of includes-are excludes-are))

-- a match copied
pub put-copied : {a b : List ℕ} {p end q next : ℕ} {m : Match} → MatchHolds a p m → end ≡ p + match_length (get_or a p 0) → next ≡ q + match_length (get_or a p 0)
    → next ≤ length a → b ≡ copy_within a p end q → Put a b q (match_numbers m) next
put-copied h e f room w = put_copy (omega (arith, e, length-held h)) (omega (arith, f, length-held h)) room h.holds w

-- a match that is kept, and one that is not
pub put-kept : {a b : List ℕ} {q next : ℕ} {test : Bool} (m : Match) → test ≡ true → Put a b q (match_numbers m) next → Put a b q (matches_numbers (kept_if test m)) next
put-kept {a} {b} {q} {next} m e v = subst (λ xs. Put a b q xs next) (sym (matches_kept m e)) v

pub length-kept : {mem : List ℕ} {p : ℕ} {m : Match} {test : Bool} → MatchHolds mem p m → test ≡ true → length (matches_numbers (kept_if test m)) ≡ match_length (get_or mem p 0)
length-kept {m = m} h e = ap length (matches_kept m e) ∙ sym (length-held h)

pub put_dropped : {test : Bool} (m : Match) (a : List ℕ) (q : ℕ) → test ≡ false → Put a a q (matches_numbers (kept_if test m)) q
put_dropped m a q e = subst (λ xs. Put a a q xs q) (sym (matches_dropped m e)) (put-none a q)
