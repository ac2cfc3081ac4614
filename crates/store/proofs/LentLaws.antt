-- Numbers that are those of matches, whole: the first is a header, by which the first match's strings and the numbers after them are found; so what is read match by match
-- is what was written.
use Prim.Native.Nat.{ℕ, zero, suc, ◌+◌, ◌-◌, ◌*◌, ◌≤◌, ◌<◌}
use native.Mathlib.Omega.{arith}
use mathlib.Core.Path.{◌≡◌, refl, sym, ap, ap₂, ◌∙◌, subst}
use mathlib.Core.List.{List, [], ◌∷◌, ◌++◌, append_assoc}
use lib.ListN.{length, take, drop, get_or, length-append}
use lib.Seq.{take-append_seam, drop-append_seam, take-length}
use Rattle.std.specs.Iterator.{YieldsFirstBy}
use Rattle.std.proofs.lemmas.Iterator.{YieldsList}
use Rattle.std.proofs.lemmas.Iterator.Consumers.{YieldsList-from_first}
use borrow.Author.Tests.{le-ltb}
use lib.Dec.{ltb}
use Rattle.model.specs.AllStrings.{AllMatch}
use Rattle.model.specs.Lists.{Every, is_empty}
use Rattle.store.specs.ValidStr.{ValidStr}
use Rattle.model.specs.Limits.{max_strings}
use Rattle.model.specs.Matches.{Match, strings}
use Rattle.strings.specs.Strings.{strs_at, strs_of}
use Rattle.store.specs.Layout.{excludes_in, header_of, includes_in, match_numbers, matches_numbers}
use Rattle.store.specs.Lent.{match_lent, matches_in, Whole}
use Rattle.store.specs.Stream.{Remaining}
use Rattle.store.proofs.DecodeLaws.{strs_back}
use Rattle.store.proofs.LayoutLaws.{length-strs_of, length_matches, matches_cons, matches_none}
use Rattle.store.proofs.MemoryLaws.{holds-part}

-- ---- the first match

-- what the numbers of a match and others after them are, by the header
pub record First (xs : List ℕ) (m : Match) (others : List ℕ) (header : ℕ) (strs : List ℕ) : Type 0 where
  pub includes_are : take (2 * includes_in header) strs ≡ strs_of 0 m.includes
  pub excludes_are : take (2 * excludes_in header) (drop (2 * includes_in header) strs) ≡ strs_of 1 m.excludes
  pub others_are : drop (2 * excludes_in header) (drop (2 * includes_in header) strs) ≡ others
  pub long : 2 * includes_in header + 2 * excludes_in header + length others ≡ length strs

pub first_of : (m : Match) (others : List ℕ) {header : ℕ} {strs : List ℕ} → length m.includes + length m.excludes ≤ max_strings
    → header ∷ strs ≡ match_numbers m ++ others → First (header ∷ strs) m others header strs
unfolding match_numbers
first_of m others {header} {strs} few e =
    let A = strs_of 0 m.includes in
    let B = strs_of 1 m.excludes in
    let h : header ≡ header_of (length m.includes) (length m.excludes) = cc in
    let s : strs ≡ (A ++ B) ++ others = cc in
    let t : strs ≡ A ++ (B ++ others) = s ∙ append_assoc A B others in
    let i : 2 * includes_in header ≡ length A = omega (arith, h, length-strs_of 0 m.includes) in
    let x : 2 * excludes_in header ≡ length B = omega (arith, h, length-strs_of 1 m.excludes) in
    let after : drop (2 * includes_in header) strs ≡ B ++ others = ap₂ drop i t ∙ drop-append_seam A (B ++ others) in
    record {
      includes_are = ap₂ take i t ∙ take-append_seam A (B ++ others);
      excludes_are = ap₂ take x after ∙ take-append_seam B others;
      others_are = ap₂ drop x after ∙ drop-append_seam B others;
      long = omega (arith, i, x, ap length t, length-append A (B ++ others), length-append B others);
    }

-- its strings read back
pub first_read : {xs others strs : List ℕ} {header : ℕ} (m : Match) → First xs m others header strs → AllMatch ValidStr m
    → record { includes = strs_at (take (2 * includes_in header) strs); excludes = strs_at (take (2 * excludes_in header) (drop (2 * includes_in header) strs)) } ≡ m
first_read m f v =
    let a = ap strs_at f.includes_are ∙ strs_back 0 m.includes (omega arith) v.includes in
    let b = ap strs_at f.excludes_are ∙ strs_back 1 m.excludes (omega arith) v.excludes in
    λ i. record { includes = a i; excludes = b i }

-- ---- whole numbers

pub read_back : (k : ℕ) (ms : List Match) → length ms ≤ k → strings ms ≤ max_strings → Every (AllMatch ValidStr) ms → matches_in k (matches_numbers ms) ≡ ms
unfolding matches_in match_numbers strings Every
read_back zero [] h f v = refl
read_back zero (m ∷ ms) h f v = absurd (omega arith)
read_back (suc k) [] h f v = ap (matches_in (suc k)) matches_none
read_back (suc k) (m ∷ ms) h f v =
    let A = strs_of 0 m.includes in
    let B = strs_of 1 m.excludes in
    let others = matches_numbers ms in
    let numbers : matches_numbers (m ∷ ms) ≡ header_of (length m.includes) (length m.excludes) ∷ ((A ++ B) ++ others) = matches_cons m ms in
    let shape = first_of m others (omega arith) refl in
    ap (matches_in (suc k)) numbers
    ∙ ap₂ ◌∷◌ (first_read m shape v.0) (ap (matches_in k) shape.others_are ∙ read_back k ms (omega arith) (omega arith) v.1)

pub whole_read : {xs : List ℕ} (w : Whole xs) (k : ℕ) → length xs ≤ k → matches_in k xs ≡ w.list
whole_read w k h = ap (matches_in k) w.is ∙ read_back k w.list (omega (arith, ap length w.is, length_matches w.list)) w.few w.valid

-- the next of the matches, and those after it
pub record NextWhole (xs : List ℕ) (header : ℕ) (strs : List ℕ) : Type 0 where
  pub first : Match
  pub rest : List Match
  pub shape : First xs first (matches_numbers rest) header strs
  pub valid : AllMatch ValidStr first
  pub read : matches_in (length xs) xs ≡ first ∷ rest
  pub few : strings rest ≤ max_strings
  pub valid_rest : Every (AllMatch ValidStr) rest

next_whole : {header : ℕ} {strs : List ℕ} → Whole (header ∷ strs) → NextWhole (header ∷ strs) header strs
unfolding strings Every
next_whole {header} {strs} w = at w.list w.is w.few w.valid (whole_read w (length (header ∷ strs)) (omega arith))
  where
    at : (ms : List Match) → header ∷ strs ≡ matches_numbers ms → strings ms ≤ max_strings → Every (AllMatch ValidStr) ms
        → matches_in (length (header ∷ strs)) (header ∷ strs) ≡ ms → NextWhole (header ∷ strs) header strs
    at [] e f v r = absurd (let none : header ∷ strs ≡ [] = e ∙ matches_none in cc)
    at (m ∷ ms) e f v r =
        record {
          first = m;
          rest = ms;
          shape = first_of m (matches_numbers ms) (omega arith) (e ∙ matches_cons m ms);
          valid = v.0;
          read = r;
          few = omega arith;
          valid_rest = v.1;
        }

-- .. as a pattern takes a slice apart: its first number, and the others
pub next_of : (xs : List ℕ) → Whole xs → 1 ≤ length xs → NextWhole xs (get_or xs 0 0) (take (length xs - 1) (drop 1 xs))
next_of [] w h = absurd (omega arith)
next_of (header ∷ strs) w h =
    let n : length (header ∷ strs) - 1 ≡ length strs = omega arith in
    let all : take (length (header ∷ strs) - 1) strs ≡ strs = ap (λ k. take k strs) n ∙ take-length strs in
    subst (NextWhole (header ∷ strs) header) (sym all) (next_whole w)

module _ {xs strs : List ℕ} {header : ℕ} (n : NextWhole xs header strs) {i x : ℕ} (a : i ≡ includes_in header) (b : x ≡ excludes_in header)
    {front back middle end : List ℕ} (f : front ≡ take (2 * i) strs) (g : back ≡ drop (2 * i) strs) (h : middle ≡ take (2 * x) back) (j : end ≡ drop (2 * x) back) where
  back_is : back ≡ drop (2 * includes_in header) strs
  back_is = g ∙ ap (λ k. drop (2 * k) strs) a

  end_is : end ≡ matches_numbers n.rest
  end_is = j ∙ ap₂ (λ k l. drop (2 * k) l) b back_is ∙ n.shape.others_are

  pub after_whole : Whole end
  after_whole = record { list = n.rest; is = end_is; few = n.few; valid = n.valid_rest }

  pub next_read : matches_in (length xs) xs ≡ record { includes = strs_at front; excludes = strs_at middle } ∷ matches_in (length end) end
  unfolding after_whole
  next_read =
      let p : strs_at front ≡ n.first.includes = ap strs_at (f ∙ ap (λ k. take (2 * k) strs) a ∙ n.shape.includes_are) ∙ strs_back 0 n.first.includes (omega arith) n.valid.includes in
      let q : strs_at middle ≡ n.first.excludes =
      ap strs_at (h ∙ ap₂ (λ k l. take (2 * k) l) b back_is ∙ n.shape.excludes_are) ∙ strs_back 1 n.first.excludes (omega arith) n.valid.excludes in
      let first : n.first ≡ record { includes = strs_at front; excludes = strs_at middle } = λ t. record { includes = sym p t; excludes = sym q t } in
      n.read ∙ ap₂ ◌∷◌ first (sym (whole_read after_whole (length end) (omega arith)))

pub none_left : (xs : List ℕ) → length xs < 1 → matches_in (length xs) xs ≡ []
unfolding matches_in
none_left [] h = refl
none_left (x ∷ xs) h = absurd (omega arith)

-- what `next` gives of the matches that are left; the chain of them yields the list's
pub yields_matches : {s ms : List Match} → s ≡ ms → YieldsList (YieldsFirstBy match_lent (λ ms. ms)) match_lent s ms
yields_matches {ms = ms} e = YieldsList-from_first match_lent (λ ms. ms) ms e

-- a slice without a pair of numbers has no string
pub short-none : (xs : List ℕ) → ltb (length xs) 2 ≡ is_empty (strs_at xs)
unfolding strs_at is_empty
short-none [] = refl
short-none (x ∷ []) = refl
short-none (x ∷ y ∷ xs) = le-ltb (length (x ∷ y ∷ xs)) 2 (omega arith)

abbrev pub whole-stream : {ms : List Match} {mem : List ℕ} {p end : ℕ} → Remaining ms mem p end → Whole (take (end - p) (drop p mem))
whole-stream {ms} l = record { list = ms; is = holds-part _ (omega (arith, l.up_to)) l.holds; few = l.few; valid = l.valid }
