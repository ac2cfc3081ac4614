-- What is written of strings is read back: a valid string is its span and its tag, and the two counts of a match's header say where its includes and
-- its excludes lie.
use Prim.Native.Nat.{ℕ, ◌+◌, ◌-◌, ◌*◌, ◌/◌, ◌%◌, ◌≤◌, ◌<◌}
use native.Mathlib.Omega.{arith}
use mathlib.Core.Path.{◌≡◌, refl, sym, ap, ap₂, ◌∙◌, subst}
use mathlib.Core.Bool.{Bool, true, false, cond}
use mathlib.Core.List.{List, [], ◌∷◌, ◌++◌}
use lib.Dec.{eqb}
use lib.ListN.{length, take, drop, get_or}
use Rattle.model.specs.AllStrings.{AllStrs, AllMatch}
use Rattle.model.specs.Answers.{span_of, tag_of}
use Rattle.model.specs.Limits.{radix, max_strings}
use Rattle.model.specs.Lists.{Every}
use Rattle.model.specs.Matches.{Str, Match, strings_in}
use Rattle.model.proofs.LimitsLaws.{upper_half, lower_half}
use Rattle.strings.specs.Strings.{strs_of, str_of, strs_at}
use Rattle.store.specs.ValidStr.{ValidStr}
use Rattle.store.specs.declared.bounds.Bounds.{Bounds}
use Rattle.store.specs.Layout.{BoundsOf, Holds, header_of, includes_in, excludes_in, match_length, match_numbers}
use Rattle.store.specs.Stream.{MatchHeader, MatchHolds}
use Rattle.store.proofs.MemoryLaws.{get_d_head, holds_tail, holds-left, holds-right, holds-part}
use Rattle.store.proofs.LayoutLaws.{length-strs_of, length_match}

-- ---- str_of, strs_at

tag-query : (q sort : ℕ) (c : Bool) → sort ≤ 1 → (q * 4 + cond c 2 0 + sort) / 4 ≡ q
tag-query q sort true h = omega arith
tag-query q sort false h = omega arith

tag-contiguous : (q sort : ℕ) (c : Bool) → sort ≤ 1 → eqb ((q * 4 + cond c 2 0 + sort) / 2 % 2) 1 ≡ c
tag-contiguous q sort true h = let e : (q * 4 + 2 + sort) / 2 % 2 ≡ 1 = omega arith in rw e
tag-contiguous q sort false h = let e : (q * 4 + 0 + sort) / 2 % 2 ≡ 0 = omega arith in rw e

pub str_back : (sort : ℕ) (s : Str) → sort ≤ 1 → ValidStr s → str_of (span_of s) (tag_of sort s) ≡ s
str_back sort s h f =
    let below : s.end < radix = omega (arith, f.end_up_to) in
    let a = upper_half s.start s.end below in
    let b = lower_half s.start s.end below in
    λ i. record { start = a i; end = b i; query = tag-query s.query sort s.contiguous h i; contiguous = tag-contiguous s.query sort s.contiguous h i }

pub strs_back : (sort : ℕ) (ss : List Str) → sort ≤ 1 → AllStrs ValidStr ss → strs_at (strs_of sort ss) ≡ ss
unfolding strs_of strs_at Every
strs_back sort [] h f = refl
strs_back sort (s ∷ ss) h f = ap₂ ◌∷◌ (str_back sort s h f.0) (strs_back sort ss h f.1)

-- the strings of a slice that ends between two strings, and of the slice after it
pub strs_at-append : (n : ℕ) (xs ys : List ℕ) → length xs ≡ 2 * n → strs_at (xs ++ ys) ≡ strs_at xs ++ strs_at ys
unfolding strs_at
strs_at-append n [] ys h = refl
strs_at-append n (x ∷ []) ys h = absurd (omega arith)
strs_at-append n (span ∷ tag ∷ xs) ys h = ap (λ ss. str_of span tag ∷ ss) (strs_at-append (n - 1) xs ys (omega arith))

-- ---- a match in memory

module _ {mem : List ℕ} {p : ℕ} (m : Match) (r : Holds mem p (match_numbers m)) (few : strings_in m ≤ max_strings) where
  header_is : get_or mem p 0 ≡ header_of (length m.includes) (length m.excludes)
  unfolding match_numbers
  header_is = get_d_head _ r

  includes-are : includes_in (get_or mem p 0) ≡ length m.includes
  includes-are = omega (arith, header_is)

  excludes-are : excludes_in (get_or mem p 0) ≡ length m.excludes
  excludes-are = omega (arith, header_is)

  -- a match in memory, with its header's numbers
  pub match_holds : AllMatch ValidStr m → MatchHolds mem p m
  match_holds f =
      let numbers : MatchHeader mem p = omega (arith, includes-are, excludes-are, length_match m, r.within) in
      record { holds = r; few = few; valid = f; header = numbers }

module _ {mem : List ℕ} {p : ℕ} {m : Match} (h : MatchHolds mem p m) where
  -- its counts and its length by its header
  pub includes-held : includes_in (get_or mem p 0) ≡ length m.includes
  includes-held = includes-are m h.holds h.few

  pub excludes-held : excludes_in (get_or mem p 0) ≡ length m.excludes
  excludes-held = excludes-are m h.holds h.few

  pub strings-counted : includes_in (get_or mem p 0) + excludes_in (get_or mem p 0) ≡ strings_in m
  strings-counted = omega (arith, includes-held, excludes-held)

  pub length-held : match_length (get_or mem p 0) ≡ length (match_numbers m)
  length-held = omega (arith, includes-held, excludes-held, length_match m)

  -- where its strings lie: its includes, and its excludes after them ..
  pub strings_hold : (a : ℕ) → a ≡ p + 1 → Holds mem a (strs_of 0 m.includes ++ strs_of 1 m.excludes)
  unfolding match_numbers
  strings_hold a e = rw e (holds_tail _ h.holds)

  pub includes_hold : (a : ℕ) → a ≡ p + 1 → Holds mem a (strs_of 0 m.includes)
  includes_hold a e = holds-left (strs_of 0 m.includes) (strs_of 1 m.excludes) (strings_hold a e)

  pub excludes_hold : (a : ℕ) → a ≡ p + 1 + 2 * includes_in (get_or mem p 0) → Holds mem a (strs_of 1 m.excludes)
  excludes_hold a e =
      let at : a ≡ p + 1 + length (strs_of 0 m.includes) = omega (arith, length-strs_of 0 m.includes, includes-held) in
      rw at (holds-right (strs_of 0 m.includes) (strs_of 1 m.excludes) (strings_hold (p + 1) refl))

  -- .. and the strings that a reader of the slice `&mem[a..e]` sees
  pub includes-read : (a e : ℕ) → a ≡ p + 1 → e ≡ a + 2 * includes_in (get_or mem p 0) → strs_at (take (e - a) (drop a mem)) ≡ m.includes
  includes-read a e f g =
      ap strs_at (holds-part (e - a) (omega (arith, length-strs_of 0 m.includes, includes-held)) (includes_hold a f))
      ∙ strs_back 0 m.includes (omega arith) h.valid.includes

  pub excludes-read : (a e : ℕ) → a ≡ p + 1 + 2 * includes_in (get_or mem p 0) → e ≡ a + 2 * excludes_in (get_or mem p 0) → strs_at (take (e - a) (drop a mem)) ≡ m.excludes
  excludes-read a e f g =
      ap strs_at (holds-part (e - a) (omega (arith, length-strs_of 1 m.excludes, excludes-held)) (excludes_hold a f))
      ∙ strs_back 1 m.excludes (omega arith) h.valid.excludes

-- .. by its bounds
module _ {mem : List ℕ} {p : ℕ} {m : Match} (h : MatchHolds mem p m) {b : Bounds} (s : BoundsOf (get_or mem p 0) p b) where
  pub includes-within : strs_at (take (b.excludes - b.includes) (drop b.includes mem)) ≡ m.includes
  includes-within = includes-read h _ _ s.includes s.excludes

  pub valid-within : AllStrs ValidStr (strs_at (take (b.excludes - b.includes) (drop b.includes mem)))
  valid-within = subst (AllStrs ValidStr) (sym includes-within) h.valid.includes

  pub excludes-within : strs_at (take (b.end - b.excludes) (drop b.excludes mem)) ≡ m.excludes
  excludes-within = excludes-read h b.excludes b.end (omega (arith, s)) (omega (arith, s))

  -- .. where the slices are lent
  pub includes-lent : {xs : List ℕ} → xs ≡ take (b.excludes - b.includes) (drop b.includes mem) → strs_at xs ≡ m.includes
  includes-lent e = ap strs_at e ∙ includes-within

  pub excludes-lent : {xs : List ℕ} → xs ≡ take (b.end - b.excludes) (drop b.excludes mem) → strs_at xs ≡ m.excludes
  excludes-lent e = ap strs_at e ∙ excludes-within

  -- how many numbers they take
  pub includes-length : b.excludes - b.includes ≡ length (strs_of 0 m.includes)
  includes-length = omega (arith, s, includes-held h, length-strs_of 0 m.includes)

  pub excludes-length : b.end - b.excludes ≡ length (strs_of 1 m.excludes)
  excludes-length = omega (arith, s, excludes-held h, length-strs_of 1 m.excludes)
