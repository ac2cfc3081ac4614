-- Laws of Decoded: where a buffer holds a listing, the texts decoded from it are those of its matches.
use Prim.Native.Nat.{ℕ, zero, suc, ◌+◌, ◌*◌, ◌%◌, ◌≤◌}
use native.Mathlib.Omega.{arith}
use mathlib.Core.Path.{◌≡◌, refl, sym, ap, ap₂, ◌∙◌}
use mathlib.Core.Bool.{Bool, true, false, cond}
use mathlib.Core.List.{List, [], ◌∷◌, ◌++◌, map, flat_map}
use lib.ListN.{length, get_or, length-append, length-map}
use Rattle.model.specs.AllStrings.{AllStrs, AllMatch, AllList}
use Rattle.model.specs.Answers.{span_of, tag_of, spans_in, tags_in, listing_numbers}
use Rattle.model.specs.Lists.{Every}
use Rattle.model.specs.Matches.{Str, Match, strings_in, strings}
use Rattle.store.specs.ValidStr.{ValidStr}
use Rattle.store.specs.Layout.{Holds}
use Rattle.store.proofs.DecodeLaws.{str_back}
use Rattle.store.proofs.MemoryLaws.{holds-left, holds-right, holds_tail, get_d_head}
use Rattle.text.specs.Printed.{string_text, line_of, string_texts, match_text}
use Rattle.text.specs.Decoded.{text_of, texts_at, matches_at, total_at}

-- ---- texts_at

texts_at-append : (buffer : List ℕ) (s t a b : ℕ) → texts_at buffer s t (a + b) ≡ texts_at buffer s t a ++ texts_at buffer (s + a) (t + a) b
unfolding texts_at
texts_at-append buffer s t zero b =
    let n : 0 + b ≡ b = omega arith in
    let i : s ≡ s + 0 = omega arith in
    let j : t ≡ t + 0 = omega arith in
    ap (texts_at buffer s t) n ∙ ap₂ (λ p q. texts_at buffer p q b) i j
texts_at-append buffer s t (suc a) b =
    let n : suc a + b ≡ suc (a + b) = omega arith in
    let i : s + 1 + a ≡ s + suc a = omega arith in
    let j : t + 1 + a ≡ t + suc a = omega arith in
    ap (texts_at buffer s t) n
    ∙ ap (λ l. text_of (get_or buffer s 0) (get_or buffer t 0) ∷ l) (texts_at-append buffer (s + 1) (t + 1) a b
    ∙ ap₂ (λ p q. texts_at buffer (s + 1) (t + 1) a ++ texts_at buffer p q b) i j)

-- a string's sort is its tag's last bit
tag-sort : (q sort : ℕ) (c : Bool) → sort ≤ 1 → (q * 4 + cond c 2 0 + sort) % 2 ≡ sort
tag-sort q sort true h = omega arith
tag-sort q sort false h = omega arith

text_of-string : (sort : ℕ) (s : Str) → sort ≤ 1 → ValidStr s → text_of (span_of s) (tag_of sort s) ≡ string_text sort s
text_of-string sort s h f = ap₂ string_text (tag-sort s.query sort s.contiguous h) (str_back sort s h f)

-- strings of one sort
texts-strings : {buffer : List ℕ} {s t : ℕ} (sort : ℕ) (ss : List Str) → sort ≤ 1 → AllStrs ValidStr ss → Holds buffer s (map span_of ss) → Holds buffer t (map (tag_of sort) ss)
    → texts_at buffer s t (length ss) ≡ map (string_text sort) ss
unfolding texts_at Every
texts-strings sort [] h f a b = refl
texts-strings {buffer} {s} {t} sort (x ∷ ss) h f a b =
    ap₂ ◌∷◌
    (ap₂ text_of (get_d_head (map span_of ss) a) (get_d_head (map (tag_of sort) ss) b) ∙ text_of-string sort x h f.0)
    (texts-strings {buffer = buffer} {s = s + 1} {t = t + 1} sort ss h f.1 (holds_tail (map span_of ss) a) (holds_tail (map (tag_of sort) ss) b))

-- the strings of a match
texts_match : {buffer : List ℕ} {s t : ℕ} (m : Match) → AllMatch ValidStr m → Holds buffer s (spans_in m) → Holds buffer t (tags_in m) → texts_at buffer s t (strings_in m) ≡ string_texts m
texts_match {buffer} {s} {t} m f a b =
    let ins = m.includes in
    let exs = m.excludes in
    let i : s + length (map span_of ins) ≡ s + length ins = ap (λ n. s + n) (length-map ins span_of) in
    let j : t + length (map (tag_of 0) ins) ≡ t + length ins = ap (λ n. t + n) (length-map ins (tag_of 0)) in
    texts_at-append buffer s t (length ins) (length exs)
    ∙ ap₂ ◌++◌
    (texts-strings 0 ins (omega arith) f.includes (holds-left (map span_of ins) (map span_of exs) a) (holds-left (map (tag_of 0) ins) (map (tag_of 1) exs) b))
    (texts-strings 1 exs (omega arith) f.excludes (rw i at (holds-right (map span_of ins) (map span_of exs) a)) (rw j at (holds-right (map (tag_of 0) ins) (map (tag_of 1) exs) b)))

-- ---- matches_at, total_at

-- a match has a span and a tag for each string
length_columns : (f g : Str → ℕ) (m : Match) → length (map f m.includes ++ map g m.excludes) ≡ strings_in m
length_columns f g m = length-append (map f m.includes) (map g m.excludes) ∙ ap₂ ◌+◌ (length-map m.includes f) (length-map m.excludes g)

matches_texts : {buffer : List ℕ} {c s t : ℕ} (ms : List Match) → AllList ValidStr ms → Holds buffer c (map strings_in ms) → Holds buffer s (flat_map spans_in ms)
    → Holds buffer t (flat_map tags_in ms) → matches_at buffer c s t (length ms) ≡ map string_texts ms
unfolding matches_at Every flat_map
matches_texts [] f a b d = refl
matches_texts {buffer} {c} {s} {t} (m ∷ ms) f a b d =
    let k : get_or buffer c 0 ≡ strings_in m = get_d_head (map strings_in ms) a in
    let i : s + length (spans_in m) ≡ s + get_or buffer c 0 = ap (λ n. s + n) (length_columns span_of span_of m ∙ sym k) in
    let j : t + length (tags_in m) ≡ t + get_or buffer c 0 = ap (λ n. t + n) (length_columns (tag_of 0) (tag_of 1) m ∙ sym k) in
    ap₂ ◌∷◌
    (ap (texts_at buffer s t) k ∙ texts_match m f.0 (holds-left (spans_in m) (flat_map spans_in ms) b) (holds-left (tags_in m) (flat_map tags_in ms) d))
    (matches_texts {buffer = buffer} {c = c + 1} {s = s + get_or buffer c 0} {t = t + get_or buffer c 0} ms f.1 (holds_tail (map strings_in ms) a) (rw i at (holds-right (spans_in m) (flat_map spans_in ms) b)) (rw j at (holds-right (tags_in m) (flat_map tags_in ms) d)))

matches_strings : {buffer : List ℕ} {c : ℕ} (ms : List Match) → Holds buffer c (map strings_in ms) → total_at buffer c (length ms) ≡ strings ms
unfolding total_at strings
matches_strings [] a = refl
matches_strings {buffer = buffer} {c = c} (m ∷ ms) a = ap₂ ◌+◌ (get_d_head (map strings_in ms) a) (matches_strings {buffer = buffer} {c = c + 1} ms (holds_tail (map strings_in ms) a))

length_rows : (f : Match → List ℕ) → ((m : Match) → length (f m) ≡ strings_in m) → (ms : List Match) → length (flat_map f ms) ≡ strings ms
unfolding flat_map strings
length_rows f h [] = refl
length_rows f h (m ∷ ms) = length-append (f m) (flat_map f ms) ∙ ap₂ ◌+◌ (h m) (length_rows f h ms)

-- ---- a listing

lines_texts : (ms : List Match) → flat_map line_of (map string_texts ms) ≡ flat_map match_text ms
unfolding flat_map match_text
lines_texts [] = refl
lines_texts (m ∷ ms) = ap (λ l. line_of (string_texts m) ++ l) (lines_texts ms)

module _ {buffer : List ℕ} (ms : List Match) (h : Holds buffer 0 (listing_numbers ms)) where
  -- where its three arrays lie
  arrays : Holds buffer 2 (map strings_in ms ++ flat_map spans_in ms ++ flat_map tags_in ms)
  unfolding listing_numbers
  arrays = holds_tail (map strings_in ms ++ flat_map spans_in ms ++ flat_map tags_in ms) (holds_tail _ h)

  counts_hold : Holds buffer 2 (map strings_in ms)
  counts_hold = holds-left (map strings_in ms) (flat_map spans_in ms) (holds-left (map strings_in ms ++ flat_map spans_in ms) (flat_map tags_in ms) arrays)

  spans_hold : Holds buffer (2 + length ms) (flat_map spans_in ms)
  spans_hold =
      let e : 2 + length (map strings_in ms) ≡ 2 + length ms = ap (λ n. 2 + n) (length-map ms strings_in) in
      rw e at (holds-right (map strings_in ms) (flat_map spans_in ms) (holds-left (map strings_in ms ++ flat_map spans_in ms) (flat_map tags_in ms) arrays))

  length-counts-spans : length (map strings_in ms ++ flat_map spans_in ms) ≡ length ms + strings ms
  length-counts-spans = length-append (map strings_in ms) (flat_map spans_in ms) ∙ ap₂ ◌+◌ (length-map ms strings_in) (length_rows spans_in (length_columns span_of span_of) ms)

  tags_hold : Holds buffer (2 + length ms + strings ms) (flat_map tags_in ms)
  tags_hold =
      let e : 2 + length (map strings_in ms ++ flat_map spans_in ms) ≡ 2 + length ms + strings ms = omega (arith, length-counts-spans) in
      rw e at (holds-right (map strings_in ms ++ flat_map spans_in ms) (flat_map tags_in ms) arrays)

  pub listing_strings : total_at buffer 2 (length ms) ≡ strings ms
  listing_strings = matches_strings ms counts_hold

  pub listing_lines : AllList ValidStr ms → flat_map line_of (matches_at buffer 2 (2 + length ms) (2 + length ms + strings ms) (length ms)) ≡ flat_map match_text ms
  listing_lines f = ap (flat_map line_of) (matches_texts ms f counts_hold spans_hold tags_hold) ∙ lines_texts ms
