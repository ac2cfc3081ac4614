-- A listing's numbers determine its matches. M tells how many string counts there are, and S how many spans and tags; a match's count tells which of
-- them are its own. A span gives start and end where the end is below 65,536; a tag gives query position, mark and sort, so that the includes end
-- where the first tag of an exclude stands.
use Prim.Native.Nat.{ℕ, ◌+◌, ◌*◌, ◌<◌}
use native.Mathlib.Omega.{arith}
use mathlib.Core.Bool.{Bool, true, false, cond}
use mathlib.Core.List.{List, [], ◌∷◌, ◌++◌, map, flat_map, cons≢nil, nil≢cons, head-eq_of_cons-eq, tail-eq_of_cons-eq}
use mathlib.Core.Path.{◌≡◌, refl, sym, ap, ap₂, ◌∙◌}
use lib.ListN.{length, take, drop, get_or, length-append, length-map}
use lib.Seq.{take_at, drop_at}
use Rattle.model.specs.AllStrings.{AllStrs, AllMatch, AllList}
use Rattle.model.specs.Answers.{span_of, tag_of, spans_in, tags_in, listing_numbers}
use Rattle.model.specs.Limits.{radix}
use Rattle.model.specs.Lists.{Every}
use Rattle.model.specs.Matches.{Str, Match, strings_in, strings}
use Rattle.model.proofs.AnswersLaws.{length_columns, length-spans, length-listing_numbers}

-- two lists split at one length
apart : {A : Type 0} (xs ys xs' ys' : List A) → length xs ≡ length xs' → xs ++ ys ≡ xs' ++ ys' → (xs ≡ xs') × (ys ≡ ys')
apart xs ys xs' ys' e h =
    let n = length xs' in
    (sym (take_at xs ys n e) ∙ ap (take n) h ∙ take_at xs' ys' n refl, sym (drop_at xs ys n e) ∙ ap (drop n) h ∙ drop_at xs' ys' n refl)

-- ---- a string

abbrev Short : Str → Type 0
Short s = s.end < radix

marks : (sort q r : ℕ) (b c : Bool) → q * 4 + cond b 2 0 + sort ≡ r * 4 + cond c 2 0 + sort → (q ≡ r) × (b ≡ c)
marks sort q r true true e = (omega arith, refl)
marks sort q r true false e = absurd (omega arith)
marks sort q r false true e = absurd (omega arith)
marks sort q r false false e = (omega arith, refl)

sorts : (q r : ℕ) (b c : Bool) → ¬ (q * 4 + cond b 2 0 + 0 ≡ r * 4 + cond c 2 0 + 1)
sorts q r true true e = absurd (omega arith)
sorts q r true false e = absurd (omega arith)
sorts q r false true e = absurd (omega arith)
sorts q r false false e = absurd (omega arith)

spans : (a b c d : ℕ) → b < radix → d < radix → a * radix + b ≡ c * radix + d → (a ≡ c) × (b ≡ d)
spans a b c d h k e = (omega arith, omega arith)

same_str : (sort : ℕ) (s t : Str) → Short s → Short t → span_of s ≡ span_of t → tag_of sort s ≡ tag_of sort t → s ≡ t
same_str sort s t h k e f =
    let span = spans s.start s.end t.start t.end h k e in
    let tag = marks sort s.query t.query s.contiguous t.contiguous f in
    λ i. record { start = span.0 i; end = span.1 i; query = tag.0 i; contiguous = tag.1 i }

-- ---- a match

same-strs : (sort : ℕ) (ss ts : List Str) → AllStrs Short ss → AllStrs Short ts → map span_of ss ≡ map span_of ts → map (tag_of sort) ss ≡ map (tag_of sort) ts → ss ≡ ts
unfolding Every
same-strs sort [] [] a b e f = refl
same-strs sort [] (t ∷ ts) a b e f = absurd (nil≢cons e)
same-strs sort (s ∷ ss) [] a b e f = absurd (cons≢nil e)
same-strs sort (s ∷ ss) (t ∷ ts) a b e f =
    let head = same_str sort s t a.0 b.0 (head-eq_of_cons-eq e) (head-eq_of_cons-eq f) in
    ap₂ ◌∷◌ head (same-strs sort ss ts a.1 b.1 (tail-eq_of_cons-eq e) (tail-eq_of_cons-eq f))

-- the includes end where the first tag of an exclude stands
same_sides : (is es js fs : List Str) → AllStrs Short is → AllStrs Short es → AllStrs Short js → AllStrs Short fs
    → map span_of is ++ map span_of es ≡ map span_of js ++ map span_of fs
    → map (tag_of 0) is ++ map (tag_of 1) es ≡ map (tag_of 0) js ++ map (tag_of 1) fs
    → (is ≡ js) × (es ≡ fs)
unfolding Every
same_sides [] es [] fs a b c d e f = (refl, same-strs 1 es fs b d e f)
same_sides [] [] (j ∷ js) fs a b c d e f = absurd (nil≢cons e)
same_sides [] (x ∷ es) (j ∷ js) fs a b c d e f = absurd (sorts j.query x.query j.contiguous x.contiguous (sym (head-eq_of_cons-eq f)))
same_sides (i ∷ is) es [] [] a b c d e f = absurd (cons≢nil e)
same_sides (i ∷ is) es [] (y ∷ fs) a b c d e f = absurd (sorts i.query y.query i.contiguous y.contiguous (head-eq_of_cons-eq f))
same_sides (i ∷ is) es (j ∷ js) fs a b c d e f =
    let head = same_str 0 i j a.0 c.0 (head-eq_of_cons-eq e) (head-eq_of_cons-eq f) in
    let rest = same_sides is es js fs a.1 b c.1 d (tail-eq_of_cons-eq e) (tail-eq_of_cons-eq f) in
    (ap₂ ◌∷◌ head rest.0, rest.1)

same_match : (m n : Match) → AllMatch Short m → AllMatch Short n → spans_in m ≡ spans_in n → tags_in m ≡ tags_in n → m ≡ n
same_match m n a b e f =
    let sides = same_sides m.includes m.excludes n.includes n.excludes a.includes a.excludes b.includes b.excludes e f in
    λ i. record { includes = sides.0 i; excludes = sides.1 i }

-- ---- a list

same_matches : (ms ns : List Match) → AllList Short ms → AllList Short ns
    → map strings_in ms ≡ map strings_in ns → flat_map spans_in ms ≡ flat_map spans_in ns → flat_map tags_in ms ≡ flat_map tags_in ns → ms ≡ ns
unfolding Every flat_map
same_matches [] [] a b c e f = refl
same_matches [] (n ∷ ns) a b c e f = absurd (nil≢cons c)
same_matches (m ∷ ms) [] a b c e f = absurd (cons≢nil c)
same_matches (m ∷ ms) (n ∷ ns) a b c e f =
    let count = head-eq_of_cons-eq c in
    let s = apart (spans_in m) (flat_map spans_in ms) (spans_in n) (flat_map spans_in ns) (length_columns span_of span_of m ∙ count ∙ sym (length_columns span_of span_of n)) e in
    let t = apart (tags_in m) (flat_map tags_in ms) (tags_in n) (flat_map tags_in ns) (length_columns (tag_of 0) (tag_of 1) m ∙ count ∙ sym (length_columns (tag_of 0) (tag_of 1) n)) f in
    ap₂ ◌∷◌ (same_match m n a.0 b.0 s.0 t.0) (same_matches ms ns a.1 b.1 (tail-eq_of_cons-eq c) s.1 t.1)

-- numbers, whatever follows them
pub same-list : (ms ns : List Match) (rest rest' : List ℕ) → AllList Short ms → AllList Short ns → listing_numbers ms ++ rest ≡ listing_numbers ns ++ rest' → ms ≡ ns
unfolding listing_numbers
same-list ms ns rest rest' a b h =
    let m : length ms ≡ length ns = ap (λ l. get_or l 0 0) h in
    let s : strings ms ≡ strings ns = ap (λ l. get_or l 1 0) h in
    let long : length (listing_numbers ms) ≡ length (listing_numbers ns) = omega (arith, m, s, length-listing_numbers ms, length-listing_numbers ns) in
    let body = tail-eq_of_cons-eq (tail-eq_of_cons-eq (apart (listing_numbers ms) rest (listing_numbers ns) rest' long h).0) in
    let counts : length (map strings_in ms) ≡ length (map strings_in ns) = length-map ms strings_in ∙ m ∙ sym (length-map ns strings_in) in
    let front : length (map strings_in ms ++ flat_map spans_in ms) ≡ length (map strings_in ns ++ flat_map spans_in ns) =
    omega (arith, counts, s, length-append (map strings_in ms) (flat_map spans_in ms), length-append (map strings_in ns) (flat_map spans_in ns), length-spans ms, length-spans ns) in
    let columns = apart (map strings_in ms ++ flat_map spans_in ms) (flat_map tags_in ms) (map strings_in ns ++ flat_map spans_in ns) (flat_map tags_in ns) front body in
    let two = apart (map strings_in ms) (flat_map spans_in ms) (map strings_in ns) (flat_map spans_in ns) counts columns.0 in
    same_matches ms ns a b two.0 two.1 columns.1
