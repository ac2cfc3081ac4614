-- A text is at most so long: 16 bytes for a valid string, 17 for each string of a match and 2 for its line, 12 for the first line.
use Prim.Native.Nat.{ℕ, ◌+◌, ◌*◌, ◌≤◌, ◌<◌}
use native.Mathlib.Omega.{arith}
use mathlib.Core.Bool.{Bool, true, false}
use mathlib.Core.List.{List, [], ◌∷◌, ◌++◌, map, flat_map}
use lib.ListN.{length, length-append, length-map}
use Rattle.model.specs.AllStrings.{AllStrs, AllMatch, AllList}
use Rattle.model.specs.Bytes.{bytes}
use Rattle.model.specs.Limits.{max_matches, max_strings}
use Rattle.model.specs.Lists.{Every}
use Rattle.model.specs.Matches.{Str, Match, strings_in, strings}
use Rattle.model.proofs.EveryLaws.{every_append, every_map}
use Rattle.store.specs.ValidStr.{ValidStr}
use Rattle.text.specs.Printable.{text_length}
use Rattle.text.specs.Printed.{string_text, after_blank, line_of, string_texts, match_text, head_text, answer_text}
use Rattle.text.proofs.PrintedLaws.{length-decimal, length-span, length-query, length-string, length_head}

string-short : (sort : ℕ) (s : Str) → ValidStr s → length (string_text sort s) ≤ 16
string-short sort s f =
    omega (
      arith,
      length-string sort s,
      length-span s.start s.end,
      length-query s.query s.contiguous,
      length-decimal 3 s.start (omega (arith, f.in_order, f.end_up_to)),
      length-decimal 3 s.end (omega (arith, f.end_up_to)),
      length-decimal 1 s.query (omega (arith, f.query_up_to)),
    )

-- a text of a string
abbrev Short : List ℕ → Type 0
Short text = length text ≤ 16

texts-short : (sort : ℕ) (ss : List Str) → AllStrs ValidStr ss → Every Short (map (string_text sort) ss)
texts-short sort ss f = every_map Short ValidStr (string_text sort) (string-short sort) ss f

later-short : (texts : List (List ℕ)) → Every Short texts → length (flat_map after_blank texts) ≤ 17 * length texts
unfolding Every flat_map
later-short [] f = omega arith
later-short (text ∷ texts) f = omega (arith, f.0, later-short texts f.1, length-append text (flat_map after_blank texts))

line_short : (texts : List (List ℕ)) → Every Short texts → length (line_of texts) ≤ 2 + 17 * length texts
unfolding Every line_of
line_short [] f = omega arith
line_short (text ∷ texts) f =
    omega (
      arith,
      f.0,
      later-short texts f.1,
      length-append (text ++ flat_map after_blank texts) (bytes "\n"),
      length-append text (flat_map after_blank texts),
    )

match_short : (m : Match) → AllMatch ValidStr m → length (match_text m) ≤ 2 + 17 * strings_in m
unfolding match_text
match_short m f =
    let ins = map (string_text 0) m.includes in
    let exs = map (string_text 1) m.excludes in
    omega (
      arith,
      line_short (string_texts m) (every_append Short ins exs (texts-short 0 m.includes f.includes) (texts-short 1 m.excludes f.excludes)),
      length-append ins exs,
      length-map m.includes (string_text 0),
      length-map m.excludes (string_text 1),
    )

lines_short : (ms : List Match) → AllList ValidStr ms → length (flat_map match_text ms) ≤ 2 * length ms + 17 * strings ms
unfolding Every flat_map strings
lines_short [] f = omega arith
lines_short (m ∷ ms) f = omega (arith, match_short m f.0, lines_short ms f.1, length-append (match_text m) (flat_map match_text ms))

answer-short : (said : Bool) (matches strs : ℕ) → matches ≤ max_matches → strs ≤ max_strings → length (answer_text said matches strs) ≤ 12
unfolding answer_text
answer-short true matches strs h i = omega (arith, length_head (bytes "yes ") matches strs, length-decimal 2 matches (omega arith), length-decimal 2 strs (omega arith))
answer-short false matches strs h i = omega (arith, length_head (bytes "no ") matches strs, length-decimal 2 matches (omega arith), length-decimal 2 strs (omega arith))

-- the text of a listing
pub listing_short : (said : Bool) (ms : List Match) → length ms ≤ max_matches → strings ms ≤ max_strings → AllList ValidStr ms
    → length (answer_text said (length ms) (strings ms) ++ flat_map match_text ms) ≤ text_length
listing_short said ms h i f =
    omega (arith, answer-short said (length ms) (strings ms) h i, lines_short ms f, length-append (answer_text said (length ms) (strings ms)) (flat_map match_text ms))

-- a first line of a word of up to 8 bytes and any two numbers of 32 bits
pub head_room : (word : List ℕ) (a b size : ℕ) → length word ≤ 8 → a < 4294967296 → b < 4294967296 → text_length ≤ size → 0 + length (head_text word a b) ≤ size
head_room word a b size h i j room = omega (arith, length_head word a b, length-decimal 9 a (omega arith), length-decimal 9 b (omega arith))
