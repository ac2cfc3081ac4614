-- What `ftlist` prints, as bytes: "any refusal prints `refused`, number, place"; else "First the answer, M, S; then a line a match: + include or !
-- exclude, span, query position, c contiguous or n not, strings parted by a blank, `.` for a match with none."
use Prim.Native.Char.{code}
use Rattle.std.specs.Prelude.{ℕ, zero, suc, ◌+◌, ◌/◌, ◌%◌, Bool, cond, ltb}
use mathlib.Core.List.{List, [], ◌∷◌, ◌++◌, map, flat_map}
use Rattle.model.specs.Checks.{number_of}
use Rattle.model.specs.Bytes.{bytes}
use Rattle.model.specs.Matches.{Str, Match}
use Rattle.model.specs.declared.Listing.{Listing}
use Rattle.model.specs.declared.Listing.TheVariants.{Listed, Refused}

-- "Written numbers are base ten"
abbrev pub digit : ℕ → ℕ
digit d = code "0" + d

-- a number of at most so many digits: below ten it is its digit, any other is the digits of its tenth and then its last digit
unfoldable pub digits : ℕ → ℕ → List ℕ
digits zero n = []
digits (suc most) n = cond (ltb n 10) (digit n ∷ []) (digits most (n / 10) ++ digit (n % 10) ∷ [])

-- n + 1 digits are enough for n
unfoldable pub decimal : ℕ → List ℕ
decimal n = digits (suc n) n

-- "+ include or ! exclude": sort 0 for an include, 1 for an exclude
abbrev pub sort_mark : ℕ → ℕ
sort_mark zero = code "+"
sort_mark (suc k) = code "!"

-- "span", from start to end
unfoldable pub span_text : ℕ → ℕ → List ℕ
span_text start end = decimal start ++ bytes "-" ++ decimal end

-- "query position, c contiguous or n not"
abbrev pub contiguous_mark : Bool → ℕ
contiguous_mark c = cond c (code "c") (code "n")

unfoldable pub query_text : ℕ → Bool → List ℕ
query_text query contiguous = bytes " q" ++ decimal query ++ bytes " " ++ contiguous_mark contiguous ∷ []

unfoldable pub string_text : ℕ → Str → List ℕ
string_text sort s = sort_mark sort ∷ [] ++ span_text s.start s.end ++ query_text s.query s.contiguous

-- "a line a match": the texts of its strings "parted by a blank, `.` for a match with none"
abbrev pub after_blank : List ℕ → List ℕ
after_blank text = bytes " " ++ text

unfoldable pub line_of : List (List ℕ) → List ℕ
line_of [] = bytes ".\n"
line_of (text ∷ texts) = text ++ flat_map after_blank texts ++ bytes "\n"

abbrev pub string_texts : Match → List (List ℕ)
string_texts m = map (string_text 0) m.includes ++ map (string_text 1) m.excludes

unfoldable pub match_text : Match → List ℕ
match_text m = line_of (string_texts m)

-- the first line: a word and two numbers
unfoldable pub head_text : List ℕ → ℕ → ℕ → List ℕ
head_text word a b = word ++ decimal a ++ bytes " " ++ decimal b ++ bytes "\n"

-- "First the answer, M, S"
unfoldable pub answer_text : Bool → ℕ → ℕ → List ℕ
answer_text yes' matches strs = head_text (cond yes' (bytes "yes ") (bytes "no ")) matches strs

unfoldable pub listing_text : Listing → List Match → List ℕ
listing_text (Listed matches strs yes') ms = answer_text yes' matches strs ++ flat_map match_text ms
listing_text (Refused r) ms = head_text (bytes "refused ") (number_of r.reason) r.place
