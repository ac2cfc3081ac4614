-- The tokens of a text as a stream, by functions: what the rules of the reader compute with. That a text has these tokens and no others by F-1's own
-- sentence (model/specs/Tokens.antt) is proved in proofs/.
use Rattle.std.specs.Prelude.{ℕ, suc, Bool, ◌&&◌, ◌||◌, cond, List, [], ◌∷◌, eqb, leb, drop}
use Rattle.model.specs.Tokens.{Token, blank, digit, letter, number_from}

-- The tokens left, and the place of the text's end after them.
pub data Stream : Type 0 where
  ends : (place : ℕ) → Stream
  token : Token → Stream → Stream

-- The sort of a byte: each small letter counts as `a`, each digit as `0`, any other byte as itself.
unfoldable pub sort_of : ℕ → ℕ
sort_of b = cond (leb 97 b && leb b 122) letter (cond (leb 48 b && leb b 57) digit b)

unfoldable pub makes_runs : ℕ → Bool
makes_runs sort = eqb sort letter || eqb sort digit

abbrev pub alone : ℕ → ℕ → Token
alone b p = record { sort = sort_of b; place = p; bytes = b ∷ [] }

abbrev pub longer : ℕ → ℕ → Token → Token
longer b p t = record { sort = sort_of b; place = p; bytes = b ∷ t.bytes }

-- A byte before what follows it: it lengthens the run that begins after it, or stands alone.
unfoldable pub before : ℕ → ℕ → Stream → Stream
before b p (ends q) = token (alone b p) (ends q)
before b p (token t ts) = cond (makes_runs (sort_of b) && eqb (sort_of b) t.sort) (token (longer b p t) ts) (token (alone b p) (token t ts))

-- the pieces of a text whose first byte stands at place p, the blanks among them
unfoldable pub pieces_from : ℕ → List ℕ → Stream
pieces_from p [] = ends p
pieces_from p (b ∷ bs) = before b p (pieces_from (suc p) bs)

unfoldable pub without_blanks : Stream → Stream
without_blanks (ends p) = ends p
without_blanks (token t ts) = cond (eqb t.sort blank) (without_blanks ts) (token t (without_blanks ts))

-- how many bytes of a sort come first
unfoldable pub run_length : ℕ → List ℕ → ℕ
run_length sort [] = 0
run_length sort (b ∷ bs) = cond (eqb (sort_of b) sort) (suc (run_length sort bs)) 0

-- the tokens of a text from its byte `at` (from 0) on
unfoldable pub stream_at : List ℕ → ℕ → Stream
stream_at text at = without_blanks (pieces_from (suc at) (drop at text))

-- ---- the first token

abbrev pub place_in : Stream → ℕ
place_in (ends p) = p
place_in (token t ts) = t.place

abbrev pub bytes_in : Stream → List ℕ
bytes_in (ends p) = []
bytes_in (token t ts) = t.bytes

abbrev pub rest_of : Stream → Stream
rest_of (ends p) = ends p
rest_of (token t ts) = ts

unfoldable pub value_in : Stream → ℕ
value_in ts = number_from 0 (bytes_in ts)
