-- The grammar's symbols as numbers: a keyword has its place in the list below, 26 is every other word, 27 the end of the text, 100 + its sort any other
-- token. So a rule asks for a word, a sign or a number in the same way.
use Rattle.std.specs.Prelude.{ℕ, suc, ◌+◌, Bool, true, false, ◌&&◌, cond, List, [], ◌∷◌, eqb}
use Prim.Native.String.{String}
use Rattle.model.specs.Bytes.{bytes}
use Rattle.model.specs.Tokens.{Token, letter}
use Rattle.grammar.specs.Stream.{Stream, ends, token}

abbrev pub k_ftor : ℕ
k_ftor = 1

abbrev pub k_ftand : ℕ
k_ftand = 2

abbrev pub k_ftnot : ℕ
k_ftnot = 3

abbrev pub k_not : ℕ
k_not = 4

abbrev pub k_in : ℕ
k_in = 5

-- the words that begin a filter
abbrev pub k_ordered : ℕ
k_ordered = 6

abbrev pub k_window : ℕ
k_window = 7

abbrev pub k_distance : ℕ
k_distance = 8

abbrev pub k_same : ℕ
k_same = 9

abbrev pub k_different : ℕ
k_different = 10

abbrev pub k_at : ℕ
k_at = 11

abbrev pub k_entire : ℕ
k_entire = 12

-- the words inside a filter
abbrev pub k_start : ℕ
k_start = 13

abbrev pub k_end : ℕ
k_end = 14

abbrev pub k_sentence : ℕ
k_sentence = 15

abbrev pub k_paragraph : ℕ
k_paragraph = 16

abbrev pub k_content : ℕ
k_content = 17

-- the word that begins a phrase's times, and those of a range
abbrev pub k_occurs : ℕ
k_occurs = 18

abbrev pub k_exactly : ℕ
k_exactly = 19

abbrev pub k_from : ℕ
k_from = 20

abbrev pub k_to : ℕ
k_to = 21

abbrev pub k_least : ℕ
k_least = 22

abbrev pub k_most : ℕ
k_most = 23

abbrev pub k_words : ℕ
k_words = 24

abbrev pub k_times : ℕ
k_times = 25

-- every other word
abbrev pub other_word : ℕ
other_word = 26

abbrev pub no_more : ℕ
no_more = 27

abbrev pub s_quote : ℕ
s_quote = 134

abbrev pub s_opening : ℕ
s_opening = 140

abbrev pub s_closing : ℕ
s_closing = 141

abbrev pub s_number : ℕ
s_number = 148

abbrev pub keywords : List String
keywords =
    "ftor" ∷ "ftand" ∷ "ftnot" ∷ "not" ∷ "in"
    ∷ "ordered" ∷ "window" ∷ "distance" ∷ "same" ∷ "different" ∷ "at" ∷ "entire"
    ∷ "start" ∷ "end" ∷ "sentence" ∷ "paragraph" ∷ "content"
    ∷ "occurs" ∷ "exactly" ∷ "from" ∷ "to" ∷ "least" ∷ "most" ∷ "words" ∷ "times"
    ∷ []

unfoldable pub same_bytes : List ℕ → List ℕ → Bool
same_bytes [] [] = true
same_bytes [] (y ∷ ys) = false
same_bytes (x ∷ xs) [] = false
same_bytes (x ∷ xs) (y ∷ ys) = eqb x y && same_bytes xs ys

-- the number of the first of some keywords that the bytes spell, counted on from n; after them all, the next number
unfoldable pub number_among : ℕ → List String → List ℕ → ℕ
number_among n [] w = n
number_among n (k ∷ ks) w = cond (same_bytes w (bytes k)) n (number_among (suc n) ks w)

unfoldable pub symbol_of : Token → ℕ
symbol_of t = cond (eqb t.sort letter) (number_among 1 keywords t.bytes) (100 + t.sort)

abbrev pub symbol_in : Stream → ℕ
symbol_in (ends p) = no_more
symbol_in (token t ts) = symbol_of t
