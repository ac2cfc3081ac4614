-- The texts that the numbers of a listing buffer give, whatever it holds: a string is its span and its tag, and a match's strings are as many as its
-- count says. Where the buffer holds a listing these are the texts of its matches.
use Rattle.std.specs.Prelude.{ℕ, zero, suc, ◌+◌, ◌%◌, ◌≤◌, Bool, length, get_or}
use mathlib.Core.List.{List, [], ◌∷◌, ◌++◌, flat_map}
use Rattle.strings.specs.Strings.{str_of}
use Rattle.text.specs.Printed.{string_text, line_of, answer_text}

-- the text of a span and a tag
abbrev pub text_of : ℕ → ℕ → List ℕ
text_of span tag = string_text (tag % 2) (str_of span tag)

-- the texts of n strings: spans from s on, tags from t on
unfoldable pub texts_at : List ℕ → ℕ → ℕ → ℕ → List (List ℕ)
texts_at buffer s t zero = []
texts_at buffer s t (suc n) = text_of (get_or buffer s 0) (get_or buffer t 0) ∷ texts_at buffer (s + 1) (t + 1) n

-- the texts of each of n matches: counts from c on
unfoldable pub matches_at : List ℕ → ℕ → ℕ → ℕ → ℕ → List (List (List ℕ))
matches_at buffer c s t zero = []
matches_at buffer c s t (suc n) = texts_at buffer s t (get_or buffer c 0) ∷ matches_at buffer (c + 1) (s + get_or buffer c 0) (t + get_or buffer c 0) n

-- how many strings n matches have, by their counts
unfoldable pub total_at : List ℕ → ℕ → ℕ → ℕ
total_at buffer c zero = 0
total_at buffer c (suc n) = get_or buffer c 0 + total_at buffer (c + 1) n

-- the spans and the tags of n strings lie within a buffer of so many numbers
pub record StringsAt (size s t n : ℕ) : Type 0 where
  pub spans : s + n ≤ size
  pub tags : t + n ≤ size

-- the counts of n matches lie within the buffer, and the spans and the tags of their strings
pub record LinesAt (buffer : List ℕ) (c s t n : ℕ) : Type 0 where
  pub counts : c + n ≤ length buffer
  pub spans : s + total_at buffer c n ≤ length buffer
  pub tags : t + total_at buffer c n ≤ length buffer

-- the text of a listing of so many matches and strings, from its buffer
unfoldable pub listed_text : Bool → ℕ → ℕ → List ℕ → List ℕ
listed_text said matches strs buffer =
    answer_text said matches strs ++ flat_map line_of (matches_at buffer 2 (2 + matches) (2 + matches + strs) matches)
