-- The limits of document 01, and of document 02's F-1, F-3 and F-6, with the sentence that sets each. src/lib.rt has the same numbers for the code.
use Rattle.std.specs.Prelude.{ℕ}

-- "A section is n (0 to 4,096)"
abbrev pub max_tokens : ℕ
max_tokens = 4096

-- "A selection is m (1 to 64)"
abbrev pub max_codes : ℕ
max_codes = 64

-- "k, 1 to 8"; "Kind 0 needs p < 8 .. Kind 1 needs p = k and w < 8": the words of a phrase, the loose words and the lists that may wait
abbrev pub max_waiting : ℕ
max_waiting = 8

-- "N, 1 to 4,096"
abbrev pub max_window : ℕ
max_window = 4096

-- "a ≤ b ≤ 4,095"
abbrev pub max_distance : ℕ
max_distance = 4095

-- F-3: "occurs at least a (0 to 4,095)"
abbrev pub max_times : ℕ
max_times = 4095

-- "its list has over 256 matches or 512 strings"
abbrev pub max_matches : ℕ
max_matches = 256

abbrev pub max_strings : ℕ
max_strings = 512

-- "working memory (at least 12,800 u32) and a listing buffer (at least 1,282 u32)"
abbrev pub work_length : ℕ
work_length = 12800

abbrev pub buffer_length : ℕ
buffer_length = 1282

-- "A place is paragraph × 65,536 + sentence"; a span and the operands of kinds 8 and 16 hold two numbers in the same way
abbrev pub radix : ℕ
radix = 65536

-- F-6: "a size of at most 2,048"
abbrev pub max_entries : ℕ
max_entries = 2048

-- F-1: "text of at most 2,048 bytes"
abbrev pub max_text : ℕ
max_text = 2048

-- F-1: "A phrase is one to eight word numbers"
abbrev pub max_words : ℕ
max_words = 8

-- F-1: "a word number over 4,294,967,295 or another number over 4,096"
abbrev pub max_word : ℕ
max_word = 4294967295

abbrev pub max_number : ℕ
max_number = 4096

-- "Length is 1 + 2m": the longest selection's
abbrev pub selection_length : ℕ
selection_length = 129
