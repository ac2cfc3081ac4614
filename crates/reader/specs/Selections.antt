-- What the reader's functions say, by the answer of a text.
use Rattle.std.specs.Prelude.{ℕ, ◌+◌, ◌*◌, cond, List, [], ◌∷◌, ◌++◌, Ok, Err, leb, length, take}
use Rattle.model.specs.Limits.{max_codes}
use Rattle.model.specs.TextAnswer.{TextAnswer, codes, error}
use Rattle.model.specs.Typed.{Reading, selection_of}
use Rattle.lent_text.specs.declared.codes.Codes.{Codes}

-- how many codes a text has, or its error
abbrev pub reading_of : TextAnswer → Reading
reading_of (codes cs) = Ok (length cs)
reading_of (error r) = Err r

-- What is put down of codes: a selection; of over 64 their number alone.
abbrev pub put_down : Codes → List ℕ
put_down c = cond (leb c.count max_codes) (c.count ∷ (take c.count c.kinds ++ take c.count c.operands)) (c.count ∷ [])

-- What is put down of a text's answer: its codes as a selection; of over 64 their number alone.
abbrev pub typed_numbers : TextAnswer → List ℕ
typed_numbers (codes cs) = cond (leb (length cs) max_codes) (selection_of cs) (length cs ∷ [])
typed_numbers (error r) = []

-- how many numbers that is
abbrev pub typed_size : ℕ → ℕ
typed_size m = cond (leb m max_codes) (1 + 2 * m) 1
