-- The words of a phrase as a part of the lent selection, and how many phrases there are up to a code.
use Rattle.std.specs.Prelude.{ℕ, ◌+◌, ◌-◌, ◌&&◌, cond, List, [], ◌∷◌, leb, ltb, length, take, drop}
use Rattle.model.specs.Kinds.{Shape}
use Rattle.model.specs.Parts.{phrases_ended}
use Rattle.model.specs.Section.{size}
use Rattle.model.specs.Selection.{operand_at}

-- The operands of the k codes just before the code at a place, k being its own operand; none where there are not as many.
unfoldable pub phrase_words : List ℕ → ℕ → List ℕ
phrase_words selection c =
    cond (ltb (operand_at selection c) c && leb (size selection + c) (length selection))
    (take (operand_at selection c) (drop (size selection + c - operand_at selection c) selection))
    []

-- how many phrases are among codes; of the codes up to a phrase, it is the phrase's rank
unfoldable pub phrases_in : List Shape → ℕ
phrases_in [] = 0
phrases_in (c ∷ cs) = phrases_ended c + phrases_in cs
