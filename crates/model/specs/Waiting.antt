-- "Reading left to right, w lists and p loose words wait, both 0 first."
use Rattle.std.specs.Prelude.{ℕ, ◌+◌, ◌-◌, Bool, ◌&&◌, cond, List, [], ◌∷◌, leb, ltb, eqb}
use Rattle.std.specs.Prelude.{Option, Some, None}
use Rattle.model.specs.Kinds.{Shape, a_word, a_phrase, a_pair, a_change, is_word, arity}
use Rattle.model.specs.Limits.{max_waiting}

-- "Kind 0 needs p < 8 .. Kind 1 needs p = k and w < 8 .. Other kinds need p = 0; kinds 2, 3 and 5 need w ≥ 2 .., the rest need w ≥ 1."
abbrev pub fits : Shape → ℕ → ℕ → Bool
fits (a_word v) w p = ltb p max_waiting
fits (a_phrase k) w p = eqb p k && ltb w max_waiting
fits (a_pair k) w p = eqb p 0 && leb 2 w
fits (a_change k) w p = eqb p 0 && leb 1 w

-- The lists that wait after a code that fits, the one that it makes in place of those that it takes: kind 1: ".. w grows by 1"; kinds 2, 3 and 5 ".. take one
-- away".
abbrev pub lists_after : Shape → ℕ → ℕ
lists_after c w = cond (is_word c) w (w + 1 - arity c)

-- The words that wait after a code that fits: kind 0 ".. adds a word"; kind 1: ".. then p = 0".
abbrev pub words_after : Shape → ℕ → ℕ
words_after c p = cond (is_word c) (p + 1) 0

-- "At the end w = 1 and p = 0."
abbrev pub is_complete : ℕ → ℕ → Bool
is_complete w p = eqb w 1 && eqb p 0

-- "first code breaking the waiting rule (m if only the end does)", for the codes after the first c
unfoldable pub first_misfit_from : ℕ → List Shape → ℕ → ℕ → Option ℕ
first_misfit_from c [] w p = cond (is_complete w p) None (Some c)
first_misfit_from c (x ∷ xs) w p = let later = first_misfit_from (c + 1) xs (lists_after x w) (words_after x p) in cond (fits x w p) later (Some (c + 1))

abbrev pub first_misfit : List Shape → Option ℕ
first_misfit codes = first_misfit_from 0 codes 0 0
