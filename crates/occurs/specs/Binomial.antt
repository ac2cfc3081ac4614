-- The choices of k from n elements: how many there are, and which of them has a number.
use Rattle.std.specs.Prelude.{ℕ, zero, suc, ◌+◌, ◌-◌, cond, List, [], ◌∷◌, ltb, length}

-- how many choices there are: those with the first element, and those without
unfoldable pub binomial : ℕ → ℕ → ℕ
binomial n zero = 1
binomial zero (suc k) = 0
binomial (suc n) (suc k) = binomial n k + binomial n (suc k)

-- choice number c, from 0: those with the first element come first
unfoldable pub chosen : {A : Type 0} → ℕ → List A → ℕ → List A
chosen zero xs c = []
chosen (suc k) [] c = []
chosen (suc k) (x ∷ xs) c = cond (ltb c (binomial (length xs) k)) (x ∷ chosen k xs c) (chosen (suc k) xs (c - binomial (length xs) k))
