-- What follows a number in a sorted list, told from the list unsorted: an equal number where it has copies, and after the last of them the least above it.
use Rattle.std.specs.Prelude.{ℕ, ◌+◌, min, Bool, ◌&&◌, ◌||◌, cond, leb, eqb}
use mathlib.Core.List.{List, foldr}
use Rattle.model.specs.Rules.{distance_of, within}
use Rattle.strings.specs.Strings.{str_of}

-- the copies of v, with one number more
abbrev pub counted : ℕ → ℕ → ℕ → ℕ
counted v x n = cond (eqb x v) (n + 1) n

abbrev pub copies : ℕ → List ℕ → ℕ
copies v xs = foldr (counted v) 0 xs

-- the lesser of two numbers above v; one that isn't above v doesn't count
abbrev pub nearer : ℕ → ℕ → ℕ → ℕ
nearer v x y = cond (leb x v) y (cond (leb y v) x (min x y))

-- the least number above v, and v where there is none
abbrev pub above : ℕ → List ℕ → ℕ
above v xs = foldr (nearer v) v xs

-- Does v pass with what follows its copies in the sorted list? It has n copies, and m is the least above it.
abbrev pub passing : (ℕ → ℕ → Bool) → ℕ → ℕ → ℕ → Bool
passing r v n m = (leb m v || r v m) && (leb n 1 || r v v)

abbrev pub passes : (ℕ → ℕ → Bool) → ℕ → List ℕ → Bool
passes r v xs = passing r v (copies v xs) (above v xs)

-- the distance of two spans lies in least to most
abbrev pub spans_within : ℕ → ℕ → ℕ → ℕ → Bool
spans_within least most a b = within least most (distance_of (str_of a 0) (str_of b 0))
