-- One of two columns that lie in pairs.
use Rattle.std.specs.Prelude.{ℕ, zero, suc, ◌+◌, List, [], ◌∷◌, get_or}

-- every second of the numbers from `from` on, n of them
unfoldable pub every_second : List ℕ → ℕ → ℕ → List ℕ
every_second l from zero = []
every_second l from (suc n) = get_or l from 0 ∷ every_second l (from + 2) n
