-- A count with a ceiling: what is above the limit of matches need not be told apart.
use Rattle.std.specs.Prelude.{ℕ, ◌+◌, min}
use Rattle.model.specs.Limits.{max_matches}

abbrev pub ceiling : ℕ
ceiling = max_matches + 1

abbrev pub capped : ℕ → ℕ
capped n = min n ceiling
