-- The units of a string, by those of its start and its end.
use Rattle.std.specs.Prelude.{ℕ}
use Rattle.model.specs.Rules.{UnitRange}

abbrev pub range : ℕ → ℕ → UnitRange
range first last = record { first = first; last = last }
