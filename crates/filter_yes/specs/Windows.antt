-- The windows that strings are inside, by the windows' last positions. They are a run for each string, kept as a string, so that a run of windows is gone
-- through as a run of positions is (`strings/specs/Covering`).
use Rattle.std.specs.Prelude.{ℕ, ◌+◌, ◌-◌, List, map}
use Rattle.model.specs.Matches.{Str}

-- the windows of n positions that a string is inside: the first ends where it ends, the last begins where it begins
abbrev pub lasts_around : ℕ → Str → Str
lasts_around n s = record { start = s.end; end = s.start + n - 1; query = s.query; contiguous = s.contiguous }

abbrev pub taken : ℕ → List Str → List Str
taken n ss = map (lasts_around n) ss
