-- When a match has a position that another does not cover.
use Rattle.std.specs.Prelude.{Bool, not, List}
use Rattle.model.specs.Lists.{any_of}
use Rattle.model.specs.Matches.{Str}
use Rattle.model.specs.Rules.{covered, positions}

-- has_uncovered, of the includes alone
abbrev pub any_uncovered : List Str → List Str → Bool
any_uncovered lefts rights = any_of (λ s. any_of (λ p. not (covered rights p)) (positions s)) lefts
