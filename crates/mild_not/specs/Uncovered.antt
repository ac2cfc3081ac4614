-- Mild not as a rule that goes over L match by match, and a match of L beside one of R.
use Rattle.std.specs.Prelude.{◌≡◌, ℕ, Bool, true, false, ◌&&◌, List, Option, None, Some}
use Rattle.model.specs.Lists.{all_of}
use Rattle.model.specs.Matches.{Str, Match}
use Rattle.model.specs.Rules.{covered, kept_if, has_uncovered}
use Rattle.candidates.specs.Uncovered.{any_uncovered}
use Rattle.model.specs.declared.Position.{Position}

-- what mild not makes of one match of L
unfoldable pub mild_not : List Match → Match → List Match
mild_not rights l = kept_if (all_of (has_uncovered l) rights) l

-- a position found that lefts cover and rights don't, or that there is none
abbrev pub FoundUncovered : List Str → List Str → Option Position → Type 0
FoundUncovered lefts rights (Some p) = (covered lefts p.0 ≡ true) × (covered rights p.0 ≡ false)
FoundUncovered lefts rights None = any_uncovered lefts rights ≡ false

abbrev pub cover_both : ℕ → ℕ → List Str → Bool
cover_both p q ss = covered ss p && covered ss q
