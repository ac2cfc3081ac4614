-- The first and the last of some matches whose includes pass a test.
use Rattle.std.specs.Prelude.{Bool, cond, List, [], ◌∷◌}
use Rattle.model.specs.Lists.{any_of}
use Rattle.model.specs.Matches.{Str, Match}

-- a list from its first match on whose includes pass a test
unfoldable pub from_first : (List Str → Bool) → List Match → List Match
from_first test [] = []
from_first test (m ∷ ms) = cond (test m.includes) (m ∷ ms) (from_first test ms)

-- a list up to its last match whose includes pass a test
unfoldable pub up_to_last : (List Str → Bool) → List Match → List Match
up_to_last test [] = []
up_to_last test (m ∷ ms) = cond (any_of (λ n. test n.includes) (m ∷ ms)) (m ∷ up_to_last test ms) []
