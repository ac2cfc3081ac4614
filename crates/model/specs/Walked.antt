-- What the quick answer's walk comes to, apart from each other: its answer, the codes that it builds and the codes that it reaches. Demand 3 is
-- stated by them. That the walk comes to them is a law (`walk_is`).
use Rattle.std.specs.Prelude.{Bool, not, ◌&&◌, ◌||◌, cond, List, [], ◌∷◌, ◌++◌}
use Rattle.model.specs.declared.Pair.TheVariants.{Or, And, MildNot}
use Rattle.model.specs.Kinds.{negated, filtered, occurring}
use Rattle.model.specs.AllMatches.{all_matches}
use Rattle.model.specs.Lists.{is_empty}
use Rattle.model.specs.Matches.{is_yes}
use Rattle.model.specs.Rules.{phrase_list}
use Rattle.model.specs.Families.{Searched}
use Rattle.model.specs.Trees.{Tree, phrase, pair, change, parts}

-- the answer that the walk comes to where no list that it builds is too long
unfoldable pub walk_answer : Searched → Tree → Bool
walk_answer s (phrase c rank ws) = not (is_empty (phrase_list s rank ws))
walk_answer s (change negated c t) = not (walk_answer s t)
walk_answer s (pair Or c t u) = walk_answer s t || walk_answer s u
walk_answer s (pair And c t u) = walk_answer s t && walk_answer s u
walk_answer s (pair MildNot c t u) = is_yes (all_matches s (pair MildNot c t u))
walk_answer s (change (filtered f) c t) = is_yes (all_matches s (change (filtered f) c t))
walk_answer s (change (occurring k) c t) = is_yes (all_matches s (change (occurring k) c t))

-- the codes that it builds, in order, were no list too long
unfoldable pub walk_builds : Searched → Tree → List Tree
walk_builds s (phrase c rank ws) = []
walk_builds s (change negated c t) = walk_builds s t
walk_builds s (pair Or c t u) = walk_builds s t ++ cond (walk_answer s t) [] (walk_builds s u)
walk_builds s (pair And c t u) = walk_builds s t ++ cond (walk_answer s t) (walk_builds s u) []
walk_builds s (pair MildNot c t u) = parts (pair MildNot c t u)
walk_builds s (change (filtered f) c t) = parts t
walk_builds s (change (occurring k) c t) = parts (change (occurring k) c t)

-- the codes that it walks or builds, were no list too long
unfoldable pub walk_reaches : Searched → Tree → List Tree
walk_reaches s (phrase c rank ws) = phrase c rank ws ∷ []
walk_reaches s (change negated c t) = walk_reaches s t ++ change negated c t ∷ []
walk_reaches s (pair Or c t u) = walk_reaches s t ++ cond (walk_answer s t) [] (walk_reaches s u) ++ pair Or c t u ∷ []
walk_reaches s (pair And c t u) = walk_reaches s t ++ cond (walk_answer s t) (walk_reaches s u) [] ++ pair And c t u ∷ []
walk_reaches s (pair MildNot c t u) = parts (pair MildNot c t u)
walk_reaches s (change (filtered f) c t) = parts (change (filtered f) c t)
walk_reaches s (change (occurring k) c t) = parts (change (occurring k) c t)
