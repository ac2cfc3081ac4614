-- A match as its two slices are lent, and the matches that numbers hold, one after the other.
use Rattle.std.specs.Prelude.{ℕ, zero, suc, ◌*◌, ◌≤◌, List, [], ◌∷◌, ◌≡◌, take, drop}
use Rattle.model.specs.AllStrings.{AllList}
use Rattle.model.specs.Limits.{max_strings}
use Rattle.model.specs.Matches.{Match, strings}
use Rattle.strings.specs.Strings.{strs_at}
use Rattle.store.specs.declared.lent.Lent.{Lent}
use Rattle.store.specs.Layout.{excludes_in, includes_in, matches_numbers}
use Rattle.store.specs.ValidStr.{ValidStr}

abbrev pub match_lent : Lent → Match
match_lent m = record { includes = strs_at m.includes.now; excludes = strs_at m.excludes.now }

-- of so many matches at most
unfoldable pub matches_in : ℕ → List ℕ → List Match
matches_in zero xs = []
matches_in (suc k) [] = []
matches_in (suc k) (header ∷ xs) =
    record { includes = strs_at (take (2 * includes_in header) xs); excludes = strs_at (take (2 * excludes_in header) (drop (2 * includes_in header) xs)) }
    ∷ matches_in k (drop (2 * excludes_in header) (drop (2 * includes_in header) xs))

-- the numbers of matches, whole
pub record Whole (xs : List ℕ) : Type 0 where
  pub list : List Match
  pub is : xs ≡ matches_numbers list
  pub few : strings list ≤ max_strings
  pub valid : AllList ValidStr list
