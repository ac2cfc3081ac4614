-- The excludes of a match that lie inside a window, as they are copied.
use Rattle.std.specs.Prelude.{ℕ, ◌+◌, ◌*◌, ◌≤◌, List, ◌≡◌, length}
use Rattle.model.specs.AllStrings.{AllStrs}
use Rattle.model.specs.Limits.{max_window}
use Rattle.model.specs.Lists.{keep}
use Rattle.model.specs.Matches.{Str}
use Rattle.model.specs.Rules.{inside_window}
use Rattle.strings.specs.Strings.{strs_of}
use Rattle.store.specs.ValidStr.{ValidStr}
use Rattle.store.specs.Layout.{Holds}

-- "N, 1 to 4,096"
-- A clause, not a type: the number is a code's operand, passed on as it is.
pub record WindowSize (n : ℕ) : Type 0 where
  pub from_one : 1 ≤ n
  pub up_to : n ≤ max_window

-- the excludes of a match lie from a to e, below q, with room there for those inside
pub record ExcludesAt (n last : ℕ) (mem : List ℕ) (a e q : ℕ) : Type 0 where
  pub list : List Str
  pub size : WindowSize n
  pub holds : Holds mem a (strs_of 1 list)
  pub valid : AllStrs ValidStr list
  pub end_is : e ≡ a + 2 * length list
  pub below : e ≤ q
  pub room : q + 2 * length (keep (inside_window n last) list) ≤ length mem
