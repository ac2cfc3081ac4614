-- What putting windows requires: the excludes of a match below, the two numbers of its join, and room.
use Rattle.std.specs.Prelude.{ℕ, ◌+◌, ◌-◌, ◌*◌, ◌/◌, ◌%◌, ◌≤◌, List, [], ◌∷◌, ◌≡◌, length}
use Rattle.model.specs.AllStrings.{AllStrs}
use Rattle.model.specs.Limits.{max_strings, radix}
use Rattle.model.specs.Lists.{from_to}
use Rattle.model.specs.Matches.{Match, Str}
use Rattle.model.specs.Rules.{join, window, window_ends, window_to}
use Rattle.strings.specs.Strings.{strs_of}
use Rattle.strings.specs.declared.packed.Packed.{Packed}
use Rattle.store.specs.ValidStr.{ValidStr}
use Rattle.store.specs.Layout.{Holds, match_numbers, matches_numbers}
use Rattle.window.specs.Inside.{WindowSize}

-- the excludes of the match m lie from x to e, below q, and span and tag are the numbers of its join
pub record Source (n : ℕ) (m : Match) (mem : List ℕ) (x e q span tag : ℕ) : Type 0 where
  pub size : WindowSize n
  pub holds : Holds mem x (strs_of 1 m.excludes)
  pub valid : AllStrs ValidStr m.excludes
  pub few : length m.excludes ≤ max_strings
  pub end_is : e ≡ x + 2 * length m.excludes
  pub below : e ≤ q
  pub joins : strs_of 0 (join m.includes) ≡ span ∷ tag ∷ []

-- .. with room at q for its window up to `last` ..
pub record WindowAt (n last : ℕ) (mem : List ℕ) (x e q span tag : ℕ) : Type 0 where
  pub item : Match
  pub source : Source n item mem x e q span tag
  pub room : q + length (match_numbers (window_to n item last)) ≤ length mem

-- .. or for all its windows, which end where the span says
pub record WindowsAt (n : ℕ) (mem : List ℕ) (x e q span tag : ℕ) : Type 0 where
  pub item : Match
  pub source : Source n item mem x e q span tag
  pub ends : window_ends n item.includes ≡ from_to (span % radix) (span / radix + n - 1)
  pub room : q + length (matches_numbers (window n item)) ≤ length mem

-- the numbers of the join of some strings, and where the windows around it end
pub record JoinIs (n : ℕ) (ss : List Str) (s : Packed) : Type 0 where
  pub joins : strs_of 0 (join ss) ≡ s.span ∷ s.tag ∷ []
  pub ends : window_ends n ss ≡ from_to (s.span % radix) (s.span / radix + n - 1)
