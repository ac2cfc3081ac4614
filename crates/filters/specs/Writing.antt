-- What is written of a match that is kept, piece by piece, and what the functions that write it require.
use Rattle.std.specs.Prelude.{ℕ, ◌+◌, ◌-◌, ◌≤◌, min, Bool, cond, List, [], ◌∷◌, length, take, drop, get_or}
use Rattle.model.specs.Matches.{Str, Match}
use Rattle.model.specs.Rules.{Keeping, join, kept_match}
use Rattle.store.specs.declared.bounds.Bounds.{Bounds}
use Rattle.store.specs.Each.{OneAt}
use Rattle.store.specs.Layout.{BoundsOf, match_numbers, matches_numbers}
use Rattle.store.specs.Put.{Put}
use Rattle.store.specs.Stream.{MatchHolds}
use Rattle.strings.specs.Strings.{str_of, strs_of, strs_at}

abbrev pub includes_numbers : Bool → Match → List ℕ
includes_numbers joins m = strs_of 0 (cond joins (join m.includes) m.includes)

abbrev pub excludes_numbers : Keeping → Match → List ℕ
excludes_numbers f m = strs_of 1 (kept_match f m).excludes

abbrev pub kept_numbers : Keeping → Match → List ℕ
kept_numbers f m = match_numbers (kept_match f m)

-- the strings of the slice `&mem[a..e]`
abbrev pub strs_in : List ℕ → ℕ → ℕ → List Str
strs_in mem a e = strs_at (take (e - a) (drop a mem))

-- the two numbers of the exclude at k, if it stays beside the includes within the bounds
abbrev pub stay_numbers : Keeping → List ℕ → Bounds → ℕ → List ℕ
stay_numbers f mem b k = let span = get_or mem k 0 in let tag = get_or mem (k + 1) 0 in cond (f.stays (strs_in mem b.includes b.excludes) (str_of span tag)) (span ∷ tag ∷ []) []

-- a match within the bounds, below q, and room there for the numbers that N makes of it
-- A clause, not a type: memory is lent to be written.
pub record RoomAt (N : Match → List ℕ) (mem : List ℕ) (b : Bounds) (q : ℕ) : Type 0 where
  pub item : Match
  pub at : ℕ
  pub held : MatchHolds mem at item
  pub bounds : BoundsOf (get_or mem at 0) at b
  pub below : b.end ≤ q
  pub room : q + length (N item) ≤ length mem

-- the numbers that N makes of it put at q
abbrev pub PutOf : (Match → List ℕ) → List ℕ → List ℕ → Bounds → ℕ → ℕ → Type 0
PutOf N entry exit b q next = (w : RoomAt N entry b q) → Put entry exit q (N w.item) next

-- the matches that F makes of the match at `from` put at q
abbrev pub PutOne : (Match → List Match) → List ℕ → List ℕ → ℕ → ℕ → ℕ → Type 0
PutOne F entry exit from q next = (w : OneAt F entry from q) → Put entry exit q (matches_numbers (F w.item)) next

-- room at q for the join of the includes within the bounds
pub record Join (size : ℕ) (b : Bounds) (q : ℕ) : Type 0 where
  pub within : b.end ≤ size
  pub room : q + min (b.excludes - b.includes) 2 ≤ size

-- the bounds of a match, an exclude at k, and room at q for so many numbers
pub record Exclude (size : ℕ) (b : Bounds) (k q n : ℕ) : Type 0 where
  pub within : b.end ≤ size
  pub exclude : k + 2 ≤ size
  pub room : q + n ≤ size
