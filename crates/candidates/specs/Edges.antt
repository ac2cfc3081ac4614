-- The edges of a match of L, and the ranges of the edges of several.
use Rattle.std.specs.Prelude.{ℕ, ◌≤◌, min, max, Bool, ◌&&◌, List, [], ◌∷◌, leb, Option, None, Some}
use Rattle.model.specs.Matches.{Str, Match}
use Rattle.model.specs.declared.Position.{Position}
use Rattle.store.specs.Stream.{MatchHolds}
use Rattle.candidates.specs.declared.edges.Edges.{Edges}
use Rattle.strings.specs.declared.positions.Run.{Run}
use Rattle.candidates.specs.declared.edges.Ranges.{Ranges}

abbrev pub position : ℕ → Position
position p = record { 0 = p }

-- ---- edges

unfoldable pub last_of : Str → List Str → Str
last_of s [] = s
last_of s (t ∷ ts) = last_of t ts

-- the start of the first string and the end of the last one, if there are any
abbrev pub edges_of : List Str → Option Edges
edges_of [] = None
edges_of (s ∷ ss) = Some (record { start = position s.start; end = position (last_of s ss).end })

-- ---- ranges

abbrev pub contain : Ranges → Edges → Bool
contain ranges edges =
    (leb ranges.start.lo.0 edges.start.0 && leb edges.start.0 ranges.start.hi.0) && (leb ranges.end.lo.0 edges.end.0 && leb edges.end.0 ranges.end.hi.0)

-- .. as numbers
abbrev pub Within : Run → ℕ → Type 0
Within run p = (run.lo.0 ≤ p) × (p ≤ run.hi.0)

abbrev pub Contains : Ranges → Edges → Type 0
Contains ranges edges = Within ranges.start edges.start.0 × Within ranges.end edges.end.0

-- the ranges of the edges of one match
abbrev pub ranges_at : Edges → Ranges
ranges_at edges = record { start = record { lo = edges.start; hi = edges.start }; end = record { lo = edges.end; hi = edges.end } }

-- a run, widened to a position
abbrev pub widened_to : Run → Position → Run
widened_to run p = record { lo = position (min run.lo.0 p.0); hi = position (max run.hi.0 p.0) }

-- the ranges, widened to the edges of one more match
abbrev pub widened : Ranges → Edges → Ranges
widened ranges edges = record { start = widened_to ranges.start edges.start; end = widened_to ranges.end edges.end }

-- .. to the edges of a match, if it has includes
abbrev pub widened_if_some : Ranges → Option Edges → Ranges
widened_if_some ranges None = ranges
widened_if_some ranges (Some edges) = widened ranges edges

abbrev pub with_match : Ranges → Match → Ranges
with_match ranges m = widened_if_some ranges (edges_of m.includes)

-- .. of each of some matches
unfoldable pub with_matches : Ranges → List Match → Ranges
with_matches ranges [] = ranges
with_matches ranges (m ∷ ms) = with_matches (with_match ranges m) ms

-- how many matches of L a part of R is found for
abbrev pub ahead : ℕ
ahead = 16

-- ---- what is required

pub record MatchAt (mem : List ℕ) (at : ℕ) : Type 0 where
  pub item : Match
  pub held : MatchHolds mem at item
