-- "The lists", rule by rule in document 01's order, and after them document 02's. L is the left list, R the right. No rule knows a limit.
use Rattle.std.specs.Prelude.{ℕ, ◌+◌, ◌-◌, min, max, Bool, true, false, not, ◌&&◌, ◌||◌, cond, leb, ltb, eqb, length}
use mathlib.Core.List.{List, [], ◌∷◌, ◌++◌, map, flat_map}
use Rattle.model.specs.Lists.{all_of, any_of, keep, all_pairs, neighbours, sort, choose, from_to}
use Rattle.model.specs.Matches.{Str, Match}
use Rattle.model.specs.Section.{Section}
use Rattle.model.specs.Families.{Searched}

-- Phrase: "one match per start where the k words stand in a row, ascending, holding one contiguous include. Its query position is its rank among the kind-1 codes, from 1."
-- Document 02, F-6: "A phrase fits where each word equals its token or both are in the table with the same family."

unfoldable pub stand_from : Searched → List ℕ → ℕ → Bool
stand_from s [] p = true
stand_from s (w ∷ ws) p = leb p s.section.tokens && s.fits (s.section.word p) w && stand_from s ws (p + 1)

abbrev pub found : ℕ → ℕ → ℕ → Match
found rank k p = record { includes = record { start = p; end = p + k - 1; query = rank; contiguous = true } ∷ []; excludes = [] }

unfoldable pub phrase_list : Searched → ℕ → List ℕ → List Match
phrase_list s rank ws = map (found rank (length ws)) (keep (stand_from s ws) (from_to 1 s.section.tokens))

-- Or: "L's matches, then R's."

abbrev pub or_list : List Match → List Match → List Match
or_list ls rs = ls ++ rs

-- And: "for each of L, for each of R, includes joined left then right, excludes likewise."

abbrev pub joined : Match → Match → Match
joined l r = record { includes = l.includes ++ r.includes; excludes = l.excludes ++ r.excludes }

unfoldable pub and_list : List Match → List Match → List Match
and_list ls rs = flat_map (λ l. map (joined l) rs) ls

-- Not: "of an empty list: one match with no strings. Otherwise, for each string of the first match (includes, then excludes), for each match
-- of the not of the remaining list: that string turned to the other sort and put ahead in its list."

abbrev pub no_strings : Match
no_strings = record { includes = []; excludes = [] }

abbrev pub with_include : Str → Match → Match
with_include s m = record { includes = s ∷ m.includes; excludes = m.excludes }

abbrev pub with_exclude : Str → Match → Match
with_exclude s m = record { includes = m.includes; excludes = s ∷ m.excludes }

unfoldable pub not_list : List Match → List Match
not_list [] = no_strings ∷ []
not_list (m ∷ ms) =
    flat_map (λ s. map (with_exclude s) (not_list ms)) m.includes ++ flat_map (λ s. map (with_include s) (not_list ms)) m.excludes

-- Mild not: "L's matches in which, for every match of R, some position covered by an include isn't covered by R's includes."

abbrev pub covers : Str → ℕ → Bool
covers s p = leb s.start p && leb p s.end

abbrev pub covered : List Str → ℕ → Bool
covered ss p = any_of (λ s. covers s p) ss

abbrev pub positions : Str → List ℕ
positions s = from_to s.start s.end

abbrev pub has_uncovered : Match → Match → Bool
has_uncovered l r = any_of (λ s. any_of (λ p. not (covered r.includes p)) (positions s)) l.includes

unfoldable pub mild_not_list : List Match → List Match → List Match
mild_not_list ls rs = keep (λ l. all_of (has_uncovered l) rs) ls

-- A filter works on one match: the matches that it gives, in order. Window, which may give several, is a rule of its own. Every other filter keeps
-- the match or drops it, by what its sentence says of three things.

pub record Keeping : Type 0 where
  -- "kept if ..", of the includes
  pub keeps : List Str → Bool
  -- "an exclude stays if ..", of the includes and the exclude
  pub stays : List Str → Str → Bool
  -- "the result holds the join", in place of the includes
  pub joins : Bool

abbrev pub kept_if : Bool → Match → List Match
kept_if test m = cond test (m ∷ []) []

-- Ordered: "two strings agree if start and query position both do not fall, or both do not rise, from one to the other. Kept if all pairs of
-- includes agree; an exclude stays if it agrees with every include."

abbrev pub agree : Str → Str → Bool
agree a b = leb a.start b.start && leb a.query b.query || leb b.start a.start && leb b.query a.query

abbrev pub ordered : Keeping
ordered = record { keeps = all_pairs agree; stays = λ is e. all_of (agree e) is; joins = false }

-- Join: "no includes give none. Otherwise one include from least start to greatest end, with the first include's query position; contiguous if
-- every position in it is covered and all were contiguous."

unfoldable pub least_start : Str → List Str → ℕ
least_start s [] = s.start
least_start s (t ∷ ts) = min s.start (least_start t ts)

unfoldable pub greatest_end : Str → List Str → ℕ
greatest_end s [] = s.end
greatest_end s (t ∷ ts) = max s.end (greatest_end t ts)

unfoldable pub join : List Str → List Str
join [] = []
join (s ∷ ss) =
    record {
      start = least_start s ss;
      end = greatest_end s ss;
      query = s.query;
      contiguous = all_of (covered (s ∷ ss)) (from_to (least_start s ss) (greatest_end s ss)) && all_of (λ t. t.contiguous) (s ∷ ss);
    } ∷ []

-- What a filter other than window gives of a match: the match that is kept, or none.

abbrev pub kept_match : Keeping → Match → Match
kept_match k m = record { includes = cond k.joins (join m.includes) m.includes; excludes = keep (k.stays m.includes) m.excludes }

unfoldable pub kept : Keeping → Match → List Match
kept k m = kept_if (k.keeps m.includes) (kept_match k m)

-- Window: "for each match with includes and each W from (greatest end − N + 1) up to least start, one match: the join, and the excludes inside
-- W to W + N − 1. W may be zero or negative. Equal copies are all listed. A match without includes is dropped."
-- W to W + N − 1 is named here by its last position, W + N − 1, which is never negative: it runs from greatest end up to least start + N − 1.
-- W ≤ start is last < start + N, and end ≤ W + N − 1 is end ≤ last.

abbrev pub inside_window : ℕ → ℕ → Str → Bool
inside_window n last e = ltb last (e.start + n) && leb e.end last

abbrev pub window_to : ℕ → Match → ℕ → Match
window_to n m last = record { includes = join m.includes; excludes = keep (inside_window n last) m.excludes }

unfoldable pub window_ends : ℕ → List Str → List ℕ
window_ends n [] = []
window_ends n (s ∷ ss) = from_to (greatest_end s ss) (least_start s ss + n - 1)

unfoldable pub window : ℕ → Match → List Match
window n m = map (window_to n m) (window_ends n m.includes)

-- Distance "of two spans, sorted by start then end: second start − first end − 1, or 0 where that is negative. Kept if all neighbours among the
-- sorted includes lie in a to b; the result holds the join and the excludes whose distance to every include lies in a to b. Zero or one include
-- passes."

abbrev pub not_after : Str → Str → Bool
not_after s t = ltb s.start t.start || eqb s.start t.start && leb s.end t.end

abbrev pub between : Str → Str → ℕ
between s t = t.start - s.end - 1

abbrev pub distance_of : Str → Str → ℕ
distance_of s t = cond (not_after s t) (between s t) (between t s)

abbrev pub within : ℕ → ℕ → ℕ → Bool
within a b d = leb a d && leb d b

abbrev pub distance : ℕ → ℕ → Keeping
distance a b =
    record {
      keeps = λ is. neighbours (λ s t. within a b (distance_of s t)) (sort not_after is);
      stays = λ is e. all_of (λ s. within a b (distance_of e s)) is;
      joins = true;
    }

-- "A sentence or paragraph of a span's start or end is that of the token there." A unit is either, as the number at a position.

pub record UnitRange : Type 0 where
  pub first : ℕ
  pub last : ℕ

abbrev pub unit_range : (ℕ → ℕ) → Str → UnitRange
unit_range unit s = record { first = unit s.start; last = unit s.end }

-- Same: "kept if each include starts and ends in one nonzero unit, the same for all (none passes). An exclude stays if it does so in the
-- includes' unit; without includes, in any one nonzero unit."

-- "starts and ends in one nonzero unit", which is u
abbrev pub in_unit : ℕ → UnitRange → Bool
in_unit u r = not (eqb u 0) && eqb r.first u && eqb r.last u

-- the unit that a string, include or exclude, is held to: that of the first include, which is that of all where the match is kept; or its own
abbrev pub unit_for : (ℕ → ℕ) → List Str → Str → ℕ
unit_for unit [] s = unit s.start
unit_for unit (i ∷ is) s = unit i.start

unfoldable pub in_unit_for : (ℕ → ℕ) → List Str → Str → Bool
in_unit_for unit is s = in_unit (unit_for unit is s) (unit_range unit s)

abbrev pub same : (ℕ → ℕ) → Keeping
same unit = record { keeps = λ is. all_of (in_unit_for unit is) is; stays = in_unit_for unit; joins = false }

-- Different: "at least two includes, all units nonzero, and no two includes' unit ranges overlapping. An exclude stays if its units are nonzero
-- and overlap no include's."

abbrev pub nonzero : UnitRange → Bool
nonzero r = not (eqb r.first 0) && not (eqb r.last 0)

abbrev pub apart : UnitRange → UnitRange → Bool
apart r t = ltb r.last t.first || ltb t.last r.first

abbrev pub units_nonzero : (ℕ → ℕ) → Str → Bool
units_nonzero unit s = nonzero (unit_range unit s)

abbrev pub units_apart : (ℕ → ℕ) → Str → Str → Bool
units_apart unit s t = apart (unit_range unit s) (unit_range unit t)

abbrev pub different : (ℕ → ℕ) → Keeping
different unit =
    record {
      keeps = λ is. leb 2 (length is) && all_of (units_nonzero unit) is && all_pairs (units_apart unit) is;
      stays = λ is e. units_nonzero unit e && all_of (units_apart unit e) is;
      joins = false;
    }

-- "At start, at end: some include covers position 1, or n. With n = 0 none does."

-- a match that is kept stays as it is
abbrev pub keeps_whole : (List Str → Bool) → Keeping
keeps_whole test = record { keeps = test; stays = λ is e. true; joins = false }

abbrev pub at_position : Section → ℕ → Keeping
at_position s p = keeps_whole (λ is. leb 1 s.tokens && covered is p)

abbrev pub at_start : Section → Keeping
at_start s = at_position s 1

abbrev pub at_end : Section → Keeping
at_end s = at_position s s.tokens

-- "Entire content: every position 1 to n is covered by some contiguous include."

abbrev pub entire_content : Section → Keeping
entire_content s = keeps_whole (λ is. all_of (covered (keep (λ i. i.contiguous) is)) (from_to 1 s.tokens))

-- Document 02, F-3. Occurs at least a: "every choice of a or more of the phrase's matches, fewest first, equal sizes in order of first difference by
-- position, each choice joined as and would." So the choices of a, of a + 1, .. up to that of all.

unfoldable pub joined_all : List Match → Match
joined_all [] = no_strings
joined_all (m ∷ ms) = joined m (joined_all ms)

unfoldable pub choices_of : List Match → ℕ → List Match
choices_of ms k = map joined_all (choose k ms)

unfoldable pub at_least : ℕ → List Match → List Match
at_least a ms = flat_map (choices_of ms) (from_to a (length ms))

-- Occurs from a to b: "at least a, and not at least b + 1."

unfoldable pub from_to_times : ℕ → ℕ → List Match → List Match
from_to_times a b ms = and_list (at_least a ms) (not_list (at_least (b + 1) ms))
