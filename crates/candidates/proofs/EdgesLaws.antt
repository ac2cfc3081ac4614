-- The edges of strings are read from the first and the last pair of their numbers, and valid strings cover them. Ranges that are widened lose nothing, so those
-- that begin with the edges of a match contain them in the end.
use Prim.Native.Nat.{ℕ, zero, suc, ◌+◌, ◌-◌, ◌*◌, ◌/◌, ◌%◌, ◌≤◌, ◌<◌, min}
use native.Mathlib.Omega.{arith}
use mathlib.Core.Path.{◌≡◌, refl, sym, ap, ◌∙◌, subst}
use mathlib.Core.Bool.{Bool, true, false, ◌&&◌, or-true}
use mathlib.Core.List.{List, [], ◌∷◌}
use borrow.Author.Tests.{le-leb, leb-true, leb-false}
use lib.Dec.{leb}
use lib.ListN.{length, take, get_or}
use Rattle.model.specs.AllStrings.{AllStrs}
use Rattle.model.specs.Limits.{radix}
use Rattle.model.specs.Lists.{Every, any_of}
use Rattle.model.specs.Matches.{Str, Match}
use Rattle.model.specs.declared.Position.{Position}
use Rattle.model.specs.Rules.{covered, covers}
use Rattle.model.proofs.TestsLaws.{both_true}
use Rattle.strings.specs.Strings.{str_of, strs_at}
use Rattle.store.specs.ValidStr.{ValidStr}
use Rattle.store.specs.Layout.{match_length}
use Rattle.store.specs.Stream.{Remaining, StreamAt}
use Rattle.store.proofs.StreamLaws.{Next, next-counted, none-counted}
use Rattle.candidates.specs.declared.edges.Edges.{Edges}
use Rattle.strings.specs.declared.positions.Run.{Run}
use Rattle.std.specs.Prelude.{Option, None, Some}
use Rattle.candidates.specs.declared.edges.Ranges.{Ranges}
use Rattle.candidates.specs.Edges.{ahead, contain, edges_of, last_of, position, ranges_at, widened_if_some, widened_to, with_match, with_matches, Contains, MatchAt, Within}

-- ---- edges

-- the last string of a part that holds any
last-read : (x y : ℕ) (l : List ℕ) → (last_of (str_of x y) (strs_at l)).end ≡ get_or (x ∷ y ∷ l) (length (x ∷ y ∷ l) / 2 * 2 - 2) 0 % radix
unfolding last_of strs_at
last-read x y [] = refl
last-read x y (z ∷ []) = refl
last-read x y (z ∷ w ∷ l) =
    let i = length (z ∷ w ∷ l) / 2 * 2 - 2 in
    let further : suc (suc i) ≡ length (x ∷ y ∷ z ∷ w ∷ l) / 2 * 2 - 2 = omega arith in
    last-read z w l ∙ ap (λ k. get_or (x ∷ y ∷ z ∷ w ∷ l) k 0 % radix) further

pub edges_none : (l : List ℕ) → length l < 2 → edges_of (strs_at l) ≡ None
unfolding strs_at
edges_none [] h = refl
edges_none (x ∷ []) h = refl
edges_none (x ∷ y ∷ l) h = absurd (omega arith)

pub edges_read : (l : List ℕ) → 2 ≤ length l
    → edges_of (strs_at l) ≡ Some (record { start = position (get_or l 0 0 / radix); end = position (get_or l (length l / 2 * 2 - 2) 0 % radix) })
unfolding strs_at
edges_read [] h = absurd (omega arith)
edges_read (x ∷ []) h = absurd (omega arith)
edges_read (x ∷ y ∷ l) h = ap (λ k. Some (record { start = position (x / radix); end = position k })) (last-read x y l)

-- valid strings cover their edges
last-covered : (s : Str) (ss : List Str) → AllStrs ValidStr (s ∷ ss) → covered (s ∷ ss) (last_of s ss).end ≡ true
unfolding last_of Every any_of
last-covered s [] f = rw (le-leb s.start s.end f.0.in_order, le-leb s.end s.end (omega arith))
last-covered s (t ∷ ts) f = rw (last-covered t ts f.1) (or-true (covers s (last_of t ts).end))

pub edges-covered : {edges : Edges} (ss : List Str) → AllStrs ValidStr ss → edges_of ss ≡ Some edges → (covered ss edges.start.0 ≡ true) × (covered ss edges.end.0 ≡ true)
unfolding Every any_of
edges-covered [] f e = absurd cc
edges-covered {edges} (s ∷ ss) f e =
    let same : record { start = position s.start; end = position (last_of s ss).end } ≡ edges = cc in
    let first : covered (s ∷ ss) s.start ≡ true = rw (le-leb s.start s.start (omega arith), le-leb s.start s.end f.0.in_order) in
    (subst (λ g. covered (s ∷ ss) g.start.0 ≡ true) same first, subst (λ g. covered (s ∷ ss) g.end.0 ≡ true) same (last-covered s ss f))

pub no-edges : (ss : List Str) → edges_of ss ≡ None → ss ≡ []
no-edges [] e = refl
no-edges (s ∷ ss) e = absurd cc

-- ---- ranges

within-true : (run : Run) (p : ℕ) → (leb run.lo.0 p && leb p run.hi.0) ≡ true → Within run p
within-true run p e =
    let both = both_true (leb run.lo.0 p) (leb p run.hi.0) e in
    (leb-true run.lo.0 p both.0, leb-true p run.hi.0 both.1)

pub contain_contains : (ranges : Ranges) (edges : Edges) → contain ranges edges ≡ true → Contains ranges edges
contain_contains ranges edges e =
    let start = ranges.start in
    let end = ranges.end in
    let both = both_true (leb start.lo.0 edges.start.0 && leb edges.start.0 start.hi.0) (leb end.lo.0 edges.end.0 && leb edges.end.0 end.hi.0) e in
    (within-true ranges.start edges.start.0 both.0, within-true ranges.end edges.end.0 both.1)

-- what lies within a run lies within it widened
within-widened : (run : Run) (p : Position) (q : ℕ) → Within run q → Within (widened_to run p) q
within-widened run p q w = (omega arith, omega arith)

with_contains : (ranges : Ranges) (more : Option Edges) (edges : Edges) → Contains ranges edges → Contains (widened_if_some ranges more) edges
with_contains ranges None edges c = c
with_contains ranges (Some more) edges c = (within-widened ranges.start more.start edges.start.0 c.0, within-widened ranges.end more.end edges.end.0 c.1)

matches_contain : (ranges : Ranges) (ms : List Match) (edges : Edges) → Contains ranges edges → Contains (with_matches ranges ms) edges
unfolding with_matches
matches_contain ranges [] edges c = c
matches_contain ranges (m ∷ ms) edges c = matches_contain (with_match ranges m) ms edges (with_contains ranges (edges_of m.includes) edges c)

-- ranges that begin with the edges of a match contain them
pub ahead_contains : {ranges : Ranges} (edges : Edges) (ms : List Match) → ranges ≡ with_matches (ranges_at edges) ms → Contains ranges edges
ahead_contains edges ms e =
    subst (λ r. Contains r edges) (sym e) (matches_contain (ranges_at edges) ms edges (omega arith, omega arith))

-- ---- ranges ahead

take_none : {A : Type 0} (k : ℕ) → take {A = A} k [] ≡ []
take_none zero = refl
take_none (suc k) = refl

-- before match number i of the first n, and of `ahead` at most, at `at`: the ranges, widened to those that are still to come, are what they are to be
pub record Widening (list : List Match) (before : Ranges) (mem : List ℕ) (n at i : ℕ) (ranges : Ranges) : Type 0 where
  pub todo : List Match
  pub end : ℕ
  pub left : Remaining todo mem at end
  pub count : i + length todo ≡ n
  pub same : with_matches ranges (take (ahead - i) todo) ≡ with_matches before (take ahead list)

pub widening_start : {mem : List ℕ} {p n : ℕ} (w : StreamAt mem p n) {before ranges : Ranges} → ranges ≡ before → Widening w.list before mem n p 0 ranges
widening_start w e =
    record { todo = w.list; end = w.end; left = w.stream; count = omega (arith, w.count); same = ap (λ r. with_matches r (take ahead w.list)) e }

module _ {list : List Match} {before ranges : Ranges} {mem : List ℕ} {n at i : ℕ} (g : Widening list before mem n at i ranges) where
  pub widening_end : {m : ℕ} → m ≡ min n ahead → m ≤ i → ranges ≡ with_matches before (take ahead list)
  unfolding with_matches
  widening_end m_is h = by (leb ahead i) refl
    where
      by : (b : Bool) → leb ahead i ≡ b → ranges ≡ with_matches before (take ahead list)
      by true e = let none : ahead - i ≡ 0 = omega (arith, leb-true ahead i e) in ap (λ k. with_matches ranges (take k g.todo)) (sym none) ∙ g.same
      by false e =
          let none : take (ahead - i) g.todo ≡ [] = ap (take (ahead - i)) (none-counted g.left g.count (omega (arith, leb-false ahead i e))) ∙ take_none (ahead - i) in
          ap (with_matches ranges) (sym none) ∙ g.same

  module _ {m : ℕ} (m_is : m ≡ min n ahead) (h : i < m) where
    pub here : Next g.todo mem at g.end
    here = next-counted g.left g.count (omega arith)

    abbrev pub widening_at : MatchAt mem at
    widening_at = record { item = here.first; held = here.held }

    pub widening_next : {ranges' : Ranges} {at' : ℕ} → ranges' ≡ with_match ranges widening_at.item → at' ≡ at + match_length (get_or mem at 0)
        → Widening list before mem n at' (i + 1) ranges'
    unfolding with_matches
    widening_next {ranges'} e f =
        let N = here in
        let one : ahead - i ≡ suc (ahead - (i + 1)) = omega arith in
        let split : take (ahead - i) g.todo ≡ N.first ∷ take (ahead - (i + 1)) N.rest = ap (λ j. take j g.todo) one ∙ ap (take (suc (ahead - (i + 1)))) N.is in
        record {
          todo = N.rest;
          end = g.end;
          left = N.after _ f;
          count = omega (arith, g.count, N.one_less);
          same = ap (λ r. with_matches r (take (ahead - (i + 1)) N.rest)) e ∙ ap (with_matches ranges) (sym split) ∙ g.same;
        }
