-- A search for the first match that passes a test goes by what is left; one for the last splits the matches passed, and none after the split passes.
use Prim.Native.Nat.{ℕ, ◌+◌, ◌-◌, ◌≤◌, ◌<◌}
use native.Mathlib.Omega.{arith}
use mathlib.Core.Path.{◌≡◌, refl, sym, ap, ◌∙◌, subst}
use mathlib.Core.Bool.{Bool, true, false, ◌&&◌, or-true, cond}
use mathlib.Core.List.{List, [], ◌∷◌, ◌++◌, append_assoc, append-nil}
use lib.ListN.{length, take, drop, get_or, length-append}
use Rattle.model.specs.AllStrings.{AllList}
use Rattle.model.specs.Lists.{Every, all_of, any_of}
use Rattle.model.specs.Matches.{Str, Match}
use Rattle.model.specs.Rules.{has_uncovered}
use Rattle.model.proofs.ListsLaws.{any_append}
use Rattle.model.proofs.RulesLaws.{strings-append}
use Rattle.model.proofs.TestsLaws.{both_false}
use Rattle.strings.specs.Strings.{strs_at}
use Rattle.store.specs.declared.bounds.Bounds.{Bounds}
use Rattle.store.specs.Stream.{Remaining, RemainingAt, SearchInvariant}
use Rattle.store.specs.ValidStr.{ValidStr}
use Rattle.store.specs.Layout.{BoundsOf, Holds, match_length, match_numbers, matches_numbers}
use Rattle.store.proofs.DecodeLaws.{includes-within}
use Rattle.store.proofs.LayoutLaws.{matches_append, matches_cons, matches_none}
use Rattle.store.proofs.MemoryLaws.{holds-left}
use Rattle.store.proofs.StreamLaws.{Next, next-at, none-at, search_here, search_next, search_none}
use Rattle.candidates.specs.Passing.{from_first, up_to_last}

-- ---- a part before others

valid-left : (ms ns : List Match) → AllList ValidStr (ms ++ ns) → AllList ValidStr ms
unfolding Every
valid-left [] ns f = tt
valid-left (m ∷ ms) ns f = (f.0, valid-left ms ns f.1)

remaining_before : (ms ns : List Match) {mem : List ℕ} {at mid end : ℕ} → Remaining (ms ++ ns) mem at end → mid + length (matches_numbers ns) ≡ end → Remaining ms mem at mid
remaining_before ms ns {mem} {at} l e =
    let size = ap length (matches_append ms ns) ∙ length-append (matches_numbers ms) (matches_numbers ns) in
    record {
      holds = holds-left (matches_numbers ms) (matches_numbers ns) (subst (λ xs. Holds mem at xs) (matches_append ms ns) l.holds);
      up_to = omega (arith, l.up_to, size);
      few = omega (arith, l.few, strings-append ms ns);
      valid = valid-left ms ns l.valid;
    }

-- ---- the first that passes

-- the matches left tell which is the first that passes, if those left of them do
module _ (test : List Str → Bool) {result : List Match} {mem : List ℕ} {at end : ℕ} (g : SearchInvariant result (from_first test) mem at end) where
  pub passing_trans : {next : ℕ} → SearchInvariant (from_first test g.todo) (from_first test) mem next end → SearchInvariant result (from_first test) mem next end
  passing_trans later = record { todo = later.todo; left = later.left; same = later.same ∙ g.same }

  module _ (h : at < end) {b : Bounds} {t : Bool} (s : BoundsOf (get_or mem at 0) at b) (tested : t ≡ test (strs_at (take (b.excludes - b.includes) (drop b.includes mem)))) where
    first_tested : test (next-at g.left h).first.includes ≡ t
    first_tested = sym (tested ∙ ap test (includes-within (next-at g.left h).held s))

    pub passing-here : t ≡ true → Remaining result mem at end
    unfolding from_first
    passing-here hit =
        let N = next-at g.left h in
        let one : from_first test (N.first ∷ N.rest) ≡ N.first ∷ N.rest = rw (first_tested ∙ hit) in
        subst (λ ms. Remaining ms mem at end) (N.is ∙ sym one ∙ search_here g N) g.left

    pub passing-later : t ≡ false → {next : ℕ} → next ≡ at + match_length (get_or mem at 0) → SearchInvariant result (from_first test) mem next end
    unfolding from_first
    passing-later miss = search_next g (next-at g.left h) (from_first test) (rw (first_tested ∙ miss))

  pub passing-none : end ≤ at → Remaining result mem at end
  unfolding from_first
  passing-none h = let none = none-at g.left h in subst (λ ms. Remaining ms mem at end) (none ∙ search_none g none) g.left

-- ---- the last that passes

abbrev passes : (List Str → Bool) → Match → Bool
passes test m = test m.includes

-- where none passes
none_last : (test : List Str → Bool) (ms : List Match) → any_of (passes test) ms ≡ false → up_to_last test ms ≡ []
unfolding up_to_last any_of
none_last test [] e = refl
none_last test (m ∷ ms) e = rw e

-- after matches of any sort one that passes
some-there : (test : List Str → Bool) (os : List Match) (m : Match) (ms : List Match) → passes test m ≡ true → any_of (passes test) (os ++ m ∷ ms) ≡ true
unfolding any_of
some-there test os m ms e = any_append (passes test) os (m ∷ ms) ∙ rw e (or-true (any_of (passes test) os))

last-here : (test : List Str → Bool) (os : List Match) (m : Match) (ms : List Match) → passes test m ≡ true → up_to_last test (os ++ m ∷ ms) ≡ (os ++ m ∷ []) ++ up_to_last test ms
unfolding up_to_last any_of
last-here test [] m ms e = rw e
last-here test (o ∷ os) m ms e = rw (some-there test (o ∷ os) m ms e) (ap (λ rest. o ∷ rest) (last-here test os m ms e))

-- up to the last one there are no more numbers than in all
pub length-up_to_last : (test : List Str → Bool) (ms : List Match) → length (matches_numbers (up_to_last test ms)) ≤ length (matches_numbers ms)
unfolding up_to_last
length-up_to_last test [] = omega arith
length-up_to_last test (m ∷ ms) = at (any_of (passes test) (m ∷ ms)) (length-up_to_last test ms)
  where
    numbers : (ns : List Match) → length (matches_numbers (m ∷ ns)) ≡ length (match_numbers m) + length (matches_numbers ns)
    numbers ns = ap length (matches_cons m ns) ∙ length-append (match_numbers m) (matches_numbers ns)

    at : (b : Bool) → length (matches_numbers (up_to_last test ms)) ≤ length (matches_numbers ms)
        → length (matches_numbers (cond b (m ∷ up_to_last test ms) [])) ≤ length (matches_numbers (m ∷ ms))
    at true h = omega (arith, numbers (up_to_last test ms), numbers ms)
    at false h = omega (arith, ap length matches_none)

-- before the match at `at`: of those walked over, none at `stop` or after it passes the test
pub record Ending (test : List Str → Bool) (all : List Match) (mem : List ℕ) (stop at end : ℕ) : Type 0 where
  pub part : List Match
  pub others : List Match
  pub todo : List Match
  pub split : all ≡ part ++ (others ++ todo)
  pub same : up_to_last test all ≡ part ++ up_to_last test (others ++ todo)
  pub none : any_of (passes test) others ≡ false
  pub up_to : stop + length (matches_numbers (others ++ todo)) ≡ end
  pub left : Remaining todo mem at end

module _ {test : List Str → Bool} {mem : List ℕ} {from end : ℕ} (w : RemainingAt mem from end) where
  pub ending_start : Ending test w.list mem from from end
  unfolding any_of
  ending_start = record { part = []; others = []; todo = w.list; split = refl; same = refl; none = refl; up_to = w.stream.up_to; left = w.stream }

  module _ {stop at : ℕ} (g : Ending test w.list mem stop at end) where
    pub ending_none : end ≤ at → Remaining (up_to_last test w.list) mem from stop
    ending_none h =
        let others : g.others ++ g.todo ≡ g.others = ap (λ ms. g.others ++ ms) (none-at g.left h) ∙ append-nil g.others in
        let all = subst (λ ms. Remaining ms mem from end) (g.split ∙ ap (λ ms. g.part ++ ms) others) w.stream in
        let last = g.same ∙ ap (λ ms. g.part ++ ms) (ap (up_to_last test) others ∙ none_last test g.others g.none) ∙ append-nil g.part in
        let part = remaining_before g.part g.others all (subst (λ ms. stop + length (matches_numbers ms) ≡ end) others g.up_to) in
        subst (λ ms. Remaining ms mem from stop) (sym last) part

    module _ (h : at < end) {b : Bounds} {t : Bool} (s : BoundsOf (get_or mem at 0) at b) (tested : t ≡ test (strs_at (take (b.excludes - b.includes) (drop b.includes mem)))) where
      N : Next g.todo mem at end
      N = next-at g.left h

      after : Remaining N.rest mem b.end end
      after = N.after b.end s.end

      first_is : test N.first.includes ≡ t
      first_is = sym (tested ∙ ap test (includes-within N.held s))

      -- the others with the match in hand, and those after it
      one_more : g.others ++ g.todo ≡ (g.others ++ N.first ∷ []) ++ N.rest
      one_more = ap (λ ms. g.others ++ ms) N.is ∙ sym (append_assoc g.others (N.first ∷ []) N.rest)

      pub ending_here : t ≡ true → Ending test w.list mem b.end b.end end
      unfolding any_of
      ending_here hit =
          let o = g.others ++ N.first ∷ [] in
          let last = ap (λ ms. up_to_last test (g.others ++ ms)) N.is ∙ last-here test g.others N.first N.rest (first_is ∙ hit) in
          record {
            part = g.part ++ o;
            others = [];
            todo = N.rest;
            split = g.split ∙ ap (λ ms. g.part ++ ms) one_more ∙ sym (append_assoc g.part o N.rest);
            same = g.same ∙ ap (λ ms. g.part ++ ms) last ∙ sym (append_assoc g.part o (up_to_last test N.rest));
            none = refl;
            up_to = after.up_to;
            left = after;
          }

      pub ending_later : t ≡ false → Ending test w.list mem stop b.end end
      unfolding any_of
      ending_later miss =
          record {
            part = g.part;
            others = g.others ++ N.first ∷ [];
            todo = N.rest;
            split = g.split ∙ ap (λ ms. g.part ++ ms) one_more;
            same = g.same ∙ ap (λ ms. g.part ++ up_to_last test ms) one_more;
            none = any_append (passes test) g.others (N.first ∷ []) ∙ rw (g.none, first_is ∙ miss);
            up_to = subst (λ ms. stop + length (matches_numbers ms) ≡ end) one_more g.up_to;
            left = after;
          }

-- ---- has_uncovered

-- a match that has an uncovered position beside all that don't pass a test has one beside all, if beside those from the first one on that passes ..
module _ (l : Match) (test : List Str → Bool) (miss : (m : Match) → test m.includes ≡ false → has_uncovered l m ≡ true) where
  pub all_from_first : (ms : List Match) → all_of (has_uncovered l) (from_first test ms) ≡ all_of (has_uncovered l) ms
  unfolding from_first all_of
  all_from_first [] = refl
  all_from_first (m ∷ ms) = at (test m.includes) refl (all_from_first ms)
    where
      at : (b : Bool) → test m.includes ≡ b → all_of (has_uncovered l) (from_first test ms) ≡ all_of (has_uncovered l) ms
          → all_of (has_uncovered l) (cond b (m ∷ ms) (from_first test ms)) ≡ (has_uncovered l m && all_of (has_uncovered l) ms)
      at true e later = refl
      at false e later = rw (miss m e) later

  none_passes : (ms : List Match) → any_of (passes test) ms ≡ false → all_of (has_uncovered l) ms ≡ true
  unfolding any_of all_of
  none_passes [] e = refl
  none_passes (m ∷ ms) e =
      let both = both_false (passes test m) (any_of (passes test) ms) e in
      rw (miss m both.0) (none_passes ms both.1)

  -- .. and up to the last one
  pub all_up_to_last : (ms : List Match) → all_of (has_uncovered l) (up_to_last test ms) ≡ all_of (has_uncovered l) ms
  unfolding up_to_last all_of
  all_up_to_last [] = refl
  all_up_to_last (m ∷ ms) = at (any_of (passes test) (m ∷ ms)) refl (all_up_to_last ms)
    where
      at : (b : Bool) → any_of (passes test) (m ∷ ms) ≡ b → all_of (has_uncovered l) (up_to_last test ms) ≡ all_of (has_uncovered l) ms
          → all_of (has_uncovered l) (cond b (m ∷ up_to_last test ms) []) ≡ all_of (has_uncovered l) (m ∷ ms)
      at true e later = ap (λ t. has_uncovered l m && t) later
      at false e later = sym (none_passes (m ∷ ms) e)
