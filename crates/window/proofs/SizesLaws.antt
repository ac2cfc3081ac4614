-- The sizes of windows. A window more holds the strings inside it once more, so the strings inside all windows are, string by string, as many as there are
-- windows around it and the join. The sizes of a list only grow by what comes after, so a list is too long where a first part of it is.
use Prim.Native.Nat.{ℕ, zero, suc, ◌+◌, ◌-◌, ◌*◌, ◌≤◌, ◌<◌, min, max}
use native.Mathlib.Omega.{arith}
use mathlib.Core.Path.{◌≡◌, refl, sym, ap, ap₂, ◌∙◌, subst}
use mathlib.Core.Bool.{Bool, true, false, cond, ◌&&◌, true≢false}
use mathlib.Core.List.{List, [], ◌∷◌, ◌++◌, append_assoc, append-nil, flat_map, map}
use borrow.Author.Tests.{leb-true, leb-false, ltb-true, ltb-false}
use lib.Dec.{leb, ltb}
use lib.ListN.{length, length-append, length-map}
use Rattle.model.specs.Limits.{max_matches, max_strings, max_window, radix}
use Rattle.model.specs.Lists.{Every, from_to, keep, up_from}
use Rattle.model.specs.Matches.{Match, Str, strings, too_long}
use Rattle.model.specs.Rules.{inside_window, join, window, window_ends, window_to}
use Rattle.model.proofs.ListsLaws.{length-range}
use Rattle.model.proofs.RulesLaws.{strings-append}
use Rattle.join.specs.Joined.{Extent}
use Rattle.strings.specs.Strings.{str_packed}
use Rattle.strings.specs.declared.packed.Packed.{Packed}
use Rattle.strings.specs.declared.positions.Run.{Run}
use Rattle.std.specs.Prelude.{IsErr, Ok, Err}
use Rattle.store.specs.declared.Size.{Size}
use Rattle.store.specs.declared.TooLong.{TooLong}
use Rattle.store.specs.Built.{Built, made, over, sized_as, built_of, Small}
use Rattle.model.specs.AllStrings.{AllList, AllMatch}
use Rattle.store.specs.ValidStr.{ValidStr}
use Rattle.store.specs.Slot.{SlotHolds}
use Rattle.store.proofs.SlotsLaws.{answer-long, answer_made, built_made, not-long, the-error}
use Rattle.window.specs.Inside.{WindowSize}
use Rattle.window.specs.Sizes.{SizeAt, times_inside, windows_around}
use Rattle.window.proofs.JoinedLaws.{ends-are, length-join-one, window_dropped}

-- ---- times_inside

-- each string lies in all windows at most
times-most : (n start end : ℕ) (ss : List Str) → windows_around n start end ≤ max_matches → times_inside n start end ss ≤ max_matches * length ss
unfolding times_inside
times-most n start end [] h = omega arith
times-most n start end (s ∷ ss) h = omega (arith, times-most n start end ss h)

times_none : (n start last : ℕ) (ss : List Str) → start + n ≤ last → times_inside n start last ss ≡ 0
unfolding times_inside
times_none n start last [] h = refl
times_none n start last (s ∷ ss) h = omega (arith, times_none n start last ss h)

-- the strings inside the first window, and those inside the windows after it
times-next : (n start last : ℕ) (ss : List Str) → last < start + n
    → length (keep (inside_window n last) ss) + times_inside n start (last + 1) ss ≡ times_inside n start last ss
unfolding keep times_inside
times-next n start last [] h = refl
times-next n start last (s ∷ ss) h = at (ltb last (s.start + n)) (leb s.end last) refl refl _ _ _ (times-next n start last ss h)
  where
    at : (a b : Bool) → ltb last (s.start + n) ≡ a → leb s.end last ≡ b → (kept : List Str) (t t' : ℕ) → length kept + t' ≡ t
        → length (cond (a && b) (s ∷ kept) kept) + (windows_around n (min start s.start) (max (last + 1) s.end) + t')
        ≡ windows_around n (min start s.start) (max last s.end) + t
    at true true e f kept t t' i = omega (arith, ltb-true, leb-true)
    at true false e f kept t t' i = omega (arith, leb-false)
    at false b e f kept t t' i = omega (arith, ltb-false)

-- ---- count_inside

-- what one string adds
pub count-more : {n start first more : ℕ} (s last : ℕ) → WindowSize n → start < radix → first ≡ min start s → more ≡ windows_around n first last → more ≤ radix + max_window
count-more s last size low f e = omega (arith, size.up_to)

-- the count so far and what the strings left add to it
pub record Counted (n start end : ℕ) (all left : List Str) (count : ℕ) : Type 0 where
  pub same : count + times_inside n start end left ≡ times_inside n start end all
  pub few : length left ≤ length all

pub count-start : (n start : ℕ) {end : ℕ} {all left : List Str} → left ≡ all → Counted n start end all left 0
count-start n start {end} e = record { same = omega (arith, ap (times_inside n start end) e); few = omega (arith, ap length e) }

module _ {n start end count : ℕ} {all left : List Str} (g : Counted n start end all left count) where
  pub count_most : windows_around n start end ≤ max_matches → length all ≤ max_strings → count ≤ max_matches * max_strings
  count_most h k = omega (arith, g.same, times-most n start end all h)

  -- the string in hand is taken in with the run
  pub count_next : (s : Packed) {more : List Str} → left ≡ str_packed s ∷ more → {added : ℕ} → added ≡ windows_around n (min start (str_packed s).start) (max end (str_packed s).end)
      → Counted n start end all more (count + added)
  unfolding times_inside
  count_next s {more} e f =
      record { same = omega (arith, f, g.same, ap (times_inside n start end) e); few = omega (arith, g.few, ap length e) }

  pub count-end : left ≡ [] → count ≡ times_inside n start end all
  unfolding times_inside
  count-end e = omega (arith, g.same, ap (times_inside n start end) e)

-- ---- the windows of one match

-- those that end from `last` on, k of them
strings-from : (n start : ℕ) (m : Match) → length (join m.includes) ≡ 1 → (k last : ℕ) → k ≡ start + n - last
    → strings (map (window_to n m) (up_from last k)) ≡ k + times_inside n start last m.excludes
unfolding strings up_from
strings-from n start m j zero last e = omega (arith, times_none n start last m.excludes (omega arith))
strings-from n start m j (suc k) last e =
    omega (arith, times-next n start last m.excludes (omega arith), strings-from n start m j k (last + 1) (omega arith))

-- their sizes, by the start and the end of the join
module _ {n : ℕ} (start end : ℕ) (m : Match) (size : WindowSize n) (ends : window_ends n m.includes ≡ from_to end (start + n - 1))
    (j : length (join m.includes) ≡ 1) where
  length_windows : length (window n m) ≡ windows_around n start end
  unfolding window
  length_windows =
      omega (arith, length-map (window_ends n m.includes) (window_to n m), ap length ends, length-range end (start + n - 1), size.from_one)

  strings_windows : strings (window n m) ≡ windows_around n start end + times_inside n start end m.excludes
  unfolding window from_to
  strings_windows =
      let k : ℕ = windows_around n start end in
      let many : start + n - 1 + 1 - end ≡ k = omega (arith, size.from_one) in
      ap (λ lasts. strings (map (window_to n m) lasts)) (ends ∙ ap (up_from end) many) ∙ strings-from n start m j k end refl

-- ---- size_with

module _ {n : ℕ} {m : Match} {size : Size} (w : SizeAt n m size.matches size.strings) where
  abbrev longer : List Match
  longer = w.list ++ window n m

  pub size_dropped : m.includes ≡ [] → Ok size ≡ built_of (w.list ++ window n m)
  size_dropped z =
      let same : longer ≡ w.list = ap (λ ms. w.list ++ ms) (window_dropped n m z) ∙ append-nil w.list in
      built_made w.list w.matches_are w.strings_are (omega (arith, w.matches_are, w.strings_are, w.few_matches, w.few_strings)) ∙ ap built_of (sym same)

  -- what the run and the excludes tell of the windows is so
  pub size-counted : {run : Run} → Extent m.includes run → {built : Built}
      → built ≡ sized_as (size.matches + windows_around n run.lo.0 run.hi.0) (size.strings + (windows_around n run.lo.0 run.hi.0 + times_inside n run.lo.0 run.hi.0 m.excludes))
      → built ≡ built_of (w.list ++ window n m)
  size-counted {run} x f =
      let start = run.lo.0 in
      let end = run.hi.0 in
      let ends = ends-are x n in
      let one = length-join-one x in
      let windows : ℕ = windows_around n start end in
      let times : List Str → ℕ = times_inside n start end in
      let matches_now : size.matches + windows ≡ length longer =
      omega (arith, length-append w.list (window n m), w.matches_are, length_windows start end m w.size ends one) in
      let strings_now : size.strings + (windows + times m.excludes) ≡ strings longer =
      omega (arith, strings-append w.list (window n m), w.strings_are, strings_windows start end m w.size ends one) in
      f ∙ ap₂ sized_as matches_now strings_now

-- ---- window_size

-- a list is too long where a first part of it is
long-before : (ms ns : List Match) → over ≡ built_of ms → over ≡ built_of (ms ++ ns)
long-before ms ns e = at (too_long (ms ++ ns)) refl
  where
    at : (t : Bool) → too_long (ms ++ ns) ≡ t → over ≡ cond t over (made (length (ms ++ ns)) (strings (ms ++ ns)))
    at true q = refl
    at false q =
        let fits : made (length (ms ++ ns)) (strings (ms ++ ns)) ≡ built_of (ms ++ ns) = rw q in
        let h = (answer_made (ms ++ ns) fits).small in
        let first : Small ms = omega (arith, h.few, h.strs, length-append ms ns, strings-append ms ns) in
        absurd (true≢false (sym (answer-long ms e) ∙ not-long ms first))

-- the windows of the matches before those left are counted
pub record Sizing (n : ℕ) (list left : List Match) (size : Size) : Type 0 where
  pub done : List Match
  pub split : flat_map (window n) list ≡ done ++ flat_map (window n) left
  pub size_is : Ok size ≡ built_of done
  pub few : strings left ≤ max_strings
  pub valid : AllList ValidStr left

pub size-start : (n : ℕ) {mem : List ℕ} {src : ℕ} {list left : List Match} → SlotHolds mem src list → left ≡ list → Sizing n list left (record { matches = 0; strings = 0 })
unfolding strings
size-start n s e =
    record {
      done = [];
      split = ap (flat_map (window n)) (sym e);
      size_is = built_made [] refl refl (omega arith);
      few = omega (arith, ap strings e, s.strs);
      valid = subst (AllList ValidStr) (sym e) s.valid;
    }

module _ {n : ℕ} {list left : List Match} {size : Size} (g : Sizing n list left size) where
  module _ {m : Match} {rest : List Match} (e : left ≡ m ∷ rest) where
    split_next : flat_map (window n) list ≡ (g.done ++ window n m) ++ flat_map (window n) rest
    unfolding flat_map
    split_next =
        g.split ∙ ap (λ ms. g.done ++ flat_map (window n) ms) e
        ∙ sym (append_assoc g.done (window n m) (flat_map (window n) rest))

    valid-both : AllMatch ValidStr m × AllList ValidStr rest
    unfolding Every
    valid-both = subst (AllList ValidStr) e g.valid

    -- the match in hand
    pub size-item : WindowSize n → SizeAt n m size.matches size.strings
    unfolding strings
    size-item width =
        let z = answer_made g.done g.size_is in
        let few : size.matches ≤ max_matches = omega (arith, z.matches_are, z.small.few) in
        let few' : size.strings ≤ max_strings = omega (arith, z.strings_are, z.small.strs) in
        record {
          list = g.done;
          size = width;
          valid = valid-both.0;
          few = omega (arith, g.few, ap strings e);
          matches_are = z.matches_are;
          strings_are = z.strings_are;
          few_matches = few;
          few_strings = few';
        }

    module _ (width : WindowSize n) {built : Built} (made_of : built ≡ built_of ((size-item width).list ++ window n m)) where
      pub size-next : {size' : Size} → built ≡ Ok size' → Sizing n list rest size'
      unfolding size-item strings
      size-next f =
          record { done = g.done ++ window n m; split = split_next; size_is = sym f ∙ made_of; few = omega (arith, g.few, ap strings e); valid = valid-both.1 }

      pub size-over : {error : TooLong} {result : Built} → built ≡ Err error → IsErr result → result ≡ built_of (flat_map (window n) list)
      unfolding size-item
      size-over f r = the-error _ r ∙ long-before (g.done ++ window n m) _ (sym f ∙ made_of) ∙ ap built_of (sym split_next)

  pub size-end : left ≡ [] → Ok size ≡ built_of (flat_map (window n) list)
  unfolding flat_map
  size-end e = g.size_is ∙ ap built_of (sym (g.split ∙ ap (λ ms. g.done ++ flat_map (window n) ms) e ∙ append-nil g.done))
