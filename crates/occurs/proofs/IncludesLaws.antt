-- The includes of a choice, written by a walk over the finds. What is left of the choice's number is the number of a choice from the finds left:
-- below the number of the choices with the next find, it has that find; else it goes on without it.
use Prim.Native.Nat.{ℕ, suc, ◌+◌, ◌-◌, ◌*◌, ◌/◌, ◌≤◌, ◌<◌}
use native.Mathlib.Omega.{arith}
use native.Mathlib.Nat.{mul-le-mul}
use mathlib.Core.Path.{◌≡◌, refl, sym, ap, ap₂, ◌∙◌, subst}
use mathlib.Core.List.{List, [], ◌∷◌, map}
use lib.ListN.{length, get_or}
use Rattle.model.specs.Answers.{span_of, tag_of}
use Rattle.model.specs.Limits.{max_matches}
use Rattle.model.specs.Matches.{Str}
use Rattle.strings.specs.Strings.{strs_of}
use Rattle.store.specs.Layout.{Holds, matches_at, matches_numbers}
use Rattle.store.specs.Put.{Put}
use Rattle.store.proofs.LayoutLaws.{strs_of-flat_map}
use Rattle.store.proofs.MemoryLaws.{get_d_head, holds_tail}
use Rattle.store.proofs.PutLaws.{holds-below, length-put}
use Rattle.strings.specs.declared.packed.Packed.{Packed}
use Rattle.store.proofs.RowsLaws.{Rows, rows_start, rows_step, rows_finish}
use Rattle.occurs.specs.Binomial.{binomial, chosen}
use Rattle.occurs.specs.Finds.{find}
use Rattle.occurs.specs.Writing.{IncludesAt}
use Rattle.occurs.proofs.BinomialLaws.{binomial-none, with_first_lem, chosen_with, chosen_without}
use Rattle.occurs.proofs.FindsLaws.{length-finds, FirstFind, first-find, finds-counted, finds-few, finds_hold}

-- an include's numbers
abbrev include_numbers : Str → List ℕ
include_numbers s = span_of s ∷ tag_of 0 s ∷ []

-- before the first of the n finds left, at `from`: left to write is choice number rest of `left` of them, of which there are weight choices
pub record Including (finds : List Str) (mem₀ : List ℕ) (k c at : ℕ) (mem : List ℕ) (n from q left rest weight : ℕ) : Type 0 where
  pub todo : List Str
  pub holds : Holds mem from (matches_numbers (map find todo))
  pub count : length todo ≡ n
  pub below : from + 3 * n ≤ at
  pub weight_is : weight ≡ binomial n left
  pub in_range : rest < weight
  pub few : weight ≤ max_matches
  pub small : left ≤ max_matches
  pub rows : Rows include_numbers (chosen k finds c) (chosen left todo rest) mem₀ mem at q
  pub room : q + 2 * left ≤ length mem

pub start : {mem : List ℕ} {src k total c at : ℕ} (w : IncludesAt mem src k total c at) {n : ℕ} → n ≡ matches_at mem src
    → Including w.finds mem k c at mem n (src + 2) at k c total
start {k = k} w e =
    let s = w.source.slot in
    let n_is = e ∙ finds-counted w.finds s in
    record {
      todo = w.finds;
      holds = finds_hold w.finds s;
      count = sym n_is;
      below = omega (arith, w.source.below, finds-few w.finds s, n_is);
      weight_is = w.size.total_is ∙ ap (λ m. binomial m k) (sym n_is);
      in_range = w.in_range;
      few = w.size.few;
      small = w.size.small;
      rows = rows_start;
      room = w.room;
    }

-- the next find, and how many choices have it: those of l from the finds after it
record Here (todo : List Str) (mem : List ℕ) (n from left weight l : ℕ) : Type 0 where
  first : Str
  others : List Str
  is : todo ≡ first ∷ others
  count : length others + 1 ≡ n
  held : FirstFind mem from first others
  with_is : weight * left / n ≡ binomial (length others) l
  all_are : weight ≡ binomial (length others) l + binomial (length others) left

here_of : (todo : List Str) {mem : List ℕ} {n from left weight l : ℕ} → Holds mem from (matches_numbers (map find todo)) → length todo ≡ n
    → weight ≡ binomial n left → 0 < weight → left ≡ suc l → Here todo mem n from left weight l
unfolding binomial
here_of [] {n = n} {left = left} h e w r f = absurd (omega (arith, binomial-none n left (omega arith)))
here_of (s ∷ ss) {weight = weight} {l = l} h e w r f =
    let weight_is : weight ≡ binomial (suc (length ss)) (suc l) = w ∙ ap₂ binomial (sym e) f in
    record {
      first = s;
      others = ss;
      is = refl;
      count = omega arith;
      held = first-find s ss h;
      with_is = ap₂ ◌/◌ (ap₂ ◌*◌ weight_is f) (sym e) ∙ with_first_lem (length ss) l;
      all_are = weight_is ∙ ap (λ j. binomial (length ss) l + binomial (length ss) j) (sym f);
    }

-- what a turn needs of the numbers
pub record Turn (mem : List ℕ) (n from q left weight : ℕ) : Type 0 where
  pub some : 0 < n
  pub product : weight * left ≤ 65536
  pub no_more : weight * left / n ≤ weight
  pub below : from + 3 ≤ q
  pub room : q + 2 ≤ length mem

module _ {finds : List Str} {mem₀ : List ℕ} {k c at : ℕ} {mem : List ℕ} {n from q left rest weight : ℕ}
    (g : Including finds mem₀ k c at mem n from q left rest weight) where
  pub finish : left ≤ 0 → Put mem₀ mem at (strs_of 0 (chosen k finds c)) q
  unfolding chosen
  finish h =
      let none : left ≡ 0 = omega arith in
      subst (λ xs. Put mem₀ mem at xs q) (sym (strs_of-flat_map 0 (chosen k finds c))) (rows_finish g.rows (ap (λ j. chosen j g.todo rest) none))

  module _ (l : ℕ) (e : left ≡ suc l) where
    here : Here g.todo mem n from left weight l
    here = here_of g.todo g.holds g.count g.weight_is (omega (arith, g.in_range)) e

    pub turn : Turn mem n from q left weight
    turn =
        record {
          some = omega (arith, here.count);
          product = mul-le-mul {n₂ = 256} {m₂ = 256} g.few g.small;
          no_more = omega (arith, here.with_is, here.all_are);
          below = omega (arith, g.below, here.count, g.rows.put.next_is);
          room = omega (arith, g.room);
        }

    -- the choice has the next find
    pub take_next : rest < weight * left / n → {mem' : List ℕ} {string : Packed} {q' : ℕ} → string.span ≡ get_or mem (from + 1) 0 → string.tag ≡ get_or mem (from + 1 + 1) 0
        → Put mem mem' q (string.span ∷ string.tag ∷ []) q' → Including finds mem₀ k c at mem' (n - 1) (from + 3) q' l rest (weight * left / n)
    take_next h {mem'} {string} {q'} a b v =
        let s = here.first in
        let ss = here.others in
        let first : string.span ≡ span_of s = a ∙ get_d_head _ here.held.string in
        let second : string.tag ≡ tag_of 0 s = b ∙ get_d_head _ (holds_tail _ here.held.string) in
        let put : Put mem mem' q (include_numbers s) q' = subst (λ xs. Put mem mem' q xs q') (ap₂ (λ x y. x ∷ y ∷ []) first second) v in
        let is : chosen left g.todo rest ≡ s ∷ chosen l ss rest =
        ap₂ (λ j xs. chosen j xs rest) e here.is ∙ chosen_with l s ss rest (omega (arith, here.with_is)) in
        let count : length ss ≡ n - 1 = omega (arith, here.count) in
        record {
          todo = ss;
          holds = holds-below put (omega (arith, length-finds ss, here.count, g.below, g.rows.put.next_is)) here.held.after;
          count = count;
          below = omega (arith, g.below, here.count);
          weight_is = here.with_is ∙ ap (λ j. binomial j l) count;
          in_range = h;
          few = omega (arith, turn.no_more, g.few);
          small = omega (arith, g.small);
          rows = rows_step g.rows is put;
          room = omega (arith, g.room, length-put put, put.next_is);
        }

    -- it goes on without it
    pub skip_next : weight * left / n ≤ rest
        → Including finds mem₀ k c at mem (n - 1) (from + 3) q left (rest - weight * left / n) (weight - weight * left / n)
    skip_next h =
        let s = here.first in
        let ss = here.others in
        let W = weight * left / n in
        let is : chosen left g.todo rest ≡ chosen left ss (rest - W) =
        ap₂ (λ j xs. chosen j xs rest) e here.is ∙ chosen_without l s ss rest (omega (arith, here.with_is))
        ∙ ap₂ (λ j x. chosen j ss (rest - x)) (sym e) (sym here.with_is) in
        let count : length ss ≡ n - 1 = omega (arith, here.count) in
        let weight_is : weight - W ≡ binomial (length ss) left = omega (arith, here.with_is, here.all_are) in
        record {
          todo = ss;
          holds = here.held.after;
          count = count;
          below = omega (arith, g.below, here.count);
          weight_is = weight_is ∙ ap (λ j. binomial j left) count;
          in_range = omega (arith, g.in_range, turn.no_more);
          few = omega (arith, g.few);
          small = g.small;
          rows = subst (λ xs. Rows include_numbers (chosen k finds c) xs mem₀ mem at q) is g.rows;
          room = g.room;
        }
