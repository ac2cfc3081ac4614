-- The strings of one sort of a choice, written by a walk over the list. What is left of the choice's number is a number of a choice from the matches left:
-- its first digit is the string of the next match, and the remainder goes on.
use Prim.Native.Nat.{ℕ, zero, suc, ◌+◌, ◌*◌, ◌/◌, ◌%◌, ◌≤◌, ◌<◌}
use native.Mathlib.Omega.{arith}
use native.Mathlib.Nat.{mul-div_right, mod-lt}
use mathlib.Core.Path.{◌≡◌, refl, sym, ap, ◌∙◌, subst}
use mathlib.Core.List.{List, [], ◌∷◌, ◌++◌, flat_map}
use lib.ListN.{length, get_or}
use Rattle.model.specs.Choices.{choices, turned_strings, choice}
use Rattle.model.specs.Limits.{max_strings}
use Rattle.model.specs.Matches.{Match, strings_in}
use Rattle.model.specs.Rules.{joined, no_strings}
use Rattle.model.proofs.RulesLaws.{weight_some, digit_less}
use Rattle.strings.specs.Strings.{strs_of}
use Rattle.store.specs.declared.bounds.Bounds.{Bounds}
use Rattle.store.specs.Layout.{BoundsOf, includes_in, excludes_in, matches_at}
use Rattle.store.specs.Put.{Put}
use Rattle.store.specs.Stream.{Remaining}
use Rattle.store.proofs.DecodeLaws.{strings-counted}
use Rattle.store.proofs.LayoutLaws.{strs_of-append}
use Rattle.store.proofs.RowsLaws.{Rows, rows_start, rows_room, rows_step, rows_finish}
use Rattle.store.proofs.SlotsLaws.{matches_held, slot-stream}
use Rattle.store.proofs.StreamLaws.{Next, next-counted, none-counted, remaining_below}
use Rattle.negation.specs.Chosen.{TurnAt, SideAt}
use Rattle.negation.specs.Turned.{side_numbers, turned_numbers, chosen}
use Rattle.negation.proofs.TurnedLaws.{turned-held}

-- ---- side_numbers

side-joined : (sort : ℕ) (l r : Match) → side_numbers sort (joined l r) ≡ side_numbers sort l ++ side_numbers sort r
unfolding side_numbers
side-joined zero l r = strs_of-append zero l.includes r.includes
side-joined (suc k) l r = strs_of-append (suc k) l.excludes r.excludes

side-none : (sort : ℕ) → side_numbers sort no_strings ≡ []
unfolding side_numbers strs_of
side-none zero = refl
side-none (suc k) = refl

-- a choice's strings of a sort are those of its strings one by one
pub side-choice : (sort : ℕ) (ms : List Match) (c : ℕ) → side_numbers sort (choice ms c) ≡ flat_map (side_numbers sort) (chosen ms c)
unfolding choice chosen flat_map
side-choice sort [] c = side-none sort
side-choice sort (m ∷ ms) c =
    let x = get_or (turned_strings m) (c / choices ms) no_strings in
    side-joined sort x (choice ms (c % choices ms)) ∙ ap (λ xs. side_numbers sort x ++ xs) (side-choice sort ms (c % choices ms))

-- ---- a digit

-- the first digit of choice number rest of weight choices: one of k strings of the first match, before w choices from the others
record Digit (k w rest weight : ℕ) : Type 0 where
  some : 0 < k
  next_is : weight / k ≡ w
  weighs : 0 < w
  less : rest / w < k

digit_of : (k w rest weight : ℕ) → weight ≡ k * w → rest < weight → Digit k w rest weight
digit_of zero w rest weight e h = absurd (omega arith)
digit_of (suc k) w rest weight e h =
    let inside : rest < suc k * w = rw (← e) h in
    let pos : 0 < suc k = omega arith in
    record {
      some = pos;
      next_is = ap (λ x. x / suc k) e ∙ mul-div_right w pos;
      weighs = weight_some (suc k) w rest inside;
      less = digit_less (suc k) w rest inside;
    }

-- ---- the loop

-- before match number i of n, at p: left to write are the strings of choice number rest from the matches left, of which there are weight choices
pub record Going (list : List Match) (mem₀ : List ℕ) (n c sort at : ℕ) (mem : List ℕ) (p q rest weight i : ℕ) : Type 0 where
  pub todo : List Match
  pub end : ℕ
  pub left : Remaining todo mem p end
  pub count : i + length todo ≡ n
  pub rows : Rows (side_numbers sort) (chosen list c) (chosen todo rest) mem₀ mem at q
  pub weight_is : weight ≡ choices todo
  pub in_range : rest < weight
  pub below : end ≤ at
  pub room : at + length (flat_map (side_numbers sort) (chosen list c)) ≤ length mem₀
  pub sort_is : sort ≤ 1

pub start : {mem : List ℕ} {src total c sort at : ℕ} (w : SideAt mem src total c sort at) {n : ℕ} → n ≡ matches_at mem src
    → Going w.list mem n c sort at mem (src + 2) at c total 0
start {mem} {c = c} {sort} {at} w e =
    let s = w.source.slot in
    record {
      todo = w.list;
      end = _;
      left = slot-stream s _ _ refl refl;
      count = omega (arith, matches_held s);
      rows = rows_start;
      weight_is = w.source.total_is;
      in_range = w.in_range;
      below = omega (arith, s.header, w.source.below);
      room = subst (λ xs. at + length xs ≤ length mem) (side-choice sort w.list c) w.room;
      sort_is = w.sort_is;
    }

-- what a turn needs of the numbers, where the match in hand has k strings, from a on
pub record Turn (mem : List ℕ) (sort a q rest weight k : ℕ) : Type 0 where
  pub few : k ≤ max_strings
  pub some : 0 < k
  pub weighs : 0 < weight / k
  pub digit : rest / (weight / k) < k
  pub turnable : TurnAt mem (a + 2 * (rest / (weight / k))) sort q

module _ {list : List Match} {mem₀ : List ℕ} {n c sort at : ℕ} {mem : List ℕ} {p q rest weight i : ℕ} (g : Going list mem₀ n c sort at mem p q rest weight i) where
  pub finish : n ≤ i → Put mem₀ mem at (side_numbers sort (choice list c)) q
  unfolding chosen
  finish h =
      subst (λ xs. Put mem₀ mem at xs q) (sym (side-choice sort list c)) (rows_finish g.rows (ap (λ ms. chosen ms rest) (none-counted g.left g.count h)))

  module _ (h : i < n) where
    pub here : Next g.todo mem p g.end
    here = next-counted g.left g.count h

    module _ {b : Bounds} (s : BoundsOf (get_or mem p 0) p b) {k : ℕ} (e : k ≡ includes_in (get_or mem p 0) + excludes_in (get_or mem p 0)) where
      k_is : k ≡ strings_in here.first
      k_is = e ∙ strings-counted here.held

      d : Digit k (choices here.rest) rest weight
      unfolding choices
      d = digit_of k (choices here.rest) rest weight (g.weight_is ∙ ap choices here.is ∙ ap (λ x. x * choices here.rest) (sym k_is)) g.in_range

      x : Match
      x = get_or (turned_strings here.first) (rest / (weight / k)) no_strings

      in_match : rest / (weight / k) < k
      in_match = rw d.next_is d.less

      turned : turned_numbers sort (get_or mem (b.includes + 2 * (rest / (weight / k))) 0) (get_or mem (b.includes + 2 * (rest / (weight / k)) + 1) 0) ≡ side_numbers sort x
      unfolding x
      turned = turned-held sort g.sort_is b.includes (rest / (weight / k)) s.includes here.held (omega (arith, in_match, k_is))

      split : chosen g.todo rest ≡ x ∷ chosen here.rest (rest % (weight / k))
      unfolding chosen x
      split =
          ap (λ ms. chosen ms rest) here.is
          ∙ ap (λ w. get_or (turned_strings here.first) (rest / w) no_strings ∷ chosen here.rest (rest % w)) (sym d.next_is)

      pub turn : Turn mem sort b.includes q rest weight k
      turn =
          record {
            few = omega (arith, k_is, here.held.few);
            some = d.some;
            weighs = rw d.next_is d.weighs;
            digit = in_match;
            turnable = record {
              sort_is = g.sort_is;
              reads = omega (arith, in_match, here.held.header, s);
              room = subst (λ xs. q + length xs ≤ length mem) (sym turned) (rows_room g.rows split g.room);
            };
          }

      pub step : {mem' : List ℕ} {q' : ℕ}
          → Put mem mem' q (turned_numbers sort (get_or mem (b.includes + 2 * (rest / (weight / k))) 0) (get_or mem (b.includes + 2 * (rest / (weight / k)) + 1) 0)) q'
          → Going list mem₀ n c sort at mem' b.end q' (rest % (weight / k)) (weight / k) (i + 1)
      step {mem'} {q'} v =
          record {
            todo = here.rest;
            end = g.end;
            left = remaining_below v (omega (arith, g.below, g.rows.put.next_is)) (here.after b.end s.end);
            count = omega (arith, g.count, here.one_less);
            rows = rows_step g.rows split (subst (λ xs. Put mem mem' q xs q') turned v);
            weight_is = d.next_is;
            in_range = mod-lt rest turn.weighs;
            below = g.below;
            room = g.room;
            sort_is = g.sort_is;
          }
