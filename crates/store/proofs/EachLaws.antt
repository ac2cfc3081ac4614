-- One law for every rule that goes over a list match by match and writes what it makes of each, F, after what is written: at the end the flat_map of F is
-- written. The walk goes by what is left, and what is written lies above it, so that each match is read as it was.
use Prim.Native.Nat.{ℕ, ◌+◌, ◌≤◌, ◌<◌}
use native.Mathlib.Omega.{arith}
use mathlib.Core.Path.{◌≡◌, refl, sym, ap, ◌∙◌, subst}
use mathlib.Core.Bool.{cond}
use mathlib.Core.List.{List, [], ◌∷◌, flat_map}
use lib.Dec.{ltb}
use lib.ListN.{length, get_or, length-append}
use borrow.Author.Tests.{lt-ltb, le-ltb}
use Rattle.model.specs.Matches.{Match, strings}
use Rattle.model.proofs.RulesLaws.{AtMostOne, strings-append}
use Rattle.store.specs.Built.{Small}
use Rattle.store.specs.Indices.{SlotBelow}
use Rattle.store.specs.Each.{OneAt, Each}
use Rattle.store.specs.Layout.{matches_at, match_length, matches_numbers}
use Rattle.store.specs.Put.{Put, PutMatches}
use Rattle.store.specs.Slot.{SlotHolds}
use Rattle.store.specs.Stream.{Remaining}
use Rattle.store.proofs.LayoutLaws.{matches_flat_map, length_matches}
use Rattle.store.proofs.SlotsLaws.{matches_held, slot-stream}
use Rattle.store.proofs.StreamLaws.{Next, next-counted, none-counted, remaining_below}
use Rattle.store.proofs.RowsLaws.{Rows, rows_start, rows_room, rows_step, rows_finish}

-- ---- the loop

-- a rule begins with a list in a slot below its own, where what it makes of the list is within the limits
pub slot-each : {F : Match → List Match} {mem : List ℕ} {src at : ℕ} {list : List Match} → SlotHolds mem src list → SlotBelow (length mem) src at
    → Small (flat_map F list) → (n : ℕ) → n ≡ matches_at mem src → Each F list mem (src + 2) n (at + 2)
slot-each {F} {src = src} {list = list} s u h n e =
    record {
      end = _;
      stream = slot-stream s (src + 2) _ refl refl;
      count = omega (arith, matches_held s);
      below = omega (arith, s.header, u.below);
      room = omega (arith, length_matches (flat_map F list), u.room);
    }

-- before match number i of n, at p: memory was mem₀, and what F gives of the matches before it is written from at to q
pub record Going (F : Match → List Match) (list : List Match) (mem₀ : List ℕ) (n at : ℕ) (mem : List ℕ) (p q i : ℕ) : Type 0 where
  pub todo : List Match
  pub end : ℕ
  pub left : Remaining todo mem p end
  pub count : i + length todo ≡ n
  pub rows : Rows (λ m. matches_numbers (F m)) list todo mem₀ mem at q
  pub below : end ≤ at
  pub room : at + length (matches_numbers (flat_map F list)) ≤ length mem₀

pub start : {F : Match → List Match} {list : List Match} {mem₀ : List ℕ} {p n at : ℕ} → Each F list mem₀ p n at → Going F list mem₀ n at mem₀ p at 0
start {list = list} e =
    record { todo = list; end = e.end; left = e.stream; count = omega (arith, e.count); rows = rows_start; below = e.below; room = e.room }

module _ {F : Match → List Match} {list : List Match} {mem₀ : List ℕ} {n at : ℕ} {mem : List ℕ} {p q i : ℕ} (g : Going F list mem₀ n at mem p q i) where
  module _ (h : i < n) where
    here : Next g.todo mem p g.end
    here = next-counted g.left g.count h

    -- the match in hand, as the loop's body wants it
    pub item : OneAt F mem p q
    item =
        record {
          item = here.first;
          one = record {
            held = here.held;
            below = omega (arith, here.within, g.below, g.rows.put.next_is);
            room = rows_room g.rows here.is (subst (λ xs. at + length xs ≤ length mem₀) (matches_flat_map F list) g.room);
          };
        }

    pub step : {mem' : List ℕ} {p' q' : ℕ} → Put mem mem' q (matches_numbers (F item.item)) q' → p' ≡ p + match_length (get_or mem p 0)
        → Going F list mem₀ n at mem' p' q' (i + 1)
    unfolding item
    step {p' = p'} v e =
        record {
          todo = here.rest;
          end = g.end;
          left = remaining_below v (omega (arith, g.below, g.rows.put.next_is)) (here.after p' e);
          count = omega (arith, g.count, here.one_less);
          rows = rows_step g.rows here.is v;
          below = g.below;
          room = g.room;
        }

  pub finish : n ≤ i → Put mem₀ mem at (matches_numbers (flat_map F list)) q
  finish h = subst (λ xs. Put mem₀ mem at xs q) (sym (matches_flat_map F list)) (rows_finish g.rows (none-counted g.left g.count h))

-- ---- the loop, with the number of matches written

pub record Counting (F : Match → List Match) (list : List Match) (mem₀ : List ℕ) (n at : ℕ) (mem : List ℕ) (p q i matches : ℕ) : Type 0 where
  pub going : Going F list mem₀ n at mem p q i
  pub count : matches + length (flat_map F going.todo) ≡ length (flat_map F list)

pub count-start : {F : Match → List Match} {list : List Match} {mem₀ : List ℕ} {p n at : ℕ} → Each F list mem₀ p n at → Counting F list mem₀ n at mem₀ p at 0 0
unfolding start
count-start {F} {list} e = let zero : 0 + length (flat_map F list) ≡ length (flat_map F list) = omega arith in record { going = start e; count = zero }

-- of one match at most: whether there is one shows by whether anything is written
one-put : {a b : List ℕ} {q next : ℕ} (ms : List Match) → Put a b q (matches_numbers ms) next → length ms ≤ 1 → length ms ≡ cond (ltb q next) 1 0
unfolding strings
one-put {q = q} {next} [] v h = let e : next ≤ q = omega (arith, v.next_is, length_matches []) in rw (le-ltb q next e)
one-put {q = q} {next} (m ∷ ms) v h = let e : q < next = omega (arith, v.next_is, length_matches (m ∷ ms)) in rw (lt-ltb q next e) (omega arith)

module _ {F : Match → List Match} {list : List Match} {mem₀ : List ℕ} {n at : ℕ} {mem : List ℕ} {p q i matches : ℕ} (c : Counting F list mem₀ n at mem p q i matches) where
  -- no more are written than there will be
  pub count_most : matches ≤ length (flat_map F list)
  count_most = omega (arith, c.count)

  pub count_step : (h : i < n) {mem' : List ℕ} {p' q' matches' : ℕ} → Put mem mem' q (matches_numbers (F (item c.going h).item)) q' → p' ≡ p + match_length (get_or mem p 0)
      → matches' ≡ matches + length (F (item c.going h).item) → Counting F list mem₀ n at mem' p' q' (i + 1) matches'
  unfolding item step flat_map
  count_step h {matches' = matches'} v e m =
      let N = here c.going h in
      let grown : length (flat_map F c.going.todo) ≡ length (F N.first) + length (flat_map F N.rest) =
      ap (λ ms. length (flat_map F ms)) N.is ∙ length-append (F N.first) (flat_map F N.rest) in
      let made : matches' ≡ matches + length (F N.first) = m in
      let so_far : matches' + length (flat_map F N.rest) ≡ length (flat_map F list) = omega (arith, c.count, grown) in
      record { going = step c.going h v e; count = so_far }

  -- .. where one match at most is made of each: anything written is one more
  pub count-one : (h : i < n) {mem' : List ℕ} {p' q' matches' : ℕ} → Put mem mem' q (matches_numbers (F (item c.going h).item)) q' → p' ≡ p + match_length (get_or mem p 0)
      → length (F (item c.going h).item) ≤ 1 → matches' ≡ matches + cond (ltb q q') 1 0 → Counting F list mem₀ n at mem' p' q' (i + 1) matches'
  count-one h v e k f = count_step h v e (f ∙ ap (λ x. matches + x) (sym (one-put (F (item c.going h).item) v k)))

  pub count_finish : n ≤ i → PutMatches mem₀ mem at (flat_map F list) q matches
  unfolding flat_map
  count_finish h =
      let v = finish c.going h in
      let m : length (flat_map F list) ≡ matches = sym c.count ∙ ap (λ ms. matches + length (flat_map F ms)) (none-counted c.going.left c.going.count h) ∙ omega arith in
      record { put = v; count_is = m }

-- ---- what a rule makes of a list that isn't too long

flat_map_fewer : (F : Match → List Match) → ((m : Match) → AtMostOne m (F m)) → (ms : List Match) → (length (flat_map F ms) ≤ length ms) × (strings (flat_map F ms) ≤ strings ms)
unfolding flat_map strings
flat_map_fewer F h [] = omega arith
flat_map_fewer F h (m ∷ ms) =
    let one = h m in
    let rest = flat_map_fewer F h ms in
    omega (arith, length-append (F m) (flat_map F ms), strings-append (F m) (flat_map F ms))

-- one match at most of each, with no more strings: no list that is too long
pub flat_map-small : (F : Match → List Match) → ((m : Match) → AtMostOne m (F m)) → (ms : List Match) → Small ms → Small (flat_map F ms)
flat_map-small F h ms s = let fewer = flat_map_fewer F h ms in omega (arith, s.few, s.strs)
