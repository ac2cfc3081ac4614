-- What is written of a match that is kept: its includes or their join, after them the excludes that stay, and the header in front.
use Prim.Native.Nat.{ℕ, suc, ◌+◌, ◌-◌, ◌*◌, ◌/◌, ◌≤◌, ◌<◌, min}
use native.Mathlib.Omega.{arith}
use mathlib.Core.Path.{◌≡◌, refl, sym, ap, ap₂, ◌∙◌, subst}
use mathlib.Core.Bool.{Bool, true, false, cond}
use mathlib.Core.List.{List, [], ◌∷◌, flat_map}
use mathlib.Core.Logic.{inl}
use lib.ListN.{length, take, drop, get_or, set, length-take, drop_of_length-le}
use Rattle.model.specs.AllStrings.{AllStrs}
use Rattle.model.specs.Answers.{span_of, tag_of}
use Rattle.model.specs.Limits.{radix}
use Rattle.model.specs.Lists.{Every, keep}
use Rattle.model.specs.Matches.{Str, Match, strings_in}
use Rattle.model.specs.Rules.{Keeping, join, kept_match, kept}
use Rattle.model.proofs.ListsLaws.{length-keep}
use Rattle.model.proofs.RulesLaws.{length-kept, size-kept}
use Rattle.strings.specs.Strings.{str_of, strs_of, strs_at}
use Rattle.strings.proofs.StringsLaws.{length-strs_at}
use Rattle.store.specs.declared.bounds.Bounds.{Bounds}
use Rattle.store.specs.Built.{Small}
use Rattle.store.specs.Each.{OneAt}
use Rattle.store.specs.ValidStr.{ValidStr}
use Rattle.store.specs.Layout.{Holds, BoundsOf, header_between, matches_numbers}
use Rattle.store.specs.Indices.{ClosingMatch}
use Rattle.std.specs.List.{copy_within}
use Rattle.store.specs.Put.{Put}
use Rattle.store.specs.Slot.{SlotHolds}
use Rattle.store.proofs.DecodeLaws.{includes-held, excludes-held, includes_hold, excludes_hold, includes-within, includes-length, str_back}
use Rattle.store.proofs.EachLaws.{flat_map-small}
use Rattle.store.proofs.LayoutLaws.{length-strs_of, strs_of-flat_map, length_match, matches_kept}
use Rattle.store.proofs.MemoryLaws.{part_apart, get_d_head, holds_tail}
use Rattle.store.proofs.PutLaws.{holds-below, length-put, put-none, put_copy, closing_match, closed_match, put-kept, put_dropped}
use Rattle.store.proofs.RowsLaws.{Rows, rows_start, rows_room, rows_step, rows_finish, flat_map-keep}
use Rattle.store.proofs.SlotsLaws.{slot_small}
use Rattle.store.proofs.StreamLaws.{match_below}
use Rattle.filters.specs.Writing.{includes_numbers, excludes_numbers, kept_numbers, strs_in, stay_numbers, RoomAt, PutOf, Join, Exclude}

-- ---- the join

join-numbers : (ss : List Str) → length (strs_of 0 (join ss)) ≡ min (2 * length ss) 2
unfolding join strs_of
join-numbers [] = refl
join-numbers (s ∷ ss) = omega arith

pub put_no_join : (mem : List ℕ) (ss : List Str) (q : ℕ) → join ss ≡ [] → Put mem mem q (strs_of 0 (join ss)) q
unfolding strs_of
put_no_join mem ss q e = rw e (put-none mem q)

-- of a slice with a string there is room for its two numbers
module _ (mem : List ℕ) (b : Bounds) (q : ℕ) (j : Join (length mem) b q) where
  pub join-room : {span tag : ℕ} → strs_of 0 (join (strs_in mem b.includes b.excludes)) ≡ span ∷ tag ∷ [] → q + 2 ≤ length mem
  join-room e =
      let part : List ℕ = take (b.excludes - b.includes) (drop b.includes mem) in
      let few : length part ≤ b.excludes - b.includes = simp length-take (omega arith) in
      omega (arith, j.room, join-numbers (strs_at part), ap length e, length-strs_at part)

-- ---- the includes

module _ (joins : Bool) {mem : List ℕ} {b : Bounds} {q : ℕ} (w : RoomAt (includes_numbers joins) mem b q) where
  -- a filter that gives the join ..
  module _ (j : joins ≡ true) where
    join_kept : includes_numbers joins w.item ≡ strs_of 0 (join w.item.includes)
    join_kept = rw j

    pub join-fits : Join (length mem) b q
    join-fits =
        let room : q + length (strs_of 0 (join w.item.includes)) ≤ length mem = subst (λ xs. q + length xs ≤ length mem) join_kept w.room in
        omega (arith, join-numbers w.item.includes, includes-held w.held, w.bounds, w.held.header)

    pub put-joined : {mem' : List ℕ} {next : ℕ} → Put mem mem' q (strs_of 0 (join (strs_in mem b.includes b.excludes))) next
        → Put mem mem' q (includes_numbers joins w.item) next
    put-joined {mem'} {next} v =
        subst (λ xs. Put mem mem' q xs next) (ap (λ ss. strs_of 0 (join ss)) (includes-within w.held w.bounds) ∙ sym join_kept) v

  -- .. and one that leaves the includes as they are
  module _ (j : joins ≡ false) where
    plain : includes_numbers joins w.item ≡ strs_of 0 w.item.includes
    plain = rw j

    pub copy_fits : q + (b.excludes - b.includes) ≤ length mem
    copy_fits =
        let room : q + length (strs_of 0 w.item.includes) ≤ length mem = subst (λ xs. q + length xs ≤ length mem) plain w.room in
        omega (arith, includes-length w.held w.bounds)

    pub put_plain : {mem' : List ℕ} → mem' ≡ copy_within mem b.includes b.excludes q → Put mem mem' q (includes_numbers joins w.item) (q + (b.excludes - b.includes))
    put_plain {mem'} h =
        let n = includes-length w.held w.bounds in
        subst (λ xs. Put mem mem' q xs (q + (b.excludes - b.includes))) (sym plain)
        (put_copy (omega (arith, n, w.bounds)) (omega (arith, n)) copy_fits (includes_hold w.held b.includes w.bounds.includes) h)

-- ---- the excludes

-- an exclude's numbers, if it stays beside these includes
abbrev stayed : Keeping → List Str → Str → List ℕ
stayed f is e = cond (f.stays is e) (span_of e ∷ tag_of 1 e ∷ []) []

excludes_rows : (f : Keeping) (m : Match) → excludes_numbers f m ≡ flat_map (stayed f m.includes) m.excludes
excludes_rows f m = strs_of-flat_map 1 (keep (f.stays m.includes) m.excludes) ∙ flat_map-keep _ (f.stays m.includes) m.excludes

-- the next of the strings that are left
record Next (todo : List Str) : Type 0 where
  first : Str
  rest : List Str
  is : todo ≡ first ∷ rest

next : (todo : List Str) → 0 < length todo → Next todo
next [] h = absurd (omega arith)
next (x ∷ xs) h = record { first = x; rest = xs; is = refl }

-- the excludes of a match are pairs of numbers
pub excludes-count : {N : Match → List ℕ} {mem : List ℕ} {b : Bounds} {q : ℕ} (w : RoomAt N mem b q) → 2 * ((b.end - b.excludes) / 2) ≡ b.end - b.excludes
excludes-count w = omega (arith, w.bounds)

-- before the exclude at k, of those that end before e: memory was mem₀, and of those before it the ones that stay are written from to on to q
pub record Staying (f : Keeping) (m : Match) (mem₀ : List ℕ) (e to : ℕ) (mem : List ℕ) (k q : ℕ) : Type 0 where
  pub todo : List Str
  pub rows : Rows (stayed f m.includes) m.excludes todo mem₀ mem to q
  pub holds : Holds mem₀ k (strs_of 1 todo)
  pub valid : AllStrs ValidStr todo
  pub end : k + 2 * length todo ≡ e

module _ (f : Keeping) {mem₀ : List ℕ} {b : Bounds} {to : ℕ} (w : RoomAt (excludes_numbers f) mem₀ b to) where
  pub stay_start : {k : ℕ} → k ≡ b.excludes → Staying f w.item mem₀ b.end to mem₀ k to
  stay_start {k} e =
      record {
        todo = w.item.excludes;
        rows = rows_start;
        holds = excludes_hold w.held k (omega (arith, e, w.bounds));
        valid = w.held.valid.excludes;
        end = omega (arith, e, w.bounds, excludes-held w.held);
      }

  module _ {mem : List ℕ} {k q : ℕ} (g : Staying f w.item mem₀ b.end to mem k q) where
    -- the includes are read as they were
    includes_still : strs_in mem b.includes b.excludes ≡ w.item.includes
    includes_still =
        ap (λ l. strs_in l b.includes b.excludes) g.rows.put.wrote
        ∙ ap strs_at (part_apart mem₀ to g.rows.done b.includes (b.excludes - b.includes) (inl (omega (arith, w.bounds, w.below))))
        ∙ includes-within w.held w.bounds

    module _ (h : k < b.end) where
      here : Next g.todo
      here = next g.todo (omega (arith, g.end))

      left : Holds mem₀ k (span_of here.first ∷ tag_of 1 here.first ∷ strs_of 1 here.rest)
      unfolding strs_of
      left = subst (λ ss. Holds mem₀ k (strs_of 1 ss)) here.is g.holds

      valid-left : ValidStr here.first × AllStrs ValidStr here.rest
      unfolding Every
      valid-left = subst (AllStrs ValidStr) here.is g.valid

      length-left : length g.todo ≡ suc (length here.rest)
      length-left = ap length here.is

      -- the exclude in hand, by its two numbers
      numbers : stay_numbers f mem b k ≡ stayed f w.item.includes here.first
      numbers =
          let x : Str = here.first in
          let still = holds-below g.rows.put (omega (arith, g.end, length-left, length-strs_of 1 here.rest, w.bounds, w.below)) left in
          let span : get_or mem k 0 ≡ span_of x = get_d_head _ still in
          let tag : get_or mem (k + 1) 0 ≡ tag_of 1 x = get_d_head _ (holds_tail _ still) in
          ap (λ is. cond (f.stays is (str_of (get_or mem k 0) (get_or mem (k + 1) 0))) (get_or mem k 0 ∷ get_or mem (k + 1) 0 ∷ []) []) includes_still
          ∙ ap₂ (λ a b. cond (f.stays w.item.includes (str_of a b)) (a ∷ b ∷ []) []) span tag
          ∙ ap (λ y. cond (f.stays w.item.includes y) (span_of x ∷ tag_of 1 x ∷ []) []) (str_back 1 x (omega arith) valid-left.0)

      -- it may be tested and put ..
      pub exclude-fits : Exclude (length mem) b k q (length (stay_numbers f mem b k))
      exclude-fits =
          let rows_fit : to + length (flat_map (stayed f w.item.includes) w.item.excludes) ≤ length mem₀ =
          subst (λ xs. to + length xs ≤ length mem₀) (excludes_rows f w.item) w.room in
          let room = subst (λ xs. q + length xs ≤ length mem) (sym numbers) (rows_room g.rows here.is rows_fit) in
          omega (arith, length-put g.rows.put, g.end, length-left, w.bounds, w.held.header)

      -- .. and then the next is in hand
      pub stay_step : {mem' : List ℕ} {k' q' : ℕ} → k' ≡ k + 2 → Put mem mem' q (stay_numbers f mem b k) q'
          → Staying f w.item mem₀ b.end to mem' k' q'
      stay_step {mem'} {k'} {q'} e v =
          let on : k' + 2 * length here.rest ≡ b.end = omega (arith, g.end, length-left) in
          record {
            todo = here.rest;
            rows = rows_step g.rows here.is (subst (λ xs. Put mem mem' q xs q') numbers v);
            holds = subst (λ i. Holds mem₀ i (strs_of 1 here.rest)) (omega (arith, e)) (holds_tail _ (holds_tail _ left));
            valid = valid-left.1;
            end = on;
          }

    pub stay_finish : b.end ≤ k → Put mem₀ mem to (excludes_numbers f w.item) q
    stay_finish h =
        let none_left : g.todo ≡ [] = drop_of_length-le g.todo {i = 0} (omega (arith, g.end)) in
        subst (λ xs. Put mem₀ mem to xs q) (sym (excludes_rows f w.item)) (rows_finish g.rows none_left)

-- ---- a match that is kept

module _ (f : Keeping) {mem : List ℕ} {b : Bounds} {q : ℕ} (w : RoomAt (kept_numbers f) mem b q) where
  room : q + 1 + length (includes_numbers f.joins w.item) + length (excludes_numbers f w.item) ≤ length mem
  room =
      omega (arith, w.room, length_match (kept_match f w.item), length-strs_of 0 (kept_match f w.item).includes, length-strs_of 1 (kept_match f w.item).excludes)

  -- its includes go after the header ..
  pub includes-at : {joins : Bool} → joins ≡ f.joins → RoomAt (includes_numbers joins) mem b (q + 1)
  includes-at j =
      record { item = w.item; at = w.at; held = w.held; bounds = w.bounds; below = omega (arith, w.below); room = rw j (omega (arith, room)) }

  module _ {joins : Bool} (j : joins ≡ f.joins) {mem₁ : List ℕ} {excludes : ℕ} (ls : PutOf (includes_numbers joins) mem mem₁ b (q + 1) excludes) where
    includes-put : Put mem mem₁ (q + 1) (includes_numbers f.joins w.item) excludes
    unfolding includes-at
    includes-put = subst (λ b. Put mem mem₁ (q + 1) (includes_numbers b w.item) excludes) j (ls (includes-at j))

    -- .. its excludes after them ..
    pub excludes-at : RoomAt (excludes_numbers f) mem₁ b excludes
    excludes-at =
        let v = includes-put in
        let held = match_below v (omega (arith, w.below, w.bounds)) w.held in
        record {
          item = w.item;
          at = w.at;
          held = held;
          bounds = omega (arith, w.bounds, includes-held held, includes-held w.held, excludes-held held, excludes-held w.held);
          below = omega (arith, w.below, v.next_is);
          room = omega (arith, room, length-put v, v.next_is);
        }

    module _ {mem₂ : List ℕ} {end : ℕ} (rs : PutOf (excludes_numbers f) mem₁ mem₂ b excludes end) where
      excludes-put : Put mem₁ mem₂ excludes (excludes_numbers f w.item) end
      unfolding excludes-at
      excludes-put = rs excludes-at

      pub kept-ends : ClosingMatch (length mem₂) q excludes end
      kept-ends =
          let few : strings_in (kept_match f w.item) < radix =
          omega (arith, w.held.few, length-kept f w.item, length-keep (f.stays w.item.includes) w.item.excludes) in
          closing_match q (kept_match f w.item) includes-put excludes-put few (omega (arith, room))

      -- .. and the header in front
      pub put_whole : {exit : List ℕ} → exit ≡ set mem₂ q (header_between q excludes end) → Put mem exit q (kept_numbers f w.item) end
      put_whole h = closed_match q (kept_match f w.item) includes-put excludes-put h

-- ---- a match

-- what is made of a list in a slot isn't too long
pub small-kept : (f : Keeping) {mem : List ℕ} {src : ℕ} {list : List Match} → SlotHolds mem src list → Small (flat_map (kept f) list)
small-kept f {list = list} h = flat_map-small (kept f) (size-kept f) list (slot_small h)

module _ (f : Keeping) {mem : List ℕ} {p q : ℕ} (w : OneAt (kept f) mem p q) {b : Bounds} {test : Bool}
    (s : BoundsOf (get_or mem p 0) p b) (t : test ≡ f.keeps (strs_in mem b.includes b.excludes)) where
  -- the test on the includes, as they are read
  tested : f.keeps w.item.includes ≡ test
  tested = sym (t ∙ ap f.keeps (includes-within w.one.held s))

  -- a match that is dropped, and one that is kept
  pub put_nothing : test ≡ false → Put mem mem q (matches_numbers (kept f w.item)) q
  unfolding kept
  put_nothing h = put_dropped (kept_match f w.item) mem q (tested ∙ h)

  module _ (h : test ≡ true) where
    pub kept_at : RoomAt (kept_numbers f) mem b q
    unfolding kept
    kept_at =
        record {
          item = w.item;
          at = p;
          held = w.one.held;
          bounds = s;
          below = omega (arith, w.one.below, s);
          room = subst (λ xs. q + length xs ≤ length mem) (matches_kept (kept_match f w.item) (tested ∙ h)) w.one.room;
        }

    pub put_one : {mem' : List ℕ} {next : ℕ} → PutOf (kept_numbers f) mem mem' b q next → Put mem mem' q (matches_numbers (kept f w.item)) next
    unfolding kept kept_at
    put_one v = put-kept (kept_match f w.item) (tested ∙ h) (v kept_at)
