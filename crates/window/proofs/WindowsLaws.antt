-- The windows of a match, written one by one: each is the join and the excludes inside it, with its header in front, and has one string more than those excludes.
use Prim.Native.Nat.{ℕ, ◌+◌, ◌-◌, ◌*◌, ◌/◌, ◌%◌, ◌≤◌, ◌<◌}
use native.Mathlib.Omega.{arith}
use mathlib.Core.Path.{◌≡◌, sym, ap, ap₂, ◌∙◌, subst}
use mathlib.Core.List.{List, [], ◌∷◌, flat_map, map}
use lib.ListN.{length, get_or, set}
use Rattle.model.specs.Limits.{max_strings, radix}
use Rattle.model.specs.Lists.{keep, from_to}
use Rattle.model.specs.Matches.{Match, Str, strings_in}
use Rattle.model.specs.Rules.{inside_window, join, window, window_ends, window_to}
use Rattle.model.proofs.ListsLaws.{length-keep, range_cons, range_empty}
use Rattle.strings.specs.Strings.{strs_of}
use Rattle.strings.specs.declared.packed.Packed.{Packed}
use Rattle.store.specs.declared.bounds.Bounds.{Bounds}
use Rattle.store.specs.Each.{OneAt}
use Rattle.store.specs.Layout.{BoundsOf, header_between, match_numbers, matches_numbers}
use Rattle.store.specs.Indices.{ClosingMatch}
use Rattle.store.specs.Put.{Put}
use Rattle.store.proofs.DecodeLaws.{excludes-held, excludes_hold}
use Rattle.store.proofs.LayoutLaws.{length_match, length-strs_of, matches_map, matches_none}
use Rattle.store.proofs.PutLaws.{closed_match, closing_match, holds-below, length-put, put-none}
use Rattle.store.proofs.RowsLaws.{Rows, rows_start, rows_room, rows_step, rows_finish}
use Rattle.window.specs.Inside.{ExcludesAt, WindowSize}
use Rattle.window.specs.Windows.{JoinIs, Source, WindowAt, WindowsAt}

-- ---- window_to

-- a window has one string more than the excludes inside it
module _ {n : ℕ} {m : Match} {mem : List ℕ} {x e q span tag : ℕ} (s : Source n m mem x e q span tag) (last : ℕ) where
  length-window_to : length (match_numbers (window_to n m last)) ≡ 3 + 2 * length (keep (inside_window n last) m.excludes)
  length-window_to = omega (arith, length_match (window_to n m last), ap length s.joins, length-strs_of 0 (join m.includes))

  few-window : length (keep (inside_window n last) m.excludes) ≤ max_strings
  few-window = omega (arith, length-keep (inside_window n last) m.excludes, s.few)

module _ {n last : ℕ} {mem : List ℕ} {x e q span tag : ℕ} (w : WindowAt n last mem x e q span tag) where
  -- room for its join
  pub join-room : q + 1 + 2 ≤ length mem
  join-room = omega (arith, w.room, length-window_to w.source last)

  module _ {mem₁ : List ℕ} {excludes : ℕ} (v : Put mem mem₁ (q + 1) (span ∷ tag ∷ []) excludes) where
    -- its match's excludes, and room after its join for those inside
    pub excludes-at : ExcludesAt n last mem₁ x e excludes
    excludes-at =
        let s = w.source in
        record {
          list = w.item.excludes;
          size = s.size;
          holds = holds-below v (omega (arith, s.below, s.end_is, length-strs_of 1 w.item.excludes)) s.holds;
          valid = s.valid;
          end_is = s.end_is;
          below = omega (arith, s.below, v.next_is);
          room = omega (arith, w.room, length-window_to s last, v.next_is, length-put v);
        }

    join-put : Put mem mem₁ (q + 1) (strs_of 0 (join w.item.includes)) excludes
    join-put = subst (λ xs. Put mem mem₁ (q + 1) xs excludes) (sym w.source.joins) v

    module _ {mem₂ : List ℕ} {end : ℕ} (u : Put mem₁ mem₂ excludes (strs_of 1 (keep (inside_window n last) excludes-at.list)) end) where
      excludes-put : Put mem₁ mem₂ excludes (strs_of 1 (keep (inside_window n last) w.item.excludes)) end
      unfolding excludes-at
      excludes-put = u

      pub window_ends_lem : ClosingMatch (length mem₂) q excludes end
      window_ends_lem =
          let few : strings_in (window_to n w.item last) < radix =
          omega (arith, few-window w.source last, ap length w.source.joins, length-strs_of 0 (join w.item.includes)) in
          closing_match q (window_to n w.item last) join-put excludes-put few (omega (arith, join-room))

      pub window-put : {exit : List ℕ} → exit ≡ set mem₂ q (header_between q excludes end) → Put mem exit q (match_numbers (window_to n w.item last)) end
      window-put h = closed_match q (window_to n w.item last) join-put excludes-put h

-- ---- the windows of one match

-- the numbers of a window, by its last position
abbrev row_of : ℕ → Match → ℕ → List ℕ
row_of n m last = match_numbers (window_to n m last)

numbers-window : (n : ℕ) (m : Match) → matches_numbers (window n m) ≡ flat_map (row_of n m) (window_ends n m.includes)
unfolding window
numbers-window n m = matches_map (window_to n m) (window_ends n m.includes)

-- before the window up to `last`, of those to before end: those before it are written from q to next
pub record EachSoFar (n : ℕ) (m : Match) (mem₀ : List ℕ) (end q : ℕ) (mem : List ℕ) (last next : ℕ) : Type 0 where
  pub rows : Rows (row_of n m) (window_ends n m.includes) (from_to last (end - 1)) mem₀ mem q next

module _ {n : ℕ} {mem₀ : List ℕ} {x e q span tag : ℕ} (w : WindowsAt n mem₀ x e q span tag) where
  pub each_start : {last end : ℕ} → last ≡ span % radix → end ≡ span / radix + n → EachSoFar n w.item mem₀ end q mem₀ last q
  each_start f g =
      let todo = w.ends ∙ ap₂ (λ a b. from_to a (b - 1)) (sym f) (sym g) in
      record { rows = subst (λ ends. Rows (row_of n w.item) (window_ends n w.item.includes) ends mem₀ mem₀ q q) todo rows_start }

  module _ {last end : ℕ} {mem : List ℕ} {next : ℕ} (g : EachSoFar n w.item mem₀ end q mem last next) where
    source_now : Source n w.item mem x e next span tag
    source_now =
        let s = w.source in
        let under : x + length (strs_of 1 w.item.excludes) ≤ q = omega (arith, s.end_is, s.below, length-strs_of 1 w.item.excludes) in
        record {
          size = s.size;
          holds = holds-below g.rows.put under s.holds;
          valid = s.valid;
          few = s.few;
          end_is = s.end_is;
          below = omega (arith, s.below, g.rows.put.next_is);
          joins = s.joins;
        }

    module _ (h : last < end) where
      ends-cons : from_to last (end - 1) ≡ last ∷ from_to (last + 1) (end - 1)
      ends-cons = range_cons last (end - 1) (omega arith)

      -- the window in hand
      pub each-window : WindowAt n last mem x e next span tag
      each-window =
          let room = subst (λ xs. q + length xs ≤ length mem₀) (numbers-window n w.item) w.room in
          record { item = w.item; source = source_now; room = rows_room g.rows ends-cons room }

      pub each_next : {mem' : List ℕ} {next' : ℕ} → Put mem mem' next (match_numbers (window_to n each-window.item last)) next'
          → EachSoFar n w.item mem₀ end q mem' (last + 1) next'
      unfolding each-window
      each_next v = record { rows = rows_step g.rows ends-cons v }

    pub each-end : 1 ≤ end → end ≤ last → Put mem₀ mem q (matches_numbers (window n w.item)) next
    each-end k h =
        subst (λ xs. Put mem₀ mem q xs next) (sym (numbers-window n w.item)) (rows_finish g.rows (range_empty last (end - 1) (omega arith)))

-- ---- a match with or without windows

module _ (n : ℕ) {mem : List ℕ} {p q : ℕ} (w : OneAt (window n) mem p q) {b : Bounds} (e : BoundsOf (get_or mem p 0) p b) {ss : List Str} (same : ss ≡ w.item.includes) where
  pub dropped : window_ends n ss ≡ [] → Put mem mem q (matches_numbers (window n w.item)) q
  unfolding window
  dropped z =
      let none : window n w.item ≡ [] = ap (map (window_to n w.item)) (ap (window_ends n) (sym same) ∙ z) in
      subst (λ xs. Put mem mem q xs q) (sym (ap matches_numbers none ∙ matches_none)) (put-none mem q)

  module _ (size : WindowSize n) {s : Packed} (j : JoinIs n ss s) where
    pub windows_at : WindowsAt n mem b.excludes b.end q s.span s.tag
    windows_at =
        let held = w.one.held in
        record {
          item = w.item;
          source = record {
            size = size;
            holds = excludes_hold held b.excludes (omega (arith, e));
            valid = held.valid.excludes;
            few = omega (arith, held.few);
            end_is = omega (arith, excludes-held held, e);
            below = omega (arith, w.one.below, e);
            joins = ap (λ l. strs_of 0 (join l)) (sym same) ∙ j.joins;
          };
          ends = ap (window_ends n) (sym same) ∙ j.ends;
          room = w.one.room;
        }

    pub windows_put : {exit : List ℕ} {next : ℕ} → Put mem exit q (matches_numbers (window n windows_at.item)) next
        → Put mem exit q (matches_numbers (window n w.item)) next
    unfolding windows_at
    windows_put v = v
