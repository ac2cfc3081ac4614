-- And, step by step: two copies are one; the includes of two matches and then their excludes, with a header before them, are the joined match; a left
-- match joined with each right one is a row, and the rows of the left matches are the product.
use Prim.Native.Nat.{ℕ, ◌+◌, ◌-◌, ◌*◌, ◌≤◌}
use native.Mathlib.Omega.{arith}
use mathlib.Core.Path.{◌≡◌, refl, sym, ap, ap₂, ◌∙◌, subst}
use mathlib.Core.List.{List, [], ◌∷◌, ◌++◌, map, flat_map}
use lib.ListN.{length, take, drop, get_or, set, length-append, length-drop}
use lib.Seq.{length-take-le}
use Rattle.model.specs.Matches.{Match}
use Rattle.model.specs.Rules.{joined, and_list}
use Rattle.model.proofs.RulesLaws.{strings-joined, length-and, strings-and}
use Rattle.strings.specs.Strings.{strs_of}
use Rattle.store.specs.declared.bounds.Bounds.{Bounds}
use Rattle.std.specs.Prelude.{Ok}
use Rattle.std.specs.List.{copy_within}
use Rattle.store.specs.declared.Size.{Size}
use Rattle.store.specs.Built.{built_of, sized_as}
use Rattle.store.specs.Indices.{ClosingMatch, SlotBelow}
use Rattle.store.specs.Layout.{BoundsOf, Holds, header_between, matches_at, strings_at, match_numbers, matches_numbers, slot_length, slot_size}
use Rattle.store.specs.Put.{Put}
use Rattle.store.specs.Stream.{MatchHolds}
use Rattle.store.proofs.MemoryLaws.{holds-part}
use Rattle.store.proofs.LayoutLaws.{strs_of-append, length-strs_of, length_match, matches_one}
use Rattle.store.proofs.PutLaws.{put_copy, put-append, holds-below, length-put, closing_match, closed_match}
use Rattle.store.proofs.DecodeLaws.{length-held, includes_hold, excludes_hold, includes-length, excludes-length}
use Rattle.store.proofs.StreamLaws.{match_below, remaining_below}
use Rattle.store.proofs.SlotsLaws.{matches_held, strings-held, slot-stream, answer_made}
use Rattle.store.proofs.RowsLaws.{map-flat_map}
use Rattle.store.specs.Each.{Each, OneAt}
use Rattle.store.proofs.EachLaws.{slot-each}
use Rattle.or_and.specs.Joining.{CopyBoth, JoinableAt, Row, RowAt}
use Rattle.store.specs.Slot.{TwoSlots}

-- ---- two copies

-- what lies in memory
length-here : (l : List ℕ) (a n : ℕ) → a + n ≤ length l → length (take n (drop a l)) ≡ n
length-here l a n h = length-take-le n (drop a l) (rw length-drop (omega arith))

holds-here : (l : List ℕ) (a n : ℕ) → a + n ≤ length l → Holds l a (take n (drop a l))
holds-here l a n h = let e = length-here l a n h in record { within = omega arith; part = ap (λ k. take k (drop a l)) e }

-- the second copy is of what lay there before the first
pub copied-both : (E : List ℕ) {E₁ E₂ : List ℕ} {a e b f to : ℕ} → CopyBoth (length E) a e b f to → E₁ ≡ copy_within E a e to
    → E₂ ≡ copy_within E₁ b f (to + (e - a)) → Put E E₂ to (take (e - a) (drop a E) ++ take (f - b) (drop b E)) (to + (e - a) + (f - b))
copied-both E {a = a} {e} {b} {f} {to} h g i =
    let n_is : length (take (e - a) (drop a E)) ≡ e - a = length-here E a (e - a) (omega arith) in
    let k_is : length (take (f - b) (drop b E)) ≡ f - b = length-here E b (f - b) (omega arith) in
    let v : Put E _ to (take (e - a) (drop a E)) (to + (e - a)) = put_copy (omega arith) (omega arith) (omega arith) (holds-here E a (e - a) (omega arith)) g in
    put-append v (put_copy (omega arith) (omega arith) (omega (arith, length-put v)) (holds-below v (omega arith) (holds-here E b (f - b) (omega arith))) i)

-- ---- joined

module _ {mem : List ℕ} {pl pr q : ℕ} (w : JoinableAt mem pl pr q) {L R : Bounds} (l : BoundsOf (get_or mem pl 0) pl L) (r : BoundsOf (get_or mem pr 0) pr R) where
  -- both lie below, with room there for the includes after a header
  pub includes_fit : CopyBoth (length mem) L.includes L.excludes R.includes R.excludes (q + 1)
  includes_fit = omega (arith, l, r, w.pair.below_left, w.pair.below_right, w.pair.room)

  module _ {E₁ : List ℕ} {x : ℕ}
      (v : Put mem E₁ (q + 1) (take (L.excludes - L.includes) (drop L.includes mem) ++ take (R.excludes - R.includes) (drop R.includes mem)) x) where
    includes-put : Put mem E₁ (q + 1) (strs_of 0 (w.left.includes ++ w.right.includes)) x
    includes-put =
        let hl = w.pair.held_left in
        let hr = w.pair.held_right in
        let a = holds-part _ (includes-length hl l) (includes_hold hl L.includes l.includes) in
        let b = holds-part _ (includes-length hr r) (includes_hold hr R.includes r.includes) in
        subst (λ xs. Put mem E₁ (q + 1) xs x) (ap₂ ◌++◌ a b ∙ sym (strs_of-append 0 w.left.includes w.right.includes)) v

    -- the excludes lie below what is written
    pub excludes_fit : CopyBoth (length E₁) L.excludes L.end R.excludes R.end x
    excludes_fit =
        omega (
          arith,
          l,
          r,
          w.pair.below_left,
          w.pair.below_right,
          w.pair.room,
          includes-length w.pair.held_left l,
          includes-length w.pair.held_right r,
          includes-put.next_is,
          length-put v,
          length-strs_of 0 (w.left.includes ++ w.right.includes),
          length-append w.left.includes w.right.includes,
          length-strs_of 0 w.left.includes,
          length-strs_of 0 w.right.includes,
        )

    module _ {E₂ : List ℕ} {e : ℕ} (u : Put E₁ E₂ x (take (L.end - L.excludes) (drop L.excludes E₁) ++ take (R.end - R.excludes) (drop R.excludes E₁)) e) where
      excludes-put : Put E₁ E₂ x (strs_of 1 (w.left.excludes ++ w.right.excludes)) e
      excludes-put =
          let hl = w.pair.held_left in
          let hr = w.pair.held_right in
          let a = holds-part _ (excludes-length hl l) (holds-below v (omega (arith, l, w.pair.below_left, excludes-length hl l)) (excludes_hold hl L.excludes (omega (arith, l)))) in
          let b = holds-part _ (excludes-length hr r) (holds-below v (omega (arith, r, w.pair.below_right, excludes-length hr r)) (excludes_hold hr R.excludes (omega (arith, r)))) in
          subst (λ xs. Put E₁ E₂ x xs e) (ap₂ ◌++◌ a b ∙ sym (strs_of-append 1 w.left.excludes w.right.excludes)) u

      -- a header holds both counts
      pub joined-ends : ClosingMatch (length E₂) q x e
      joined-ends =
          closing_match q (joined w.left w.right) includes-put excludes-put
          (omega (arith, strings-joined w.left w.right, w.pair.held_left.few, w.pair.held_right.few)) (omega (arith, w.pair.room))

      pub put-joined : {exit : List ℕ} → exit ≡ set E₂ q (header_between q x e) → Put mem exit q (match_numbers (joined w.left w.right)) e
      put-joined h = closed_match q (joined w.left w.right) includes-put excludes-put h

-- ---- a row

-- what a left match makes of a right one
abbrev pub joined_one : Match → Match → List Match
joined_one l r = joined l r ∷ []

pub row-each : {left : Match} {rights : List Match} {mem : List ℕ} {pl pr n q : ℕ} → Row left rights mem pl pr n q → Each (joined_one left) rights mem pr n q
row-each {left} {rights} {mem} {q = q} w =
    let room = subst (λ ms. q + length (matches_numbers ms) ≤ length mem) (map-flat_map (joined left) rights) w.room in
    record { end = w.end; stream = w.stream; count = w.count; below = w.below_right; room = room }

module _ {left : Match} {rights : List Match} {mem₀ : List ℕ} {pl pr n at : ℕ} (w : Row left rights mem₀ pl pr n at) where
  module _ {mem : List ℕ} {p q : ℕ} {written : List ℕ} (v : Put mem₀ mem at written q) (o : OneAt (joined_one left) mem p q) where
    -- the two matches in hand: the left one lies below what is written, as it was
    pub row-item : JoinableAt mem pl p q
    row-item =
        let l : MatchHolds mem pl left = match_below v w.below_left w.held in
        let r = o.one.held in
        let long = length_match (joined left o.item) in
        let lengths = ap length (matches_one (joined left o.item)) in
        record {
          left = left;
          right = o.item;
          pair = record {
            held_left = l;
            held_right = r;
            below_left = omega (arith, length-held l, length-held w.held, w.below_left, v.next_is);
            below_right = o.one.below;
            room = omega (arith, o.one.room, lengths, long, strings-joined left o.item, length-held l, length-held r, length_match left, length_match o.item);
          };
        }

    pub row-put : {mem' : List ℕ} {q' : ℕ} → ((x : JoinableAt mem pl p q) → Put mem mem' q (match_numbers (joined x.left x.right)) q')
        → Put mem mem' q (matches_numbers (joined_one left o.item)) q'
    unfolding row-item
    row-put {mem'} {q'} f = subst (λ xs. Put mem mem' q xs q') (sym (matches_one (joined left o.item))) (f row-item)

  pub row_whole : {mem : List ℕ} {q : ℕ} → Put mem₀ mem at (matches_numbers (flat_map (joined_one left) rights)) q → Put mem₀ mem at (matches_numbers (map (joined left) rights)) q
  row_whole {mem} {q} v = subst (λ ms. Put mem₀ mem at (matches_numbers ms) q) (sym (map-flat_map (joined left) rights)) v

-- ---- the product

-- what the right list makes of a left match
abbrev pub row_of : List Match → Match → List Match
row_of rights l = map (joined l) rights

module _ {mem₀ : List ℕ} {l r : ℕ} (w : TwoSlots mem₀ l r) where
  -- its sizes by the headers of the two slots
  pub and-sizes : {m n left right : ℕ} → m ≡ matches_at mem₀ l → n ≡ matches_at mem₀ r → left ≡ strings_at mem₀ l → right ≡ strings_at mem₀ r
      → sized_as (m * n) (n * left + m * right) ≡ built_of (and_list w.lefts w.rights)
  and-sizes a b c d =
      let ml = a ∙ matches_held w.left in
      let mr = b ∙ matches_held w.right in
      ap₂ (λ m s. sized_as m s) (ap₂ ◌*◌ ml mr ∙ sym (length-and w.lefts w.rights))
      (ap₂ ◌+◌ (ap₂ ◌*◌ mr (c ∙ strings-held w.left)) (ap₂ ◌*◌ ml (d ∙ strings-held w.right)) ∙ sym (strings-and w.lefts w.rights))

  pub and-each : {size : Size} {at k : ℕ} → Ok size ≡ built_of (and_list w.lefts w.rights) → SlotBelow (length mem₀) l at → k ≡ matches_at mem₀ l
      → Each (row_of w.rights) w.lefts mem₀ (l + 2) k (at + 2)
  unfolding and_list
  and-each {k = k} e u f = slot-each w.left u (answer_made (and_list w.lefts w.rights) e).small k f

  module _ {n at : ℕ} (below : r + slot_size ≤ at) (e : n ≡ matches_at mem₀ r) {mem : List ℕ} {p q : ℕ} {written : List ℕ} (v : Put mem₀ mem (at + 2) written q)
      (o : OneAt (row_of w.rights) mem p q) where
    -- the left match in hand, and the right list, which lies below what is written
    pub and_item : RowAt mem p (r + 2) n q
    and_item =
        record {
          left = o.item;
          rights = w.rights;
          row = record {
            end = r + slot_length mem₀ r;
            held = o.one.held;
            stream = remaining_below v (omega (arith, w.right.header)) (slot-stream w.right (r + 2) _ refl refl);
            count = omega (arith, matches_held w.right);
            below_left = o.one.below;
            below_right = omega (arith, w.right.header, v.next_is);
            room = o.one.room;
          };
        }

    pub and_put : {mem' : List ℕ} {q' : ℕ} → ((x : RowAt mem p (r + 2) n q) → Put mem mem' q (matches_numbers (map (joined x.left) x.rights)) q')
        → Put mem mem' q (matches_numbers (row_of w.rights o.item)) q'
    unfolding and_item
    and_put f = f and_item

  pub and_whole : {mem : List ℕ} {at q : ℕ} → Put mem₀ mem at (matches_numbers (flat_map (row_of w.rights) w.lefts)) q → Put mem₀ mem at (matches_numbers (and_list w.lefts w.rights)) q
  unfolding and_list
  and_whole v = v
