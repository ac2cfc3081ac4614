-- The three passes one after the other make the listing; and a listing put in the buffer leaves the rest of it.
use Prim.Native.Nat.{ℕ, ◌+◌, ◌*◌, ◌≤◌}
use native.Mathlib.Omega.{arith}
use mathlib.Core.Path.{◌≡◌, refl, sym, ap, ap₂, ◌∙◌}
use mathlib.Core.List.{List, [], ◌∷◌, ◌++◌, map, flat_map}
use lib.ListN.{length, drop, set, length-map}
use lib.Seq.{sets, sets-eq}
use Rattle.model.specs.Answers.{spans_in, tags_in, listing_numbers}
use Rattle.model.specs.Limits.{buffer_length}
use Rattle.model.specs.Matches.{Match, strings_in, strings}
use Rattle.model.proofs.AnswersLaws.{length-listing_numbers}
use Rattle.store.specs.Layout.{matches_at, strings_at}
use Rattle.store.specs.Put.{Put}
use Rattle.store.specs.Slot.{SlotHolds}
use Rattle.store.specs.Stream.{StreamAt}
use Rattle.store.proofs.PutLaws.{put-append}
use Rattle.store.proofs.SlotsLaws.{matches_held, strings-held, slot-stream}
use Rattle.listing_buffer.specs.Columns.{column_in, ColumnAt}
use Rattle.listing_buffer.proofs.ColumnsLaws.{length_columns, column_spans, column_tags}

-- what is equal of each element is equal of all
flat_map-same : {A B : Type 0} (f g : A → List B) → ((x : A) → f x ≡ g x) → (xs : List A) → flat_map f xs ≡ flat_map g xs
unfolding flat_map
flat_map-same f g e [] = refl
flat_map-same f g e (x ∷ xs) = ap₂ ◌++◌ (e x) (flat_map-same f g e xs)

-- m and k are the two counts of the slot at src
pub record CountsAre (mem : List ℕ) (src m k : ℕ) : Type 0 where
  pub matches_are : m ≡ matches_at mem src
  pub strings_are : k ≡ strings_at mem src

module _ {mem : List ℕ} {src : ℕ} {list : List Match} (s : SlotHolds mem src list) {m k : ℕ} (c : CountsAre mem src m k) where
  pub counted : m ≡ length list
  counted = c.matches_are ∙ matches_held s

  pub strings-counted : k ≡ strings list
  strings-counted = c.strings_are ∙ strings-held s

  -- what each pass requires
  abbrev pub counts_given : StreamAt mem (src + 2) m
  counts_given = record { list = list; end = _; stream = slot-stream s _ _ refl refl; count = sym counted }

  abbrev pub column_given : {size : ℕ} (at : ℕ) → at ≤ 2 + m + k → buffer_length ≤ size → ColumnAt mem (src + 2) m size at
  column_given at h room = record { list = list; end = _; stream = slot-stream s _ _ refl refl; count = sym counted; room = omega (arith, strings-counted, s.few, s.strs, counted) }

  -- what they write together
  pub listed : (b : List ℕ) {b₁ b₂ b₃ : List ℕ} → b₁ ≡ sets (set (set b 0 m) 1 k) 2 (map strings_in list)
      → b₂ ≡ sets b₁ (2 + m) (flat_map (column_in 0) list)
      → b₃ ≡ sets b₂ (2 + m + k) (flat_map (column_in 1) list)
      → b₃ ≡ sets b 0 (listing_numbers list)
  unfolding listing_numbers
  listed b {b₁} {b₂} {b₃} e₁ e₂ e₃ =
      let spans : flat_map (column_in 0) list ≡ flat_map spans_in list = flat_map-same (column_in 0) spans_in column_spans list in
      let tags : flat_map (column_in 1) list ≡ flat_map tags_in list = flat_map-same (column_in 1) tags_in column_tags list in
      let counts : Put b (set (set b 0 m) 1 k) 0 (length list ∷ strings list ∷ []) 2 =
      record { wrote = ap₂ (λ x y. set (set b 0 x) 1 y) counted strings-counted; next_is = refl } in
      let first : Put (set (set b 0 m) 1 k) b₁ 2 (map strings_in list) (2 + m) =
      record { wrote = e₁; next_is = omega (arith, counted, length-map list strings_in) } in
      let second : Put b₁ b₂ (2 + m) (flat_map spans_in list) (2 + m + k) =
      record { wrote = e₂ ∙ ap (sets b₁ (2 + m)) spans; next_is = omega (arith, strings-counted, ap length spans, length_columns 0 list) } in
      let third : Put b₂ b₃ (2 + m + k) (flat_map tags_in list) (2 + m + k + length (flat_map tags_in list)) =
      record { wrote = e₃ ∙ ap (sets b₂ (2 + m + k)) tags; next_is = refl } in
      (put-append (put-append (put-append counts first) second) third).wrote

-- "The rest of it is unchanged."
pub listing_rest : (ms : List Match) (buffer : List ℕ) → 2 + length ms + 2 * strings ms ≤ length buffer
    → sets buffer 0 (listing_numbers ms) ≡ listing_numbers ms ++ drop (length (listing_numbers ms)) buffer
listing_rest ms buffer h =
    let e : 0 + length (listing_numbers ms) ≡ length (listing_numbers ms) = omega arith in
    sets-eq (listing_numbers ms) buffer 0 (omega (arith, length-listing_numbers ms)) ∙ ap (λ n. listing_numbers ms ++ drop n buffer) e
