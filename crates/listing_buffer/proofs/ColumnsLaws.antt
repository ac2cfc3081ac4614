-- Every second number of a match as it lies in memory is a span, or a tag, of each of its strings, the includes' before the excludes'.
use Prim.Native.Nat.{ℕ, zero, suc, ◌+◌, ◌*◌, ◌≤◌}
use native.Mathlib.Omega.{arith}
use mathlib.Core.Path.{◌≡◌, refl, sym, ap, ap₂, ◌∙◌}
use mathlib.Core.List.{List, [], ◌∷◌, ◌++◌, map, flat_map, append-nil}
use lib.ListN.{length, get_or, length-append}
use Rattle.model.specs.Answers.{span_of, tag_of, spans_in, tags_in}
use Rattle.model.specs.Matches.{Str, Match, strings_in, strings}
use Rattle.strings.specs.Strings.{strs_of}
use Rattle.store.specs.Layout.{Holds}
use Rattle.store.specs.Stream.{MatchHolds}
use Rattle.store.proofs.DecodeLaws.{strings_hold}
use Rattle.store.proofs.LayoutLaws.{length-strs_of}
use Rattle.store.proofs.MemoryLaws.{get_d_held}
use Rattle.slices.specs.EverySecond.{every_second}
use Rattle.slices.proofs.EverySecondLaws.{length-every, every-cons}
use Rattle.listing_buffer.specs.Columns.{column_in}

-- ---- every_second

-- what memory holds is read there
every_held : {mem : List ℕ} {p : ℕ} (xs : List ℕ) → Holds mem p xs → (n k : ℕ) → k + 2 * n ≤ length xs + 1 → every_second mem (p + k) n ≡ every_second xs k n
unfolding every_second
every_held xs h zero k l = refl
every_held {mem} {p} xs h (suc n) k l =
    ap₂ ◌∷◌ (get_d_held k (omega arith) h) (ap (λ j. every_second mem j n) (omega arith) ∙ every_held xs h n (k + 2) (omega arith))

-- ---- column_in

-- the column of a match in memory
pub column_held : {mem : List ℕ} {p : ℕ} {m : Match} → MatchHolds mem p m → (a column n : ℕ) → a ≡ p + 1 → column ≤ 1 → n ≡ strings_in m
    → every_second mem (a + column) n ≡ column_in column m
unfolding column_in
column_held {mem} {m = m} h a column n e l f =
    let strs = strs_of 0 m.includes ++ strs_of 1 m.excludes in
    let long : length strs ≡ 2 * strings_in m =
    omega (arith, length-append (strs_of 0 m.includes) (strs_of 1 m.excludes), length-strs_of 0 m.includes, length-strs_of 1 m.excludes) in
    ap (every_second mem (a + column)) f ∙ every_held strs (strings_hold h a e) (strings_in m) column (omega arith)

pub length_column : (column : ℕ) (m : Match) → length (column_in column m) ≡ strings_in m
unfolding column_in
length_column column m = length-every (strs_of 0 m.includes ++ strs_of 1 m.excludes) column (strings_in m)

pub length_columns : (column : ℕ) (ms : List Match) → length (flat_map (column_in column) ms) ≡ strings ms
unfolding flat_map strings
length_columns column [] = refl
length_columns column (m ∷ ms) = length-append (column_in column m) (flat_map (column_in column) ms) ∙ ap₂ ◌+◌ (length_column column m) (length_columns column ms)

-- f is the number at k of each string
module _ (k sort : ℕ) (f : Str → ℕ) (is : (s : Str) (l : List ℕ) → get_or (span_of s ∷ tag_of sort s ∷ l) k 0 ≡ f s) where
  every-strs : (ss : List Str) (rest : List ℕ) (n : ℕ) → every_second (strs_of sort ss ++ rest) k (length ss + n) ≡ map f ss ++ every_second rest k n
  unfolding every_second strs_of
  every-strs [] rest n = let e : 0 + n ≡ n = omega arith in ap (every_second rest k) e
  every-strs (s ∷ ss) rest n =
      let l = strs_of sort ss ++ rest in
      let e : suc (length ss) + n ≡ suc (length ss + n) = omega arith in
      let j : k + 2 ≡ suc (suc k) = omega arith in
      ap (every_second (span_of s ∷ tag_of sort s ∷ l) k) e
      ∙ ap₂ ◌∷◌ (is s l) (ap (λ i. every_second (span_of s ∷ tag_of sort s ∷ l) i (length ss + n)) j ∙ every-cons (span_of s) (tag_of sort s ∷ l) (suc k) (length ss + n)
      ∙ every-cons (tag_of sort s) l k (length ss + n) ∙ every-strs ss rest n)

  every_all : (ss : List Str) → every_second (strs_of sort ss) k (length ss) ≡ map f ss
  unfolding every_second
  every_all ss =
      let e : length ss ≡ length ss + 0 = omega arith in
      ap₂ (λ l n. every_second l k n) (sym (append-nil (strs_of sort ss))) e ∙ every-strs ss [] 0 ∙ append-nil (map f ss)

-- the column k of a match, where f and g are the number at k of each include and of each exclude
column_is : (k : ℕ) (f g : Str → ℕ) → ((s : Str) (l : List ℕ) → get_or (span_of s ∷ tag_of 0 s ∷ l) k 0 ≡ f s)
    → ((s : Str) (l : List ℕ) → get_or (span_of s ∷ tag_of 1 s ∷ l) k 0 ≡ g s) → (m : Match) → column_in k m ≡ map f m.includes ++ map g m.excludes
unfolding column_in
column_is k f g e h m =
    every-strs k 0 f e m.includes (strs_of 1 m.excludes) (length m.excludes) ∙ ap (λ l. map f m.includes ++ l) (every_all k 1 g h m.excludes)

pub column_spans : (m : Match) → column_in 0 m ≡ spans_in m
column_spans m = column_is 0 span_of span_of (λ s l. refl) (λ s l. refl) m

pub column_tags : (m : Match) → column_in 1 m ≡ tags_in m
column_tags m = column_is 1 (tag_of 0) (tag_of 1) (λ s l. refl) (λ s l. refl) m
