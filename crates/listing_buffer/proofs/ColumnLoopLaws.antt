-- A loop over the matches of a stream that writes numbers of each, R, to another slice, one after the other: the counts, and a column.
use Prim.Native.Nat.{ℕ, ◌+◌, ◌*◌, ◌≤◌, ◌<◌}
use native.Mathlib.Omega.{arith}
use mathlib.Core.Path.{◌≡◌, sym, ap, ◌∙◌}
use mathlib.Core.List.{List, [], ◌∷◌, map, flat_map}
use lib.ListN.{length, get_or, set}
use lib.Seq.{sets}
use Rattle.model.specs.Limits.{max_strings}
use Rattle.model.specs.Matches.{Match, strings_in, strings}
use Rattle.store.specs.declared.bounds.Bounds.{Bounds}
use Rattle.store.specs.Layout.{BoundsOf, includes_in, excludes_in, match_length}
use Rattle.store.specs.Put.{Put}
use Rattle.store.specs.Stream.{Remaining}
use Rattle.store.proofs.DecodeLaws.{strings-counted}
use Rattle.store.proofs.RowsLaws.{Rows, rows_start, rows_room, rows_step, rows_finish, map-flat_map}
use Rattle.store.proofs.StreamLaws.{Next, next-counted, none-counted}
use Rattle.slices.specs.EverySecond.{every_second}
use Rattle.listing_buffer.specs.Columns.{column_in}
use Rattle.listing_buffer.proofs.ColumnsLaws.{column_held, length_column, length_columns}

-- of the matches of list those in todo are left, at p; the others' numbers are written to b, which was b₀, from at to q
pub record Writing (R : Match → List ℕ) (list : List Match) (mem : List ℕ) (n : ℕ) (b₀ : List ℕ) (at : ℕ) (b : List ℕ) (p q i : ℕ) : Type 0 where
  pub todo : List Match
  pub end : ℕ
  pub left : Remaining todo mem p end
  pub count : i + length todo ≡ n
  pub rows : Rows R list todo b₀ b at q

pub start : {R : Match → List ℕ} {list : List Match} {mem b : List ℕ} {p end n at : ℕ} → Remaining list mem p end → length list ≡ n → Writing R list mem n b at b p at 0
start {list = list} {end = end} l e = record { todo = list; end = end; left = l; count = omega arith; rows = rows_start }

module _ {R : Match → List ℕ} {list : List Match} {mem : List ℕ} {n : ℕ} {b₀ : List ℕ} {at : ℕ} {b : List ℕ} {p q i : ℕ} (g : Writing R list mem n b₀ at b p q i) where
  pub here : i < n → Next g.todo mem p g.end
  here h = next-counted g.left g.count h

  pub step : (h : i < n) {b' : List ℕ} {q' p' : ℕ} → p' ≡ p + match_length (get_or mem p 0) → Put b b' q (R (here h).first) q' → Writing R list mem n b₀ at b' p' q' (i + 1)
  step h {p' = p'} e v =
      let N = here h in
      record { todo = N.rest; end = g.end; left = N.after p' e; count = omega (arith, g.count, N.one_less); rows = rows_step g.rows N.is v }

  pub finish : n ≤ i → b ≡ sets b₀ at (flat_map R list)
  finish h = (rows_finish g.rows (none-counted g.left g.count h)).wrote

-- ---- the counts

abbrev pub count_in : Match → List ℕ
count_in m = strings_in m ∷ []

pub count-start : {list : List Match} {mem b : List ℕ} {p end n : ℕ} (at : ℕ) → Remaining list mem p end → length list ≡ n → Writing count_in list mem n b at b p (at + 0) 0
count-start at l f = let e : at + 0 ≡ at = omega arith in rw e (start l f)

module _ {list : List Match} {mem : List ℕ} {n : ℕ} {b₀ : List ℕ} {at : ℕ} {b : List ℕ} {p i : ℕ} (g : Writing count_in list mem n b₀ at b p (at + i) i) where
  pub count_step : i < n → {k len : ℕ} → k ≡ includes_in (get_or mem p 0) + excludes_in (get_or mem p 0) → len ≡ match_length (get_or mem p 0)
      → Writing count_in list mem n b₀ at (set b (at + i) k) (p + len) (at + (i + 1)) (i + 1)
  count_step h e l = step g h (ap (λ x. p + x) l) (record { wrote = ap (set b (at + i)) (e ∙ strings-counted (here g h).held); next_is = omega arith })

  pub count_finish : n ≤ i → b ≡ sets b₀ at (map strings_in list)
  count_finish h = finish g h ∙ ap (sets b₀ at) (sym (map-flat_map strings_in list))

-- ---- a column

-- the numbers of a match with k strings at p, and room for a number of each from q on
pub record Room (mem b : List ℕ) (p q k : ℕ) : Type 0 where
  pub within : p + (1 + 2 * k) ≤ length mem
  pub room : q + k ≤ length b
  pub few : k ≤ max_strings

module _ (column : ℕ) {list : List Match} {mem : List ℕ} {n : ℕ} {b₀ : List ℕ} {at : ℕ} {b : List ℕ} {p q i : ℕ} (g : Writing (column_in column) list mem n b₀ at b p q i)
    (h : i < n) {k : ℕ} (e : k ≡ includes_in (get_or mem p 0) + excludes_in (get_or mem p 0)) where
  pub column_room : at + strings list ≤ length b₀ → Room mem b p q k
  column_room room =
      let N = here g h in
      omega (
        arith,
        N.held.header,
        strings-counted N.held,
        length_column column N.first,
        rows_room g.rows N.is (omega (arith, length_columns column list)),
      )

  pub column_step : {b' : List ℕ} {bounds : Bounds} → BoundsOf (get_or mem p 0) p bounds → column ≤ 1 → b' ≡ sets b q (every_second mem (bounds.includes + column) k)
      → Writing (column_in column) list mem n b₀ at b' bounds.end (q + k) (i + 1)
  column_step s l f =
      let N = here g h in
      let many : k ≡ strings_in N.first = e ∙ strings-counted N.held in
      step g h s.end (record {
        wrote = f ∙ ap (sets b q) (column_held N.held _ column k s.includes l many);
        next_is = ap (λ j. q + j) (many ∙ sym (length_column column N.first));
      })
