-- The loops that put lines: what is put so far, and the strings or matches that are left in the buffer, make the whole.
use Prim.Native.Nat.{ℕ, suc, ◌+◌, ◌-◌, ◌≤◌, ◌<◌}
use native.Mathlib.Omega.{arith}
use mathlib.Core.Path.{◌≡◌, sym, ap, subst, ◌∙◌}
use mathlib.Core.List.{List, [], ◌∷◌, ◌++◌, flat_map}
use lib.ListN.{length, get_or, length-append}
use Rattle.model.specs.Bytes.{bytes}
use Rattle.store.specs.Put.{Put}
use Rattle.store.proofs.PutLaws.{put-append}
use Rattle.store.proofs.RowsLaws.{Rows, rows_start, rows_room, rows_step, rows_finish}
use Rattle.text.specs.Printed.{after_blank, line_of}
use Rattle.text.specs.Decoded.{text_of, texts_at, matches_at, total_at, StringsAt, LinesAt}

-- ---- the strings after the first

module _ (buffer : List ℕ) (s t n : ℕ) where
  -- the string that is next, and none
  texts-next : 0 < n → texts_at buffer s t n ≡ text_of (get_or buffer s 0) (get_or buffer t 0) ∷ texts_at buffer (s + 1) (t + 1) (n - 1)
  unfolding texts_at
  texts-next h = let e : n ≡ suc (n - 1) = omega arith in ap (texts_at buffer s t) e

  texts-none : n ≡ 0 → texts_at buffer s t n ≡ []
  unfolding texts_at
  texts-none e = ap (texts_at buffer s t) e

-- from string i on, of n, those are left whose spans lie from s + i on; the others are put, from at to q
abbrev pub Later : (buffer : List ℕ) (s t n : ℕ) (b₀ : List ℕ) (at : ℕ) (b : List ℕ) (q i : ℕ) → Type 0
Later buffer s t n b₀ at b q i = Rows after_blank (texts_at buffer s t n) (texts_at buffer (s + i) (t + i) (n - i)) b₀ b at q

module _ (buffer : List ℕ) (s t n : ℕ) {b₀ : List ℕ} {at : ℕ} where
  pub later-start : Later buffer s t n b₀ at b₀ at 0
  later-start =
      let i : s + 0 ≡ s = omega arith in
      let j : t + 0 ≡ t = omega arith in
      let k : n - 0 ≡ n = omega arith in
      rw (i, j, k) rows_start

  module _ {b : List ℕ} {q : ℕ} (i : ℕ) (r : Later buffer s t n b₀ at b q i) where
    next_is : i < n → texts_at buffer (s + i) (t + i) (n - i) ≡ text_of (get_or buffer (s + i) 0) (get_or buffer (t + i) 0) ∷ texts_at buffer (s + (i + 1)) (t + (i + 1)) (n - (i + 1))
    next_is h =
        let k : s + i + 1 ≡ s + (i + 1) = omega arith in
        let l : t + i + 1 ≡ t + (i + 1) = omega arith in
        let m : n - i - 1 ≡ n - (i + 1) = omega arith in
        texts-next buffer (s + i) (t + i) (n - i) (omega arith) ∙ rw (k, l, m)

    pub later-room : i < n → at + length (flat_map after_blank (texts_at buffer s t n)) ≤ length b₀
        → q + length (after_blank (text_of (get_or buffer (s + i) 0) (get_or buffer (t + i) 0))) ≤ length b
    later-room h room = rows_room r (next_is h) room

    pub later_step : i < n → {b' : List ℕ} {q' : ℕ} → Put b b' q (after_blank (text_of (get_or buffer (s + i) 0) (get_or buffer (t + i) 0))) q' → Later buffer s t n b₀ at b' q' (i + 1)
    later_step h v = rows_step r (next_is h) v

    pub later_finish : n ≤ i → Put b₀ b at (flat_map after_blank (texts_at buffer s t n)) q
    later_finish h = rows_finish r (texts-none buffer (s + i) (t + i) (n - i) (omega arith))

-- ---- a line

module _ (buffer : List ℕ) (s t n : ℕ) where
  line_none : n ≡ 0 → line_of (texts_at buffer s t n) ≡ bytes ".\n"
  unfolding line_of
  line_none e = ap line_of (texts-none buffer s t n e)

  line_some : 0 < n
      → line_of (texts_at buffer s t n) ≡ text_of (get_or buffer s 0) (get_or buffer t 0) ++ flat_map after_blank (texts_at buffer (s + 1) (t + 1) (n - 1)) ++ bytes "\n"
  unfolding line_of
  line_some h = ap line_of (texts-next buffer s t n h)

  pub length_line_none : n ≡ 0 → length (line_of (texts_at buffer s t n)) ≡ 2
  length_line_none e = ap length (line_none e)

  pub length_line_some : 0 < n
      → length (line_of (texts_at buffer s t n)) ≡ length (text_of (get_or buffer s 0) (get_or buffer t 0)) + length (flat_map after_blank (texts_at buffer (s + 1) (t + 1) (n - 1))) + 1
  length_line_some h = ap length (line_some h) ∙ simp length-append

  pub put_line_none : {a b : List ℕ} {at next : ℕ} → n ≡ 0 → Put a b at (bytes ".\n") next → Put a b at (line_of (texts_at buffer s t n)) next
  put_line_none {a} {b} {at} {next} e v = subst (λ xs. Put a b at xs next) (sym (line_none e)) v

  pub put_line_some : {a b c d : List ℕ} {at later end next : ℕ} → 0 < n → Put a b at (text_of (get_or buffer s 0) (get_or buffer t 0)) later
      → Put b c later (flat_map after_blank (texts_at buffer (s + 1) (t + 1) (n - 1))) end → Put c d end (bytes "\n") next → Put a d at (line_of (texts_at buffer s t n)) next
  put_line_some {a} {d = d} {at} {next = next} h v w x = subst (λ xs. Put a d at xs next) (sym (line_some h)) (put-append (put-append v w) x)

-- ---- the lines

module _ (buffer : List ℕ) (c s t n : ℕ) where
  matches_next : 0 < n
      → matches_at buffer c s t n ≡ texts_at buffer s t (get_or buffer c 0) ∷ matches_at buffer (c + 1) (s + get_or buffer c 0) (t + get_or buffer c 0) (n - 1)
  unfolding matches_at
  matches_next h = let e : n ≡ suc (n - 1) = omega arith in ap (matches_at buffer c s t) e

  matches_none : n ≡ 0 → matches_at buffer c s t n ≡ []
  unfolding matches_at
  matches_none e = ap (matches_at buffer c s t) e

  strings-next : 0 < n → total_at buffer c n ≡ get_or buffer c 0 + total_at buffer (c + 1) (n - 1)
  unfolding total_at
  strings-next h = let e : n ≡ suc (n - 1) = omega arith in ap (total_at buffer c) e

-- from match i on, of n, those are left whose strings' spans lie from span on and tags from tag on; the others' lines are put, from at to q
pub record Lining (buffer : List ℕ) (c s t n : ℕ) (b₀ : List ℕ) (at : ℕ) (b : List ℕ) (span tag q i : ℕ) : Type 0 where
  pub left : LinesAt buffer (c + i) span tag (n - i)
  pub rows : Rows line_of (matches_at buffer c s t n) (matches_at buffer (c + i) span tag (n - i)) b₀ b at q

module _ {buffer : List ℕ} {c s t n : ℕ} {b₀ : List ℕ} {at : ℕ} where
  pub lines_start : LinesAt buffer c s t n → Lining buffer c s t n b₀ at b₀ s t at 0
  lines_start g =
      let i : c + 0 ≡ c = omega arith in
      let k : n - 0 ≡ n = omega arith in
      record { left = rw (i, k) g; rows = rw (i, k) rows_start }

  module _ {b : List ℕ} {span tag q i : ℕ} (g : Lining buffer c s t n b₀ at b span tag q i) where
    module _ (h : i < n) where
      rest_is : matches_at buffer (c + i) span tag (n - i)
          ≡ texts_at buffer span tag (get_or buffer (c + i) 0) ∷ matches_at buffer (c + (i + 1)) (span + get_or buffer (c + i) 0) (tag + get_or buffer (c + i) 0) (n - (i + 1))
      rest_is =
          let k : c + i + 1 ≡ c + (i + 1) = omega arith in
          let m : n - i - 1 ≡ n - (i + 1) = omega arith in
          matches_next buffer (c + i) span tag (n - i) (omega arith) ∙ rw (k, m)

      strings-left : total_at buffer (c + i) (n - i) ≡ get_or buffer (c + i) 0 + total_at buffer (c + (i + 1)) (n - (i + 1))
      strings-left =
          let k : c + i + 1 ≡ c + (i + 1) = omega arith in
          let m : n - i - 1 ≡ n - (i + 1) = omega arith in
          strings-next buffer (c + i) span tag (n - i) (omega arith) ∙ rw (k, m)

      -- its strings lie in the buffer, and there is room for its line
      pub lines_here : StringsAt (length buffer) span tag (get_or buffer (c + i) 0)
      lines_here = omega (arith, g.left, strings-left)

      pub lines_room : at + length (flat_map line_of (matches_at buffer c s t n)) ≤ length b₀ → q + length (line_of (texts_at buffer span tag (get_or buffer (c + i) 0))) ≤ length b
      lines_room room = rows_room g.rows rest_is room

      pub lines_step : {b' : List ℕ} {q' : ℕ} → Put b b' q (line_of (texts_at buffer span tag (get_or buffer (c + i) 0))) q'
          → Lining buffer c s t n b₀ at b' (span + get_or buffer (c + i) 0) (tag + get_or buffer (c + i) 0) q' (i + 1)
      lines_step v = record { left = omega (arith, g.left, strings-left); rows = rows_step g.rows rest_is v }

    pub lines_finish : n ≤ i → Put b₀ b at (flat_map line_of (matches_at buffer c s t n)) q
    lines_finish h = rows_finish g.rows (matches_none buffer (c + i) span tag (n - i) (omega arith))
