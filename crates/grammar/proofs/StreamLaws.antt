-- Laws of the stream of tokens: what its first token is, by how far the text's bytes run.
use Prim.Native.Nat.{ℕ, zero, suc, ◌+◌, ◌*◌, ◌-◌, ◌≤◌, ◌<◌, min}
use native.Mathlib.Numerals.{add-one}
use native.Mathlib.Omega.{arith}
use mathlib.Core.Path.{◌≡◌, refl, sym, ap, ◌∙◌}
use mathlib.Core.Bool.{Bool, true, false, ◌&&◌, cond}
use mathlib.Core.List.{List, [], ◌∷◌}
use borrow.Author.Tests.{eq-eqb, ne_eqb, eqb-true, eqb-false, le-leb, lt-leb}
use lib.Dec.{eqb, leb}
use lib.ListN.{length, take, drop, get_or}
use lib.Seq.{drop-cons, drop-drop, drop-length}
use Rattle.model.specs.Tokens.{Token, blank, digit, letter, number_from}
use Rattle.grammar.specs.Stream.{Stream, ends, token, sort_of, makes_runs, alone, longer, before, pieces_from, without_blanks, run_length, stream_at}
use Rattle.grammar.specs.Symbols.{same_bytes}

drop_all : (i : ℕ) (l : List ℕ) → length l ≤ i → drop i l ≡ []
drop_all zero [] h = refl
drop_all (suc i) [] h = refl
drop_all zero (x ∷ xs) h = absurd (omega arith)
drop_all (suc i) (x ∷ xs) h = drop_all i xs (omega arith)

-- ---- sorts

pub sort_byte : (b : ℕ) → b < 256 → sort_of b < 256
unfolding sort_of
sort_byte b h = at (leb 97 b && leb b 122) (leb 48 b && leb b 57) where
  at : (x y : Bool) → cond x letter (cond y digit b) < 256
  at true y = omega arith
  at false true = omega arith
  at false false = h

-- by tests in the order of the bytes
module _ (b : ℕ) where
  pub sort-low : b < 48 → sort_of b ≡ b
  unfolding sort_of
  sort-low h = let a : b < 97 = omega arith in rw (lt-leb 97 b a, lt-leb 48 b h)

  pub sort-digit : 48 ≤ b → b ≤ 57 → sort_of b ≡ digit
  unfolding sort_of
  sort-digit h k = let a : b < 97 = omega arith in rw (lt-leb 97 b a, le-leb 48 b h, le-leb b 57 k)

  pub sort_middle : 57 < b → b < 97 → sort_of b ≡ b
  unfolding sort_of
  sort_middle h k = let a : 48 ≤ b = omega arith in rw (lt-leb 97 b k, le-leb 48 b a, lt-leb b 57 h)

  pub sort-letter : 97 ≤ b → b ≤ 122 → sort_of b ≡ letter
  unfolding sort_of
  sort-letter h k = rw (le-leb 97 b h, le-leb b 122 k)

  pub sort-high : 122 < b → sort_of b ≡ b
  unfolding sort_of
  sort-high h =
      let a : 97 ≤ b = omega arith in
      let d : 48 ≤ b = omega arith in
      let e : 57 < b = omega arith in
      rw (le-leb 97 b a, lt-leb b 122 h, le-leb 48 b d, lt-leb b 57 e)

pub no_runs : (s : ℕ) → ¬ (s ≡ letter) → ¬ (s ≡ digit) → makes_runs s ≡ false
unfolding makes_runs
no_runs s h k = rw (ne_eqb s letter h, ne_eqb s digit k)

pub runs_letter : makes_runs letter ≡ true
unfolding makes_runs
runs_letter = refl

pub runs_digit : makes_runs digit ≡ true
unfolding makes_runs
runs_digit = refl

-- ---- before

-- a stream's first token is of a sort
abbrev pub StartsWith : ℕ → Stream → Type 0
StartsWith s (ends p) = ⊥
StartsWith s (token t ts) = s ≡ t.sort

pub starts-same : (r s : ℕ) (ts : Stream) → StartsWith r ts → StartsWith s ts → r ≡ s
starts-same r s (ends p) h k = absurd h
starts-same r s (token t ts) h k = h ∙ sym k

pub before-alone : (b p : ℕ) (ts : Stream) → makes_runs (sort_of b) ≡ false → before b p ts ≡ token (alone b p) ts
unfolding before
before-alone b p (ends q) h = refl
before-alone b p (token t ts) h = rw h

pub before-other : (b p : ℕ) (ts : Stream) → ¬ StartsWith (sort_of b) ts → before b p ts ≡ token (alone b p) ts
unfolding before
before-other b p (ends q) h = refl
before-other b p (token t ts) h = rw (ne_eqb (sort_of b) t.sort h) (at (makes_runs (sort_of b))) where
  at : (x : Bool) → cond (x && false) (token (longer b p t) ts) (token (alone b p) (token t ts)) ≡ token (alone b p) (token t ts)
  at true = refl
  at false = refl

pub before-sort : (b p : ℕ) (ts : Stream) → StartsWith (sort_of b) (before b p ts)
unfolding before
before-sort b p (ends q) = refl
before-sort b p (token t ts) = at (makes_runs (sort_of b) && eqb (sort_of b) t.sort) where
  at : (x : Bool) → StartsWith (sort_of b) (cond x (token (longer b p t) ts) (token (alone b p) (token t ts)))
  at true = refl
  at false = refl

pub before-longer : (b p : ℕ) (t : Token) (ts : Stream) → makes_runs (sort_of b) ≡ true → sort_of b ≡ t.sort
    → before b p (token t ts) ≡ token (longer b p t) ts
unfolding before
before-longer b p t ts h e = rw (h, eq-eqb (sort_of b) t.sort e)

-- ---- pieces

-- a run: s is the sort of letters or of digits
module _ (s : ℕ) (runs : makes_runs s ≡ true) where
  abbrev Run : ℕ → ℕ → List ℕ → ℕ → Stream
  Run p b bs k = token (record { sort = s; place = p; bytes = b ∷ take k bs }) (pieces_from (suc p + k) (drop k bs))

  pub pieces_run : (p b : ℕ) (bs : List ℕ) → sort_of b ≡ s
      → pieces_from p (b ∷ bs)
      ≡ token (record { sort = s; place = p; bytes = b ∷ take (run_length s bs) bs }) (pieces_from (suc p + run_length s bs) (drop (run_length s bs) bs))
  unfolding pieces_from run_length
  pieces_run p b [] e =
      before-other b p (ends (suc p)) (λ q. q) ∙ rw e (ap (λ k. token (record { sort = s; place = p; bytes = b ∷ [] }) (ends k)) (omega arith))
  pieces_run p b (d ∷ ds) e = at (eqb (sort_of d) s) refl (λ q. pieces_run (suc p) d ds q) where
    at : (x : Bool) → eqb (sort_of d) s ≡ x → (sort_of d ≡ s → pieces_from (suc p) (d ∷ ds) ≡ Run (suc p) d ds (run_length s ds))
        → before b p (pieces_from (suc p) (d ∷ ds)) ≡ Run p b (d ∷ ds) (cond x (suc (run_length s ds)) 0)
    at true h later =
        let n = run_length s ds in
        let one : before b p (pieces_from (suc p) (d ∷ ds)) ≡ before b p (Run (suc p) d ds n) = ap (before b p) (later (eqb-true (sort_of d) s h)) in
        let k : suc (suc p) + n ≡ suc p + suc n = omega arith in
        one ∙ before-longer b p _ _ (ap makes_runs e ∙ runs) e
        ∙ ap (λ r. token (record { sort = r; place = p; bytes = b ∷ d ∷ take n ds }) (pieces_from (suc (suc p) + n) (drop n ds))) e
        ∙ ap (λ r. token (record { sort = s; place = p; bytes = b ∷ d ∷ take n ds }) (pieces_from r (drop n ds))) k
    at false h later =
        let k : suc p ≡ suc p + 0 = omega arith in
        let next = pieces_from (suc p) (d ∷ ds) in
        before-other b p next (λ q. eqb-false (sort_of d) s h (starts-same (sort_of d) (sort_of b) next (before-sort d (suc p) _) q ∙ e))
        ∙ ap (λ r. token (record { sort = r; place = p; bytes = b ∷ [] }) (pieces_from (suc p) (d ∷ ds))) e
        ∙ ap (λ r. token (record { sort = s; place = p; bytes = b ∷ [] }) (pieces_from r (d ∷ ds))) k

-- blanks
pub pieces_blanks : (p : ℕ) (bs : List ℕ)
    → without_blanks (pieces_from p bs) ≡ without_blanks (pieces_from (p + run_length blank bs) (drop (run_length blank bs) bs))
unfolding pieces_from run_length without_blanks makes_runs
pieces_blanks p [] = ap (λ k. without_blanks (ends k)) (omega arith)
pieces_blanks p (b ∷ bs) = at (eqb (sort_of b) blank) refl (pieces_blanks (suc p) bs) where
  n : ℕ
  n = run_length blank bs

  at : (x : Bool) → eqb (sort_of b) blank ≡ x → without_blanks (pieces_from (suc p) bs) ≡ without_blanks (pieces_from (suc p + n) (drop n bs))
      → without_blanks (before b p (pieces_from (suc p) bs)) ≡ without_blanks (pieces_from (p + cond x (suc n) 0) (drop (cond x (suc n) 0) (b ∷ bs)))
  at true h later =
      let e : sort_of b ≡ blank = eqb-true (sort_of b) blank h in
      let k : suc p + n ≡ p + suc n = omega arith in
      let r : makes_runs (sort_of b) ≡ false = ap makes_runs e in
      ap without_blanks (before-alone b p (pieces_from (suc p) bs) r) ∙ rw h later ∙ ap (λ m. without_blanks (pieces_from m (drop n bs))) k
  at false h later = ap (λ m. without_blanks (pieces_from m (b ∷ bs))) (omega arith)

-- ---- runs

pub length_run : (s : ℕ) (bs : List ℕ) → run_length s bs ≤ length bs
unfolding run_length
length_run s [] = omega arith
length_run s (b ∷ bs) = at (eqb (sort_of b) s) (length_run s bs) where
  at : (x : Bool) → run_length s bs ≤ length bs → cond x (suc (run_length s bs)) 0 ≤ suc (length bs)
  at true h = omega arith
  at false h = omega arith

pub run_stops : (s : ℕ) (bs : List ℕ) → run_length s bs < length bs → ¬ (sort_of (get_or bs (run_length s bs) 0) ≡ s)
unfolding run_length
run_stops s [] h e = omega arith
run_stops s (b ∷ bs) h e = at (eqb (sort_of b) s) refl (run_stops s bs) h e where
  at : (x : Bool) → eqb (sort_of b) s ≡ x → (run_length s bs < length bs → ¬ (sort_of (get_or bs (run_length s bs) 0) ≡ s))
      → cond x (suc (run_length s bs)) 0 < suc (length bs) → ¬ (sort_of (get_or (b ∷ bs) (cond x (suc (run_length s bs)) 0) 0) ≡ s)
  at true q later h e = later (omega arith) e
  at false q later h e = eqb-false (sort_of b) s q e

-- one byte more, or none
module _ (s : ℕ) (text : List ℕ) (i : ℕ) (within : i < length text) where
  pub run_more : sort_of (get_or text i 0) ≡ s → run_length s (drop i text) ≡ suc (run_length s (drop (suc i) text))
  unfolding run_length
  run_more e = rw (drop-cons text i 0 within, eq-eqb (sort_of (get_or text i 0)) s e)

  pub run_none : ¬ (sort_of (get_or text i 0) ≡ s) → run_length s (drop i text) ≡ 0
  unfolding run_length
  run_none e = rw (drop-cons text i 0 within, ne_eqb (sort_of (get_or text i 0)) s e)

-- ---- the first token of a text

pub at_blanks : (text : List ℕ) (at : ℕ) → stream_at text at ≡ stream_at text (at + run_length blank (drop at text))
unfolding stream_at
at_blanks text at =
    let k = run_length blank (drop at text) in
    pieces_blanks (suc at) (drop at text)
    ∙ ap (λ l. without_blanks (pieces_from (suc at + k) l)) (drop-drop k at text)
    ∙ ap (λ n. without_blanks (pieces_from n (drop (at + k) text))) (omega arith)

pub at_end : (text : List ℕ) → stream_at text (length text) ≡ ends (suc (length text))
unfolding stream_at pieces_from without_blanks
at_end text = rw (drop-length text)

pub blanks_keep : (t : Token) (ts : Stream) → ¬ (t.sort ≡ blank) → without_blanks (token t ts) ≡ token t (without_blanks ts)
unfolding without_blanks
blanks_keep t ts h = rw (ne_eqb t.sort blank h)

module _ (text : List ℕ) (i s : ℕ) (within : i < length text) (of-sort : sort_of (get_or text i 0) ≡ s) (no_blank : ¬ (s ≡ blank)) where
  pub at_sign : makes_runs s ≡ false → stream_at text i ≡ token (record { sort = s; place = suc i; bytes = get_or text i 0 ∷ [] }) (stream_at text (suc i))
  unfolding stream_at pieces_from
  at_sign h =
      let x = get_or text i 0 in
      let next = pieces_from (suc (suc i)) (drop (suc i) text) in
      let one : pieces_from (suc i) (drop i text) ≡ token (alone x (suc i)) next
      = ap (pieces_from (suc i)) (drop-cons text i 0 within) ∙ before-alone x (suc i) _ (ap makes_runs of-sort ∙ h) in
      let two : pieces_from (suc i) (drop i text) ≡ token (record { sort = s; place = suc i; bytes = x ∷ [] }) next
      = one ∙ ap (λ n. token (record { sort = n; place = suc i; bytes = x ∷ [] }) next) of-sort in
      ap without_blanks two ∙ blanks_keep _ _ no_blank

  pub at_run : makes_runs s ≡ true → (k : ℕ) → k ≡ run_length s (drop (suc i) text)
      → stream_at text i ≡ token (record { sort = s; place = suc i; bytes = get_or text i 0 ∷ take k (drop (suc i) text) }) (stream_at text (suc i + k))
  unfolding stream_at
  at_run h k e =
      let x = get_or text i 0 in
      let bs = drop (suc i) text in
      let n = run_length s bs in
      let one : pieces_from (suc i) (drop i text)
      ≡ token (record { sort = s; place = suc i; bytes = x ∷ take n bs }) (pieces_from (suc (suc i) + n) (drop n bs))
      = ap (pieces_from (suc i)) (drop-cons text i 0 within) ∙ pieces_run s h (suc i) x bs of-sort in
      let two : pieces_from (suc i) (drop i text)
      ≡ token (record { sort = s; place = suc i; bytes = x ∷ take k bs }) (pieces_from (suc (suc i) + k) (drop k bs)) = rw e one in
      let places : suc (suc i) + k ≡ suc (suc i + k) = omega arith in
      ap without_blanks two ∙ blanks_keep _ _ no_blank
      ∙ ap (λ m. token (record { sort = s; place = suc i; bytes = x ∷ take k bs }) (without_blanks (pieces_from m (drop k bs)))) places
      ∙ ap (λ l. token (record { sort = s; place = suc i; bytes = x ∷ take k bs }) (without_blanks (pieces_from (suc (suc i + k)) l)))
      (drop-drop k (suc i) text)

-- ---- bytes, compared one by one

pub same_end : (b : List ℕ) (i : ℕ) → length b ≤ i → (a : List ℕ) → i < length a → same_bytes (drop i a) (drop i b) ≡ false
unfolding same_bytes
same_end b i h a k = rw (drop-cons a i 0 k, drop_all i b h)

module _ (a b : List ℕ) (i : ℕ) where
  pub same-differ : i < length a → i < length b → ¬ (get_or a i 0 ≡ get_or b i 0) → same_bytes (drop i a) (drop i b) ≡ false
  unfolding same_bytes
  same-differ h k e = rw (drop-cons a i 0 h, drop-cons b i 0 k, ne_eqb (get_or a i 0) (get_or b i 0) e)

  pub same_next : i < length a → i < length b → get_or a i 0 ≡ get_or b i 0
      → same_bytes (drop i a) (drop i b) ≡ same_bytes (drop (i + 1) a) (drop (i + 1) b)
  unfolding same_bytes
  same_next h k e = rw (add-one i, drop-cons a i 0 h, drop-cons b i 0 k, eq-eqb (get_or a i 0) (get_or b i 0) e)

  pub same_more : length a ≤ i → i < length b → same_bytes (drop i a) (drop i b) ≡ false
  unfolding same_bytes
  same_more h k = rw (drop_all i a h, drop-cons b i 0 k)

  pub same_done : length a ≤ i → length b ≤ i → same_bytes (drop i a) (drop i b) ≡ true
  unfolding same_bytes
  same_done h k = rw (drop_all i a h, drop_all i b k)

-- ---- numbers

pub number-next : (bs : List ℕ) (v i : ℕ) → i < length bs
    → number_from v (drop i bs) ≡ number_from (v * 10 + (get_or bs i 0 - digit)) (drop (i + 1) bs)
unfolding number_from
number-next bs v i h = rw (add-one i, drop-cons bs i 0 h)

pub number-none : (bs : List ℕ) (v i : ℕ) → length bs ≤ i → number_from v (drop i bs) ≡ v
unfolding number_from
number-none bs v i h = rw (drop_all i bs h)

-- a number above a ceiling stays above it
pub number-capped : (top v : ℕ) (bs : List ℕ) → min (number_from (min v top) bs) top ≡ min (number_from v bs) top
unfolding number_from
number-capped top v [] = omega arith
number-capped top v (b ∷ bs) =
    let d = b - digit in
    let e : min (min v top * 10 + d) top ≡ min (v * 10 + d) top = omega arith in
    sym (number-capped top (min v top * 10 + d) bs) ∙ ap (λ k. min (number_from k bs) top) e ∙ number-capped top (v * 10 + d) bs
