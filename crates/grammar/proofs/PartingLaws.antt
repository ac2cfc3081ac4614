-- The tokens of a text are those that the rule of tokens makes of it, and it makes no others.
use Prim.Native.Nat.{ℕ, zero, suc, ◌+◌, ◌≤◌}
use native.Mathlib.Omega.{arith}
use mathlib.Core.Path.{◌≡◌, refl, sym, ap, ◌∙◌}
use mathlib.Core.Bool.{Bool, true, false, cond}
use mathlib.Core.List.{List, [], ◌∷◌, ◌++◌}
use mathlib.Core.Logic.{◌↔◌}
use borrow.Author.Tests.{eq-eqb, ne_eqb, eqb-true, eqb-false, leb-true, leb-false}
use lib.Dec.{eqb, leb}
use lib.ListN.{length, take, drop, take-append-drop, length-drop}
use lib.Seq.{take_at, drop_at}
use Rattle.model.specs.Lists.{Every}
use Rattle.model.specs.Tokens.{Token, blank, digit, letter, Letter, Digit, Stops, stops_end, stops_other, Tokens, no_more, a_blank, a_keyword, a_number, a_sign}
use Rattle.grammar.specs.Stream.{Stream, token, sort_of, makes_runs, alone, pieces_from, without_blanks, run_length, stream_at}
use Rattle.grammar.proofs.JoiningLaws.{list_of, tokens_of}
use Rattle.grammar.proofs.StreamLaws.{sort-letter, sort-digit, sort-low, sort_middle, sort-high, no_runs, runs_letter, runs_digit, before-alone, pieces_run, blanks_keep}

-- ---- sorts

letter-sort : (b : ℕ) → Letter b → sort_of b ≡ letter
letter-sort b h = sort-letter b h.low h.high

digit-sort : (b : ℕ) → Digit b → sort_of b ≡ digit
digit-sort b h = sort-digit b h.low h.high

data Class (b : ℕ) : Type 0 where
  of_letters : Letter b → Class b
  of_digits : Digit b → Class b
  of_neither : ¬ Letter b → ¬ Digit b → sort_of b ≡ b → Class b

class_of : (b : ℕ) → Class b
class_of b = at (leb 97 b) refl (leb b 122) refl (leb 48 b) refl (leb b 57) refl where
  at : (x : Bool) → leb 97 b ≡ x → (y : Bool) → leb b 122 ≡ y → (z : Bool) → leb 48 b ≡ z → (w : Bool) → leb b 57 ≡ w → Class b
  at true e true f z g w h = of_letters (record { low = leb-true _ _ e; high = leb-true _ _ f })
  at true e false f z g w h = let k = leb-false b 122 f in of_neither (λ l. omega arith) (λ d. omega arith) (sort-high b k)
  at false e y f true g true h = of_digits (record { low = leb-true _ _ g; high = leb-true _ _ h })
  at false e y f true g false h =
      let k = leb-false 97 b e in
      let m = leb-false b 57 h in
      of_neither (λ l. omega arith) (λ d. omega arith) (sort_middle b m k)
  at false e y f false g w h = let k = leb-false 48 b g in of_neither (λ l. omega arith) (λ d. omega arith) (sort-low b k)

sort_is-letter : (b : ℕ) → sort_of b ≡ letter → Letter b
sort_is-letter b e = at (class_of b) where
  at : Class b → Letter b
  at (of_letters h) = h
  at (of_digits h) = absurd (omega (arith, digit-sort b h))
  at (of_neither h k f) = record { low = omega arith; high = omega arith }

sort_is-digit : (b : ℕ) → sort_of b ≡ digit → Digit b
sort_is-digit b e = at (class_of b) where
  at : Class b → Digit b
  at (of_letters h) = absurd (omega (arith, letter-sort b h))
  at (of_digits h) = h
  at (of_neither h k f) = record { low = omega arith; high = omega arith }

sort_is_self : (b : ℕ) → ¬ Letter b → ¬ Digit b → sort_of b ≡ b
sort_is_self b h k = at (class_of b) where
  at : Class b → sort_of b ≡ b
  at (of_letters l) = absurd (h l)
  at (of_digits d) = absurd (k d)
  at (of_neither x y f) = f

-- ---- runs

-- the bytes of a sort that makes runs
module _ (T : ℕ → Type 0) (s : ℕ) (to : (b : ℕ) → T b → sort_of b ≡ s) (from : (b : ℕ) → sort_of b ≡ s → T b) where
  run_every : (bs more : List ℕ) → Every T bs → Stops T more → run_length s (bs ++ more) ≡ length bs
  unfolding run_length Every
  run_every [] [] a stops_end = refl
  run_every [] (b ∷ more) a (stops_other h) = rw (ne_eqb (sort_of b) s (λ e. h (from b e)))
  run_every (b ∷ bs) more a k = rw (eq-eqb (sort_of b) s (to b a.0)) (ap suc (run_every bs more a.1 k))

  every_run : (bs : List ℕ) → Every T (take (run_length s bs) bs)
  unfolding run_length Every
  every_run [] = tt
  every_run (b ∷ bs) = at (eqb (sort_of b) s) refl (every_run bs) where
    at : (x : Bool) → eqb (sort_of b) s ≡ x → Every T (take (run_length s bs) bs) → Every T (take (cond x (suc (run_length s bs)) 0) (b ∷ bs))
    at true e d = (from b (eqb-true _ _ e), d)
    at false e d = tt

  stops_run : (bs : List ℕ) → Stops T (drop (run_length s bs) bs)
  unfolding run_length
  stops_run [] = stops_end
  stops_run (b ∷ bs) = at (eqb (sort_of b) s) refl (stops_run bs) where
    at : (x : Bool) → eqb (sort_of b) s ≡ x → Stops T (drop (run_length s bs) bs) → Stops T (drop (cond x (suc (run_length s bs)) 0) (b ∷ bs))
    at true e d = d
    at false e d = stops_other (λ t. eqb-false _ _ e (to b t))

-- ---- the pieces of bytes, as a list without blanks

abbrev parts_of : ℕ → List ℕ → List Token
parts_of p bs = list_of (without_blanks (pieces_from p bs))

keeps : (t : Token) (ts : Stream) → ¬ (t.sort ≡ blank) → list_of (without_blanks (token t ts)) ≡ t ∷ list_of (without_blanks ts)
unfolding list_of
keeps t ts h = ap list_of (blanks_keep t ts h)

none : (p : ℕ) → parts_of p [] ≡ []
unfolding pieces_from without_blanks list_of
none p = refl

blank_runs : makes_runs (sort_of blank) ≡ false
unfolding makes_runs sort_of
blank_runs = refl

blank_gone : (p : ℕ) (ts : Stream) → list_of (without_blanks (token (alone blank p) ts)) ≡ list_of (without_blanks ts)
unfolding without_blanks sort_of
blank_gone p ts = refl

blank-parts : (p : ℕ) (bs : List ℕ) → parts_of p (blank ∷ bs) ≡ parts_of (suc p) bs
unfolding pieces_from
blank-parts p bs = ap (λ ts. list_of (without_blanks ts)) (before-alone blank p (pieces_from (suc p) bs) blank_runs) ∙ blank_gone p _

sign_parts : (p b : ℕ) (bs : List ℕ) → ¬ (b ≡ blank) → ¬ Letter b → ¬ Digit b
    → parts_of p (b ∷ bs) ≡ record { sort = b; place = p; bytes = b ∷ [] } ∷ parts_of (suc p) bs
unfolding pieces_from
sign_parts p b bs x y z =
    let e = sort_is_self b y z in
    let r : makes_runs b ≡ false
    = no_runs b (λ h. y (record { low = omega arith; high = omega arith })) (λ h. z (record { low = omega arith; high = omega arith })) in
    ap (λ ts. list_of (without_blanks ts)) (before-alone b p (pieces_from (suc p) bs) (ap makes_runs e ∙ r))
    ∙ ap (λ k. list_of (without_blanks (token (record { sort = k; place = p; bytes = b ∷ [] }) (pieces_from (suc p) bs)))) e
    ∙ keeps _ _ x

module _ (T : ℕ → Type 0) (s : ℕ) (to : (b : ℕ) → T b → sort_of b ≡ s) (from : (b : ℕ) → sort_of b ≡ s → T b) (runs : makes_runs s ≡ true)
    (solid : ¬ (s ≡ blank)) where
  run_parts : (p b : ℕ) (bs more : List ℕ) → T b → Every T bs → Stops T more
      → parts_of p (b ∷ (bs ++ more)) ≡ record { sort = s; place = p; bytes = b ∷ bs } ∷ parts_of (suc p + length bs) more
  run_parts p b bs more t d k =
      let e : run_length s (bs ++ more) ≡ length bs = run_every T s to from bs more d k in
      let f = pieces_run s runs p b (bs ++ more) (to b t) in
      let g : pieces_from p (b ∷ (bs ++ more)) ≡ token (record { sort = s; place = p; bytes = b ∷ bs }) (pieces_from (suc p + length bs) more)
      = rw (e, take_at bs more (length bs) refl, drop_at bs more (length bs) refl) at f in
      ap (λ ts. list_of (without_blanks ts)) g ∙ keeps _ _ solid

-- what the rule makes of bytes is their pieces
parts_are : {p : ℕ} {bs : List ℕ} {ts : List Token} → Tokens p bs ts → parts_of p bs ≡ ts
parts_are (no_more {p = p}) = none p
parts_are (a_blank {p = p} {bs = bs} d) = blank-parts p bs ∙ parts_are d
parts_are (a_keyword {p = p} {b = b} {bs = bs} {more = more} t e k d) =
    run_parts Letter letter letter-sort sort_is-letter runs_letter (λ h. omega arith) p b bs more t e k
    ∙ ap (λ ts. record { sort = letter; place = p; bytes = b ∷ bs } ∷ ts) (parts_are d)
parts_are (a_number {p = p} {b = b} {bs = bs} {more = more} t e k d) =
    run_parts Digit digit digit-sort sort_is-digit runs_digit (λ h. omega arith) p b bs more t e k
    ∙ ap (λ ts. record { sort = digit; place = p; bytes = b ∷ bs } ∷ ts) (parts_are d)
parts_are (a_sign {p = p} {b = b} {bs = bs} x y z d) =
    sign_parts p b bs x y z ∙ ap (λ ts. record { sort = b; place = p; bytes = b ∷ [] } ∷ ts) (parts_are d)

-- and it makes some of all bytes
record Parted (p : ℕ) (bs : List ℕ) : Type 0 where
  tokens : List Token
  parts : Tokens p bs tokens

byte_parted : (p b : ℕ) (bs : List ℕ) → ((q : ℕ) (cs : List ℕ) → length cs ≤ length bs → Parted q cs) → Parted p (b ∷ bs)
byte_parted p b bs later = at (class_of b) (eqb b blank) refl where
  run : (s : ℕ)
      → ((more : List ℕ) → more ≡ drop (run_length s bs) bs → Parted (suc p + length (take (run_length s bs) bs)) more
      → Parted p (b ∷ (take (run_length s bs) bs ++ more)))
      → Parted p (b ∷ bs)
  run s f =
      let k = run_length s bs in
      rw (take-append-drop k bs) at (f (drop k bs) refl (later _ (drop k bs) (omega (arith, length-drop k bs))))

  at : Class b → (x : Bool) → eqb b blank ≡ x → Parted p (b ∷ bs)
  at (of_letters h) x e =
      let every = every_run Letter letter letter-sort sort_is-letter bs in
      let stops = stops_run Letter letter letter-sort sort_is-letter bs in
      run letter (λ more f d. record { tokens = _; parts = a_keyword h every (rw f stops) d.parts })
  at (of_digits h) x e =
      let every = every_run Digit digit digit-sort sort_is-digit bs in
      let stops = stops_run Digit digit digit-sort sort_is-digit bs in
      run digit (λ more f d. record { tokens = _; parts = a_number h every (rw f stops) d.parts })
  at (of_neither h k f) true e =
      let d = later (suc p) bs (omega arith) in
      let g : b ≡ blank = eqb-true _ _ e in
      rw g (record { tokens = d.tokens; parts = a_blank d.parts })
  at (of_neither h k f) false e =
      let d = later (suc p) bs (omega arith) in record { tokens = _; parts = a_sign (eqb-false _ _ e) h k d.parts }

parted-from : (n p : ℕ) (bs : List ℕ) → length bs ≤ n → Parted p bs
parted-from zero p [] h = record { tokens = []; parts = no_more }
parted-from (suc n) p [] h = record { tokens = []; parts = no_more }
parted-from zero p (b ∷ bs) h = absurd (omega arith)
parted-from (suc n) p (b ∷ bs) h = byte_parted p b bs (λ q cs l. parted-from n q cs (omega arith))

-- The tokens of a text are exactly what the rule of tokens makes of it.
pub tokens_exactly : (text : List ℕ) (ts : List Token) → (tokens_of text ≡ ts) ↔ Tokens 1 text ts
unfolding tokens_of stream_at
tokens_exactly text ts =
    let d = parted-from (length text) 1 text (omega arith) in
    (λ e. rw (sym (parts_are d.parts) ∙ e) at d.parts, λ q. parts_are q)
