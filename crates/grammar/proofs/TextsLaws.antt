-- The stream of a text: no more tokens than bytes, its end one past the text, and the place of any rest of it.
use Prim.Native.Nat.{ℕ, suc, ◌+◌, ◌≤◌}
use native.Mathlib.Omega.{arith}
use mathlib.Core.Path.{◌≡◌, refl, sym, ap, ◌∙◌}
use mathlib.Core.Bool.{Bool, true, false, ◌&&◌, cond}
use mathlib.Core.List.{List, [], ◌∷◌, ◌++◌}
use lib.Dec.{eqb}
use lib.ListN.{length}
use Rattle.model.specs.TextAnswer.{first_place}
use Rattle.model.specs.Tokens.{Token, blank}
use Rattle.grammar.specs.Stream.{Stream, ends, token, sort_of, makes_runs, alone, longer, before, pieces_from, without_blanks, stream_at, place_in}
use Rattle.grammar.specs.Symbols.{no_more, symbol_in}
use Rattle.grammar.proofs.JoiningLaws.{list_of, tokens_of, ◌⊕◌, size, list-join}
use Rattle.grammar.proofs.SymbolsLaws.{symbol_more}

unfoldable last_of : Stream → ℕ
last_of (ends p) = p
last_of (token t ts) = last_of ts

-- ---- the end

last-before : (b p : ℕ) (ts : Stream) → last_of (before b p ts) ≡ last_of ts
unfolding before last_of
last-before b p (ends q) = refl
last-before b p (token t ts) = at (makes_runs (sort_of b) && eqb (sort_of b) t.sort) where
  at : (x : Bool) → last_of (cond x (token (longer b p t) ts) (token (alone b p) (token t ts))) ≡ last_of ts
  at true = refl
  at false = refl

last_pieces : (p : ℕ) (bs : List ℕ) → last_of (pieces_from p bs) ≡ p + length bs
unfolding pieces_from last_of
last_pieces p [] = omega arith
last_pieces p (b ∷ bs) = last-before b p _ ∙ last_pieces (suc p) bs ∙ omega arith

last_blanks : (ts : Stream) → last_of (without_blanks ts) ≡ last_of ts
unfolding without_blanks last_of
last_blanks (ends p) = refl
last_blanks (token t ts) = at (eqb t.sort blank) (last_blanks ts) where
  at : (x : Bool) → last_of (without_blanks ts) ≡ last_of ts → last_of (cond x (without_blanks ts) (token t (without_blanks ts))) ≡ last_of ts
  at true h = h
  at false h = h

last-join : (ts : List Token) (rest : Stream) → last_of (ts ⊕ rest) ≡ last_of rest
unfolding ◌⊕◌ last_of
last-join [] rest = refl
last-join (t ∷ ts) rest = last-join ts rest

last-text : (text : List ℕ) → last_of (stream_at text 0) ≡ suc (length text)
unfolding stream_at
last-text text = last_blanks (pieces_from 1 text) ∙ last_pieces 1 text ∙ omega arith

-- ---- how many tokens

size-before : (b p : ℕ) (ts : Stream) → size (before b p ts) ≤ suc (size ts)
unfolding before size
size-before b p (ends q) = omega arith
size-before b p (token t ts) = at (makes_runs (sort_of b) && eqb (sort_of b) t.sort) where
  at : (x : Bool) → size (cond x (token (longer b p t) ts) (token (alone b p) (token t ts))) ≤ suc (suc (size ts))
  at true = omega arith
  at false = omega arith

size_pieces : (p : ℕ) (bs : List ℕ) → size (pieces_from p bs) ≤ length bs
unfolding pieces_from size
size_pieces p [] = omega arith
size_pieces p (b ∷ bs) = omega (arith, size-before b p (pieces_from (suc p) bs), size_pieces (suc p) bs)

size_blanks : (ts : Stream) → size (without_blanks ts) ≤ size ts
unfolding without_blanks size
size_blanks (ends p) = omega arith
size_blanks (token t ts) = at (eqb t.sort blank) (size_blanks ts) where
  at : (x : Bool) → size (without_blanks ts) ≤ size ts → size (cond x (without_blanks ts) (token t (without_blanks ts))) ≤ suc (size ts)
  at true h = omega arith
  at false h = omega arith

pub size-text : (text : List ℕ) → size (stream_at text 0) ≤ length text
unfolding stream_at
size-text text = omega (arith, size_blanks (pieces_from 1 text), size_pieces 1 text)

-- ---- a rest of the text's tokens

place-last : (rest : Stream) → place_in rest ≡ first_place (last_of rest) (list_of rest)
unfolding list_of last_of
place-last (ends p) = refl
place-last (token t ts) = refl

module _ (text : List ℕ) (pre : List Token) (rest : Stream) (e : stream_at text 0 ≡ pre ⊕ rest) where
  pub text-parted : tokens_of text ≡ pre ++ list_of rest
  unfolding tokens_of
  text-parted = ap list_of e ∙ list-join pre rest

  pub rest-place : place_in rest ≡ first_place (suc (length text)) (list_of rest)
  rest-place =
      let last : last_of rest ≡ suc (length text) = sym (last-join pre rest) ∙ sym (ap last_of e) ∙ last-text text in
      place-last rest ∙ ap (λ p. first_place p (list_of rest)) last

pub list-end : (rest : Stream) → symbol_in rest ≡ no_more → list_of rest ≡ []
unfolding list_of
list-end (ends p) h = refl
list-end (token t ts) h = absurd (symbol_more t h)
