-- Laws of symbols: a token's symbol says what the token is, and what a token is says its symbol.
use Prim.Native.Nat.{ℕ, zero, suc, ◌+◌, ◌-◌, ◌≤◌, ◌<◌}
use Prim.Native.String.{String}
use native.Mathlib.Omega.{arith}
use mathlib.Core.Path.{◌≡◌, refl, sym, ap, ◌∙◌}
use mathlib.Core.Bool.{Bool, true, false, ◌&&◌, cond}
use mathlib.Core.List.{List, [], ◌∷◌}
use borrow.Author.Tests.{ne_eqb, eqb-true, eqb-false, le-leb, leb-true}
use lib.Dec.{eqb, leb}
use lib.ListN.{length}
use Rattle.model.specs.Bytes.{bytes}
use Rattle.model.specs.Productions.{Sign, Keyword, Number}
use Rattle.model.specs.TextAnswer.{Alike}
use Rattle.model.specs.Tokens.{Token, letter, value_of}
use Rattle.grammar.specs.Symbols.{k_ftor, k_times, no_more, s_number, keywords, same_bytes, number_among, symbol_of}

-- ---- bytes

pub bytes_same : (a b : List ℕ) → same_bytes a b ≡ true → a ≡ b
unfolding same_bytes
bytes_same [] [] h = refl
bytes_same [] (y ∷ ys) h = let z : ◌≡◌ {A = ℕ} 0 1 = cc in absurd (omega arith)
bytes_same (x ∷ xs) [] h = let z : ◌≡◌ {A = ℕ} 0 1 = cc in absurd (omega arith)
bytes_same (x ∷ xs) (y ∷ ys) h = at (eqb x y) refl h (bytes_same xs ys) where
  at : (b : Bool) → eqb x y ≡ b → (b && same_bytes xs ys) ≡ true → (same_bytes xs ys ≡ true → xs ≡ ys) → (x ∷ xs) ≡ (y ∷ ys)
  at true e k later = rw (eqb-true x y e, later k)
  at false e k later = let z : ◌≡◌ {A = ℕ} 0 1 = cc in absurd (omega arith)

-- ---- keywords

abbrev pub keyword_at : List String → ℕ → String
keyword_at [] i = ""
keyword_at (k ∷ ks) zero = k
keyword_at (k ∷ ks) (suc i) = keyword_at ks i

-- the keyword of a number
abbrev pub spelling : ℕ → String
spelling n = keyword_at keywords (n - 1)

abbrev pub is_keyword : ℕ → Bool
is_keyword n = leb k_ftor n && leb n k_times

number_least : (n : ℕ) (ks : List String) (w : List ℕ) → n ≤ number_among n ks w
unfolding number_among
number_least n [] w = omega arith
number_least n (k ∷ ks) w = at (same_bytes w (bytes k)) (number_least (suc n) ks w) where
  at : (x : Bool) → suc n ≤ number_among (suc n) ks w → n ≤ cond x n (number_among (suc n) ks w)
  at true h = omega arith
  at false h = omega arith

number-most : (n : ℕ) (ks : List String) (w : List ℕ) → number_among n ks w ≤ n + length ks
unfolding number_among
number-most n [] w = omega arith
number-most n (k ∷ ks) w = at (same_bytes w (bytes k)) (number-most (suc n) ks w) where
  at : (x : Bool) → number_among (suc n) ks w ≤ suc n + length ks → cond x n (number_among (suc n) ks w) ≤ n + suc (length ks)
  at true h = omega arith
  at false h = omega arith

number-spells : (n : ℕ) (ks : List String) (w : List ℕ) (i : ℕ) → i < length ks → number_among n ks w ≡ n + i → w ≡ bytes (keyword_at ks i)
unfolding number_among
number-spells n [] w i h e = absurd (omega arith)
number-spells n (k ∷ ks) w i h e = at (same_bytes w (bytes k)) refl i h e (number-spells (suc n) ks w) where
  at : (x : Bool) → same_bytes w (bytes k) ≡ x → (i : ℕ) → i < suc (length ks) → cond x n (number_among (suc n) ks w) ≡ n + i
      → ((j : ℕ) → j < length ks → number_among (suc n) ks w ≡ suc n + j → w ≡ bytes (keyword_at ks j)) → w ≡ bytes (keyword_at (k ∷ ks) i)
  at true f zero h e later = bytes_same w (bytes k) f
  at true f (suc j) h e later = absurd (omega arith)
  at false f zero h e later = absurd (omega (arith, number_least (suc n) ks w))
  at false f (suc j) h e later = later j (omega arith) (omega arith)

-- ---- what a symbol says of a token

-- a token is a word or of another sort
symbol_cases : (P : ℕ → Type 0) (t : Token) → (t.sort ≡ letter → P (number_among 1 keywords t.bytes)) → (¬ (t.sort ≡ letter) → P (100 + t.sort))
    → P (symbol_of t)
unfolding symbol_of
symbol_cases P t f g = at (eqb t.sort letter) refl where
  at : (x : Bool) → eqb t.sort letter ≡ x → P (cond x (number_among 1 keywords t.bytes) (100 + t.sort))
  at true e = f (eqb-true _ _ e)
  at false e = g (eqb-false _ _ e)

word_symbol : (t : Token) → t.sort ≡ letter → symbol_of t ≡ number_among 1 keywords t.bytes
unfolding symbol_of
word_symbol t h = rw h

other_symbol : (t : Token) → ¬ (t.sort ≡ letter) → symbol_of t ≡ 100 + t.sort
unfolding symbol_of
other_symbol t h = rw (ne_eqb t.sort letter h)

both : (a b : Bool) → (a && b) ≡ true → (a ≡ true) × (b ≡ true)
both true true h = (refl, refl)
both true false h = let z : ◌≡◌ {A = ℕ} 0 1 = cc in absurd (omega arith)
both false b h = let z : ◌≡◌ {A = ℕ} 0 1 = cc in absurd (omega arith)

pub keyword_range : (n : ℕ) → is_keyword n ≡ true → (k_ftor ≤ n) × (n ≤ k_times)
keyword_range n k = let b = both (leb k_ftor n) (leb n k_times) k in (leb-true _ _ b.0, leb-true _ _ b.1)

pub symbol_keyword : (n : ℕ) → is_keyword n ≡ true → (t : Token) → symbol_of t ≡ n → Keyword (spelling n) t
symbol_keyword n k t =
    let r = keyword_range n k in
    symbol_cases (λ s. s ≡ n → Keyword (spelling n) t) t
    (λ h e. record { letters = h; spelled = number-spells 1 keywords t.bytes (n - 1) (omega (arith, r.0, r.1)) (omega (arith, r.0)) })
    (λ h e. absurd (omega (arith, r.1)))

-- a sign or a number
pub symbol_sort : (t : Token) (b : ℕ) → symbol_of t ≡ 100 + b → t.sort ≡ b
symbol_sort t b =
    symbol_cases (λ s. s ≡ 100 + b → t.sort ≡ b) t (λ h e. absurd (omega (arith, number-most 1 keywords t.bytes))) (λ h e. omega arith)

-- no token is the text's end
pub symbol_more : (t : Token) → ¬ (symbol_of t ≡ no_more)
symbol_more t = symbol_cases (λ s. ¬ (s ≡ no_more)) t (λ h e. omega (arith, number-most 1 keywords t.bytes)) (λ h e. omega arith)

-- ---- what a token says of its symbol

pub keyword_symbol : {w : String} {t : Token} → Keyword w t → symbol_of t ≡ number_among 1 keywords (bytes w)
keyword_symbol {w} {t} h = word_symbol t h.letters ∙ ap (number_among 1 keywords) h.spelled

pub sign_symbol : {b : ℕ} {t : Token} → Sign b t → eqb b letter ≡ false → symbol_of t ≡ 100 + b
sign_symbol {b} {t} h k = other_symbol t (λ e. eqb-false b letter k (sym h.is ∙ e)) ∙ ap (λ s. 100 + s) h.is

pub number_symbol : {most : ℕ} {t : Token} → Number most t → symbol_of t ≡ s_number
number_symbol {most} {t} h = other_symbol t (λ e. omega (arith, h.digits)) ∙ ap (λ s. 100 + s) h.digits

pub number-within : {most : ℕ} {t : Token} → Number most t → leb (value_of t) most ≡ true
number-within h = le-leb _ _ h.within

pub alike_symbol : {t u : Token} → Alike t u → symbol_of u ≡ symbol_of t
alike_symbol {t} {u} a =
    symbol_cases (λ s. symbol_of u ≡ s) t
    (λ h. word_symbol u (a.sort ∙ h) ∙ ap (number_among 1 keywords) (a.bytes (λ d. omega arith)))
    (λ h. other_symbol u (λ e. h (sym a.sort ∙ e)) ∙ ap (λ s. 100 + s) a.sort)
