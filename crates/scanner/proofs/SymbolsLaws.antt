-- Symbols and their numbers, and the table of keywords against the grammar's.
use Rattle.std.proofs.Common.{◌≡◌, ℕ, ◌+◌, suc, Bool, true, false, cond, not, ◌&&◌, List, [], ◌∷◌, length, eqb, refl, sym, ap, ◌∙◌, arith, rules, Bor}
use Rattle.std.proofs.lemmas.Bool.Decides.{nat_tests}
use Rattle.std.specs.Str.{bytes_eq}
use Prim.Native.String.{String}
use Rattle.std.proofs.lemmas.Bool.{false≢true}
use denote.Enum.Bare.{sameb, same_true, same_false}
use borrow.Author.Tests.{ne_eqb, eq-eqb, eqb-true}
use Rattle.model.specs.Bytes.{bytes}
use Rattle.model.specs.Tokens.{letter}
use Rattle.grammar.specs.Symbols.{keywords, no_more, number_among, same_bytes, symbol_of}
use Rattle.scanner.specs.contracts.symbols.Symbol.{the_type}
use Rattle.scanner.specs.declared.symbols.Symbol.{Symbol}
use Rattle.scanner.specs.declared.symbols.Symbol.TheVariants.{Ftor, Ftand, Ftnot, Not, In, Ordered, Window, Distance, Same, Different, At, Entire, Start, End, Sentence, Paragraph, Content, Occurs, Exactly, From, To, Least, Most, Words, Times, OtherWord, NoMore, Quote, Opening, Closing, Number, OtherSign}
use Rattle.scanner.specs.Symbols.{number_of, is_asked, is_token, first_of, asked_for, named, first_spelled}

-- ---- symbols and numbers

first-number : (n : ℕ) (ss : List Symbol) (s : Symbol) → first_of n ss ≡ s → is_asked s ≡ true → n ≡ number_of s
first-number n [] s e h = absurd (false≢true (ap is_asked e ∙ h))
first-number n (r ∷ rs) s e h = at (eqb n (number_of r)) refl e (λ f. first-number n rs s f h) where
  at : (b : Bool) → eqb n (number_of r) ≡ b → cond b r (first_of n rs) ≡ s → (first_of n rs ≡ s → n ≡ number_of s) → n ≡ number_of s
  at true t f later = eqb-true n (number_of r) t ∙ ap number_of f
  at false t f later = later f

-- a symbol that a rule can ask for has one number
pub named-number : (n : ℕ) (s : Symbol) → s ≡ named n → is_asked s ≡ true → n ≡ number_of s
unfolding named
named-number n s e h = first-number n asked_for s (sym e) h

pub number-named : (s : Symbol) → is_asked s ≡ true → named (number_of s) ≡ s
unfolding named
number-named Ftor h = refl
number-named Ftand h = refl
number-named Ftnot h = refl
number-named Not h = refl
number-named In h = refl
number-named Ordered h = refl
number-named Window h = refl
number-named Distance h = refl
number-named Same h = refl
number-named Different h = refl
number-named At h = refl
number-named Entire h = refl
number-named Start h = refl
number-named End h = refl
number-named Sentence h = refl
number-named Paragraph h = refl
number-named Content h = refl
number-named Occurs h = refl
number-named Exactly h = refl
number-named From h = refl
number-named To h = refl
number-named Least h = refl
number-named Most h = refl
number-named Words h = refl
number-named Times h = refl
number-named OtherWord h = refl
number-named NoMore h = refl
number-named Quote h = refl
number-named Opening h = refl
number-named Closing h = refl
number-named Number h = refl
number-named OtherSign h = absurd (false≢true h)

-- is a token's symbol the one that is asked for?
pub tested : (n : ℕ) (r s : Symbol) (b : Bool) → r ≡ named n → is_asked s ≡ true → b ≡ sameb the_type r s → b ≡ eqb n (number_of s)
tested n r s b is known e = e ∙ at (sameb the_type r s) refl where
  at : (t : Bool) → sameb the_type r s ≡ t → t ≡ eqb n (number_of s)
  at true f = sym (eq-eqb n (number_of s) (named-number n s (sym (same_true the_type (search rules) r s f) ∙ is) known))
  at false f = sym (ne_eqb n (number_of s) (λ g. same_false the_type r s f (is ∙ ap named g ∙ number-named s known)))

pub untested : (n : ℕ) (r s : Symbol) (b : Bool) → r ≡ named n → is_asked s ≡ true → b ≡ not (sameb the_type r s) → b ≡ not (eqb n (number_of s))
untested n r s b is known e = e ∙ ap not (tested n r s _ is known refl)

-- a token's symbol is asked for, and isn't the end's
pub token_asked : (s : Symbol) → is_token s ≡ true → is_asked s ≡ true
token_asked s h = at (is_asked s) (not (eqb (number_of s) no_more)) h where
  at : (a b : Bool) → (a && b) ≡ true → a ≡ true
  at true b e = refl
  at false b e = e

pub token_more : (s : Symbol) → is_token s ≡ true → ¬ (number_of s ≡ no_more)
token_more s h e = at (is_asked s) (rw (eq-eqb (number_of s) no_more e) at h) where
  at : (a : Bool) → (a && false) ≡ true → ⊥
  at true f = false≢true f
  at false f = false≢true f

pub other_sign : (s : ℕ) → ¬ (s ≡ 34) → ¬ (s ≡ 40) → ¬ (s ≡ 41) → ¬ (s ≡ 48) → named (100 + s) ≡ OtherSign
unfolding named
other_sign s a b c d = grind (arith, nat_tests)

-- ---- the table of keywords

spells : (a b : List ℕ) → bytes_eq a b ≡ same_bytes a b
unfolding same_bytes
spells [] [] = refl
spells [] (y ∷ ys) = refl
spells (x ∷ xs) [] = refl
spells (x ∷ xs) (y ∷ ys) = ap (λ t. eqb x y && t) (spells xs ys)

other_length : (w x : List ℕ) → ¬ (length w ≡ length x) → same_bytes w x ≡ false
unfolding same_bytes
other_length [] [] h = absurd (h refl)
other_length [] (y ∷ ys) h = refl
other_length (x ∷ xs) [] h = refl
other_length (x ∷ xs) (y ∷ ys) h = rw (other_length xs ys (λ e. h (ap suc e))) (never (eqb x y)) where
  never : (b : Bool) → (b && false) ≡ false
  never true = refl
  never false = refl

abbrev pub Where : Bool → Type 0 → Type 0 → Type 0
Where true A B = A
Where false A B = B

-- a table that has those of the keywords from a number on that are picked, each with the symbol of its number
abbrev pub AlignedOf : (picked : String → Bool) (n : ℕ) → List (Bor (List ℕ) × Symbol) → List String → Type 0
AlignedOf picked n [] [] = named n ≡ OtherWord
AlignedOf picked n (k ∷ ks) [] = ⊥
AlignedOf picked n [] (v ∷ vs) = Where (picked v) ⊥ (AlignedOf picked (suc n) [] vs)
AlignedOf picked n (k ∷ ks) (v ∷ vs) = Where (picked v) ((k.0.now ≡ bytes v) × (named n ≡ k.1) × AlignedOf picked (suc n) ks vs) (AlignedOf picked (suc n) (k ∷ ks) vs)

-- a word that is none of the keywords that aren't picked
module _ (w : List ℕ) (picked : String → Bool) (none : (v : String) → picked v ≡ false → same_bytes w (bytes v) ≡ false) where
  spelled-named-of : (n : ℕ) (ks : List (Bor (List ℕ) × Symbol)) (ws : List String) → AlignedOf picked n ks ws → first_spelled w ks ≡ named (number_among n ws w)
  unfolding number_among first_spelled
  spelled-named-of n [] [] a = sym a
  spelled-named-of n (k ∷ ks) [] a = absurd a
  spelled-named-of n [] (v ∷ vs) a = at (picked v) refl a (λ b. spelled-named-of (suc n) [] vs b) where
    at : (t : Bool) → picked v ≡ t → Where t ⊥ (AlignedOf picked (suc n) [] vs) → (AlignedOf picked (suc n) [] vs → OtherWord ≡ named (number_among (suc n) vs w))
        → OtherWord ≡ named (cond (same_bytes w (bytes v)) n (number_among (suc n) vs w))
    at true e b rest = absurd b
    at false e b rest = rw (none v e) (rest b)
  spelled-named-of n (k ∷ ks) (v ∷ vs) a = at (picked v) refl a (λ b. spelled-named-of (suc n) ks vs b) (λ b. spelled-named-of (suc n) (k ∷ ks) vs b) where
    held : (b : Bool) → named n ≡ k.1 → first_spelled w ks ≡ named (number_among (suc n) vs w) → cond b k.1 (first_spelled w ks) ≡ named (cond b n (number_among (suc n) vs w))
    held true f e = sym f
    held false f e = e

    at : (t : Bool) → picked v ≡ t → Where t ((k.0.now ≡ bytes v) × (named n ≡ k.1) × AlignedOf picked (suc n) ks vs) (AlignedOf picked (suc n) (k ∷ ks) vs)
        → (AlignedOf picked (suc n) ks vs → first_spelled w ks ≡ named (number_among (suc n) vs w))
        → (AlignedOf picked (suc n) (k ∷ ks) vs → cond (bytes_eq w k.0.now) k.1 (first_spelled w ks) ≡ named (number_among (suc n) vs w))
        → cond (bytes_eq w k.0.now) k.1 (first_spelled w ks) ≡ named (cond (same_bytes w (bytes v)) n (number_among (suc n) vs w))
    at true e b this rest = rw (b.0, spells w (bytes v)) (held (same_bytes w (bytes v)) b.1 (this b.2))
    at false e b this rest = rw (none v e) (rest b)

-- a table that has all of the keywords from a number on
abbrev pub Aligned : ℕ → List (Bor (List ℕ) × Symbol) → List String → Type 0
Aligned n ks ws = AlignedOf (λ v. true) n ks ws

pub spelled-named : (n : ℕ) (ks : List (Bor (List ℕ) × Symbol)) (ws : List String) (w : List ℕ) → Aligned n ks ws → first_spelled w ks ≡ named (number_among n ws w)
spelled-named n ks ws w a = spelled-named-of w (λ v. true) (λ v e. absurd (false≢true (sym e))) n ks ws a

-- the table's word is the grammar's
pub spelled_is : (r : Symbol) (w : List ℕ) (ks : List (Bor (List ℕ) × Symbol)) → r ≡ first_spelled w ks → Aligned 1 ks keywords → r ≡ named (number_among 1 keywords w)
spelled_is r w ks e a = e ∙ spelled-named 1 ks keywords w a

-- a table that has those of the keywords from a number on that are so long
abbrev pub AlignedOfLength : (size n : ℕ) → List (Bor (List ℕ) × Symbol) → List String → Type 0
AlignedOfLength size n ks ws = AlignedOf (λ v. eqb (length (bytes v)) size) n ks ws

module _ (w : List ℕ) (size : ℕ) (long : length w ≡ size) where
  other : (x : List ℕ) → eqb (length x) size ≡ false → same_bytes w x ≡ false
  other x e = other_length w x (λ q. false≢true (sym e ∙ eq-eqb (length x) size (sym q ∙ long)))

  spelled-named-of-length : (n : ℕ) (ks : List (Bor (List ℕ) × Symbol)) (ws : List String) → AlignedOfLength size n ks ws → first_spelled w ks ≡ named (number_among n ws w)
  spelled-named-of-length n ks ws a = spelled-named-of w (λ v. eqb (length (bytes v)) size) (λ v. other (bytes v)) n ks ws a

  -- the table's word is the grammar's
  pub spelled_is_of_length : (r : Symbol) (ks : List (Bor (List ℕ) × Symbol)) → r ≡ first_spelled w ks → AlignedOfLength size 1 ks keywords → r ≡ named (number_among 1 keywords w)
  spelled_is_of_length r ks e a = e ∙ spelled-named-of-length 1 ks keywords a

  -- no keyword is so long
  pub other_word : ¬ (2 ≡ size) → ¬ (3 ≡ size) → ¬ (4 ≡ size) → ¬ (5 ≡ size) → ¬ (6 ≡ size) → ¬ (7 ≡ size) → ¬ (8 ≡ size) → ¬ (9 ≡ size)
      → OtherWord ≡ named (number_among 1 keywords w)
  unfolding named first_spelled
  other_word b c d e f g h i =
      spelled-named-of-length 1 [] keywords (rw (ne_eqb 2 size b, ne_eqb 3 size c, ne_eqb 4 size d, ne_eqb 5 size e, ne_eqb 6 size f, ne_eqb 7 size g, ne_eqb 8 size h, ne_eqb 9 size i) refl)

-- ---- by the sort of a token

module _ (r : Symbol) (sort place : ℕ) (bytes : List ℕ) where
  pub word-named : r ≡ named (number_among 1 keywords bytes) → sort ≡ letter → r ≡ named (symbol_of (record { sort = sort; place = place; bytes = bytes }))
  unfolding symbol_of
  word-named e h = e ∙ rw h refl

  pub sign-named : ¬ (sort ≡ letter) → named (100 + sort) ≡ r → r ≡ named (symbol_of (record { sort = sort; place = place; bytes = bytes }))
  unfolding symbol_of
  sign-named h e = rw (ne_eqb sort letter h) (sym e)
