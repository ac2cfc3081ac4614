-- Laws of Printed: a number's digits from its tenth's, and how long each text is.
use Prim.Native.Nat.{ℕ, zero, suc, ◌+◌, ◌-◌, ◌*◌, ◌/◌, ◌%◌, ◌≤◌, ◌<◌}
use native.Mathlib.Omega.{arith}
use mathlib.Core.Path.{◌≡◌, sym, ap, ◌∙◌}
use mathlib.Core.Bool.{Bool}
use mathlib.Core.List.{List, [], ◌∷◌, ◌++◌}
use borrow.Author.Tests.{lt-ltb, le-ltb}
use mathlib.Core.Logic.{⊎_elim}
use lib.ListN.{length, length-append}
use Rattle.model.specs.Matches.{Str}
use Rattle.model.proofs.TestsLaws.{lt-or-le}
use Rattle.text.specs.Printed.{digit, digits, decimal, span_text, query_text, string_text, head_text}

-- ---- decimal

digits-small : (most n : ℕ) → n < 10 → digits (suc most) n ≡ digit n ∷ []
unfolding digits
digits-small most n h = rw (lt-ltb n 10 h)

digits_more : (most n : ℕ) → 10 ≤ n → digits (suc most) n ≡ digits most (n / 10) ++ digit (n % 10) ∷ []
unfolding digits
digits_more most n h = rw (le-ltb n 10 h)

-- any bound above the number will do
digits-enough : (k l n : ℕ) → n < k → n < l → digits k n ≡ digits l n
digits-enough zero l n h i = absurd (omega arith)
digits-enough (suc k) zero n h i = absurd (omega arith)
digits-enough (suc k) (suc l) n h i =
    ⊎_elim
    (λ few. digits-small k n few ∙ sym (digits-small l n few))
    (λ many. digits_more k n many ∙ ap (λ ds. ds ++ digit (n % 10) ∷ []) (digits-enough k l (n / 10) (omega arith) (omega arith)) ∙ sym (digits_more l n many))
    (lt-or-le n 10)

pub decimal-small : (n : ℕ) → n < 10 → decimal n ≡ digit n ∷ []
unfolding decimal
decimal-small n h = digits-small n n h

pub decimal-more : (n : ℕ) → 10 ≤ n → decimal n ≡ decimal (n / 10) ++ digit (n % 10) ∷ []
unfolding decimal
decimal-more n h = digits_more n n h ∙ ap (λ ds. ds ++ digit (n % 10) ∷ []) (digits-enough n (suc (n / 10)) (n / 10) (omega arith) (omega arith))

-- read back, after a number, the digits are the number
pub value_of : ℕ → List ℕ → ℕ
value_of front [] = front
value_of front (b ∷ bs) = value_of (front * 10 + (b - digit 0)) bs

value_of-snoc : (front : ℕ) (bs : List ℕ) (d : ℕ) → value_of front (bs ++ digit d ∷ []) ≡ value_of front bs * 10 + d
unfolding value_of
value_of-snoc front [] d = omega arith
value_of-snoc front (b ∷ bs) d = value_of-snoc (front * 10 + (b - digit 0)) bs d

digits_back : (most n : ℕ) → n < most → value_of 0 (digits most n) ≡ n
unfolding value_of
digits_back zero n h = absurd (omega arith)
digits_back (suc most) n h =
    ⊎_elim
    (λ few. ap (value_of 0) (digits-small most n few) ∙ value_of-snoc 0 [] n ∙ omega arith)
    (λ many. ap (value_of 0) (digits_more most n many) ∙ value_of-snoc 0 (digits most (n / 10)) (n % 10) ∙ ap (λ v. v * 10 + n % 10) (digits_back most (n / 10) (omega arith)) ∙ omega arith)
    (lt-or-le n 10)

pub decimal_back : (n : ℕ) → value_of 0 (decimal n) ≡ n
unfolding decimal
decimal_back n = digits_back (suc n) n (omega arith)

pub length-decimal-more : (n : ℕ) → 10 ≤ n → length (decimal n) ≡ length (decimal (n / 10)) + 1
length-decimal-more n h = ap length (decimal-more n h) ∙ length-append (decimal (n / 10)) (digit (n % 10) ∷ [])

-- the first number with k + 2 digits
abbrev pub tenfold : ℕ → ℕ
tenfold zero = 10
tenfold (suc k) = 10 * tenfold k

pub length-decimal : (k n : ℕ) → n < tenfold k → length (decimal n) ≤ suc k
length-decimal zero n h = omega (arith, ap length (decimal-small n h))
length-decimal (suc k) n h =
    ⊎_elim (λ few. omega (arith, ap length (decimal-small n few))) (λ many. omega (arith, length-decimal-more n many, length-decimal k (n / 10) (omega arith))) (lt-or-le n 10)

-- ---- the length of each text, by its parts

pub length-span : (start end : ℕ) → length (span_text start end) ≡ length (decimal start) + 1 + length (decimal end)
unfolding span_text
length-span start end = simp length-append

pub length-query : (query : ℕ) (contiguous : Bool) → length (query_text query contiguous) ≡ 2 + length (decimal query) + 1 + 1
unfolding query_text
length-query query contiguous = simp length-append

pub length-string : (sort : ℕ) (s : Str) → length (string_text sort s) ≡ 1 + length (span_text s.start s.end) + length (query_text s.query s.contiguous)
unfolding string_text
length-string sort s = simp length-append

pub length_head : (word : List ℕ) (a b : ℕ) → length (head_text word a b) ≡ length word + length (decimal a) + 1 + length (decimal b) + 1
unfolding head_text
length_head word a b = simp length-append
