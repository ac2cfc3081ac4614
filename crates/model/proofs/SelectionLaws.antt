-- Laws of codes and of rows of codes. A code and its two numbers say the same, as going through the eighteen kinds shows; and a row's first codes
-- are its codes one by one, since a row is cut before or after any of them.
use Prim.Native.Nat.{ℕ, zero, suc, ◌+◌, ◌-◌, ◌*◌, ◌/◌, ◌%◌, ◌≤◌, ◌<◌}
use native.Mathlib.Nat.{add-zero}
use native.Mathlib.Omega.{arith}
use mathlib.Core.Path.{◌≡◌, refl, sym, ap, ap₂, subst, ◌∙◌}
use mathlib.Core.Bool.{Bool, true}
use mathlib.Core.List.{List, [], ◌∷◌, ◌++◌, map, map-append, append_assoc, append-nil}
use lib.Dec.{eqb}
use lib.ListN.{length, take, drop, get_or, length-append}
use lib.Seq.{take_at, take-append_seam, drop-cons, append_snoc, get_or_at, get_or-append_seam}
use borrow.Author.Tests.{eqb-true}
use Rattle.model.specs.declared.Code.{Code}
use Rattle.model.specs.declared.Code.TheVariants.{Word, Phrase, Combine, Not, Filter as Filtered, Occurs}
use Rattle.model.specs.declared.Filter.TheVariants.{Ordered, Window, Distance, SameSentence, SameParagraph, DifferentSentence, DifferentParagraph, AtStart, AtEnd, EntireContent}
use Rattle.model.specs.declared.Pair.TheVariants.{Or, And, MildNot}
use Rattle.model.specs.declared.Times.TheVariants.{FromTo, AtLeast}
use Rattle.model.specs.Limits.{radix}
use Rattle.model.specs.Lists.{all_of, up_from}
use Rattle.model.specs.Selection.{kind_of, operand_of, code_of, up_to}
use Rattle.model.specs.Checks.{operand_fits, filter_operand_fits, times_operand_fits}
use Rattle.model.specs.Parts.{most_of}
use Rattle.model.proofs.LimitsLaws.{upper_half, lower_half}
use Rattle.model.proofs.ListsLaws.{all_append, up_from-snoc}
use Rattle.model.proofs.TestsLaws.{and-join}

-- ---- kind_of, operand_of, code_of

-- what holds of each number below n
unfoldable Below : (ℕ → Type 0) → ℕ → Type 0
Below P zero = Unit {0}
Below P (suc n) = Below P n × P n

below : (P : ℕ → Type 0) (n : ℕ) → Below P n → (k : ℕ) → k < n → P k
unfolding Below
below P zero b k h = absurd (omega arith)
below P (suc n) b k h = go (n - k) refl (below P n b.0 k)
  where
    go : (d : ℕ) → n - k ≡ d → (k < n → P k) → P k
    go zero e r = let s : n ≡ k = omega arith in subst P s b.1
    go (suc d) e r = r (omega arith)

-- a code has the kind that it is made of
pub kind_code : (k o : ℕ) → k ≤ 17 → kind_of (code_of k o) ≡ k
unfolding Below
kind_code k o h = below (λ n. kind_of (code_of n o) ≡ n) 18 each k (omega arith)
  where
    each : Below (λ n. kind_of (code_of n o) ≡ n) 18
    each = ((((((((((((((((((tt, refl), refl), refl), refl), refl), refl), refl), refl), refl), refl), refl), refl), refl), refl), refl), refl), refl), refl)

-- and the operand, where that fits the kind: kinds 0, 1, 7 and 17 keep it, 8 and 16 keep it as two numbers, the others have none
pub operand_code : (k o : ℕ) → k ≤ 17 → operand_fits k o ≡ true → operand_of (code_of k o) ≡ o
unfolding Below operand_fits filter_operand_fits times_operand_fits
operand_code k o h f = below (λ n. operand_fits n o ≡ true → operand_of (code_of n o) ≡ o) 18 each k (omega arith) f
  where
    kept : {b : Bool} → b ≡ true → o ≡ o
    kept z = refl

    split : {b : Bool} → b ≡ true → o / radix * radix + o % radix ≡ o
    split z = omega arith

    none : eqb o 0 ≡ true → 0 ≡ o
    none z = sym (eqb-true o 0 z)

    each : Below (λ n. operand_fits n o ≡ true → operand_of (code_of n o) ≡ o) 18
    each = ((((((((((((((((((tt, kept), kept), none), none), none), none), none), kept), split), none), none), none), none), none), none), none), split), kept)

-- a code is made again of its kind and operand
pub code_code : (c : Code) → most_of c < radix → code_of (kind_of c) (operand_of c) ≡ c
code_code (Word w) h = refl
code_code (Phrase k) h = refl
code_code (Combine Or) h = refl
code_code (Combine And) h = refl
code_code (Combine MildNot) h = refl
code_code Not h = refl
code_code (Filtered Ordered) h = refl
code_code (Filtered (Window n)) h = refl
code_code (Filtered (Distance a b)) h = ap₂ (λ (x y : ℕ). Filtered (Distance x y)) (upper_half a b h) (lower_half a b h)
code_code (Filtered SameSentence) h = refl
code_code (Filtered SameParagraph) h = refl
code_code (Filtered DifferentSentence) h = refl
code_code (Filtered DifferentParagraph) h = refl
code_code (Filtered AtStart) h = refl
code_code (Filtered AtEnd) h = refl
code_code (Filtered EntireContent) h = refl
code_code (Occurs (FromTo a b)) h = ap₂ (λ (x y : ℕ). Occurs (FromTo x y)) (upper_half a b h) (lower_half a b h)
code_code (Occurs (AtLeast a)) h = refl

-- ---- up_to

module _ {A : Type 0} (at : ℕ → A) where
  pub length-up_to : (n : ℕ) → length (up_to at n) ≡ n
  unfolding up_to
  length-up_to zero = refl
  length-up_to (suc n) = omega (arith, length-append (up_to at n) (at (suc n) ∷ []), length-up_to n)

  -- the codes from one place on are a row of their own
  pub up_to-add : (n k : ℕ) → up_to at (n + k) ≡ up_to at n ++ up_to (λ i. at (n + i)) k
  unfolding up_to
  up_to-add n zero = ap (up_to at) (add-zero n) ∙ sym (append-nil (up_to at n))
  up_to-add n (suc k) =
      let later = up_to (λ i. at (n + i)) k in
      let e : n + suc k ≡ suc (n + k) = omega arith in
      ap (up_to at) e ∙ ap₂ (λ (l : List A) (i : ℕ). l ++ at i ∷ []) (up_to-add n k) (sym e) ∙ append_assoc (up_to at n) later (at (n + suc k) ∷ [])

  -- a row cut after its first n codes
  pub up_to_split : (n m : ℕ) → n ≤ m → up_to at m ≡ up_to at n ++ up_to (λ i. at (n + i)) (m - n)
  up_to_split n m h = let e : m ≡ n + (m - n) = omega arith in ap (up_to at) e ∙ up_to-add n (m - n)

  -- codes at the front of a row are its first
  pub up_to_front : (hi : ℕ) (xs ys : List A) → up_to at hi ≡ xs ++ ys → up_to at (length xs) ≡ xs
  up_to_front hi xs ys e =
      let n = length xs in
      let h : n ≤ hi = omega (arith, length-up_to hi, ap length e, length-append xs ys) in
      let more = up_to (λ i. at (n + i)) (hi - n) in
      sym (take_at (up_to at n) more n (length-up_to n)) ∙ ap (take n) (sym (up_to_split n hi h) ∙ e) ∙ take-append_seam xs ys

  pub get_d_up_to : (m i : ℕ) → i < m → (d : A) → get_or (up_to at m) i d ≡ at (suc i)
  unfolding up_to
  get_d_up_to m i h d =
      let more = up_to (λ j. at (suc i + j)) (m - suc i) in
      ap (λ (l : List A). get_or l i d) (up_to_split (suc i) m h ∙ append_snoc (up_to at i) (at (suc i)) more)
      ∙ get_or_at (up_to at i) (at (suc i)) more d i (length-up_to i)

  -- the first hi codes end in the code c
  pub record Ends (hi : ℕ) (xs : List A) (c : A) : Type 0 where
    pub hi_is : hi ≡ suc (length xs)
    pub code : at hi ≡ c
    pub rest : up_to at (length xs) ≡ xs

  pub ends : (hi : ℕ) (xs : List A) (c : A) → up_to at hi ≡ xs ++ c ∷ [] → Ends hi xs c
  ends hi xs c e =
      let n = length xs in
      let hi_is : hi ≡ suc n = omega (arith, length-up_to hi, ap length e, length-append xs (c ∷ [])) in
      let same : get_or (up_to at (suc n)) n c ≡ c = ap (λ (l : List A). get_or l n c) (ap (up_to at) (sym hi_is) ∙ e) ∙ get_or-append_seam xs c [] c in
      record { hi_is = hi_is; code = ap at hi_is ∙ sym (get_d_up_to (suc n) n (omega arith) c) ∙ same; rest = up_to_front hi xs (c ∷ []) e }

  -- the codes from one place on: that code, and those after it
  pub drop-up_to : (m i : ℕ) → i < m → drop i (up_to at m) ≡ at (i + 1) ∷ drop (i + 1) (up_to at m)
  drop-up_to m i h =
      let e : suc i ≡ i + 1 = omega arith in
      let long : i < length (up_to at m) = omega (arith, length-up_to m) in
      drop-cons (up_to at m) i (at 0) long ∙ ap₂ (λ (c : A) (k : ℕ). c ∷ drop k (up_to at m)) (get_d_up_to m i h (at 0) ∙ ap at e) e

  -- a row's first codes, by their places
  pub up_to-map : (n : ℕ) → up_to at n ≡ map at (up_from 1 n)
  unfolding up_to up_from
  up_to-map zero = refl
  up_to-map (suc n) =
      let e : suc n ≡ 1 + n = omega arith in
      ap₂ (λ (l : List A) (i : ℕ). l ++ at i ∷ []) (up_to-map n) e ∙ sym (ap (map at) (up_from-snoc 1 n) ∙ map-append at (up_from 1 n) ((1 + n) ∷ []))

  -- a test that all codes pass, from each of them
  pub all_up_to : (p : A → Bool) (n : ℕ) → ((c : ℕ) → 1 ≤ c → c ≤ n → p (at c) ≡ true) → all_of p (up_to at n) ≡ true
  unfolding up_to all_of
  all_up_to p zero h = refl
  all_up_to p (suc n) h =
      let before = all_up_to p n (λ c l g. h c l (omega arith)) in
      all_append p (up_to at n) (at (suc n) ∷ []) ∙ and-join before (and-join (h (suc n) (omega arith) (omega arith)) refl)
