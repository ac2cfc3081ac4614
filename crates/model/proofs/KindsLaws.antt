-- Laws of shapes.
use Prim.Native.Nat.{ℕ, ◌≤◌}
use native.Mathlib.Omega.{arith}
use mathlib.Core.Path.{◌≡◌, refl, ap}
use mathlib.Core.Bool.{Bool, true, false, cond}
use lib.Dec.{eqb, leb}
use borrow.Author.Tests.{eqb-true}
use Rattle.model.specs.declared.Code.{Code}
use Rattle.model.specs.declared.Code.TheVariants.{Word, Phrase, Combine, Not, Filter as Filtered, Occurs}
use Rattle.model.specs.declared.Filter.TheVariants.{EntireContent}
use Rattle.model.specs.declared.Pair.{Pair}
use Rattle.model.specs.declared.Pair.TheVariants.{Or, And, MildNot}
use Rattle.model.specs.Kinds.{Change, negated, filtered, occurring, Shape, a_word, a_phrase, a_pair, a_change, shape_of, is_word, arity}
use Rattle.model.specs.Selection.{filter_of, times_of, code_of}
use Rattle.model.proofs.TestsLaws.{false-true, positive}

pub arity-le : (s : Shape) → arity s ≤ 2
arity-le (a_word v) = omega arith
arity-le (a_phrase k) = omega arith
arity-le (a_pair k) = omega arith
arity-le (a_change k) = omega arith

-- only a word has a word's shape
pub word_shape : (c : Code) (v : ℕ) → shape_of c ≡ a_word v → c ≡ Word v
word_shape (Word w) v e = let same : w ≡ v = cc in ap Word same
word_shape (Phrase k) v e = false-true (ap is_word e)
word_shape (Combine k) v e = false-true (ap is_word e)
word_shape Not v e = false-true (ap is_word e)
word_shape (Filtered f) v e = false-true (ap is_word e)
word_shape (Occurs k) v e = false-true (ap is_word e)

-- what holds of the shape of the code of a kind and an operand, by the shapes
pub shape_cases : (P : Shape → Type 0) (k o : ℕ) → (k ≡ 0 → P (a_word o)) → (k ≡ 1 → P (a_phrase o)) → (1 ≤ k → (q : Pair) → P (a_pair q))
    → (1 ≤ k → (q : Change) → P (a_change q)) → P (shape_of (code_of k o))
shape_cases P k o w p c f =
    cond_cases (eqb k 0) _ _ (λ e. w (eqb-true k 0 e)) (λ z.
    let h : 1 ≤ k = positive k z in
    cond_cases (eqb k 1) _ _ (λ e. p (eqb-true k 1 e)) (λ _.
    cond_cases (leb k 5) _ _ (λ _.
    cond_cases (eqb k 2) _ _ (λ _. c h Or) (λ _.
    cond_cases (eqb k 3) _ _ (λ _. c h And) (λ _.
    cond_cases (eqb k 4) _ _ (λ _. f h negated) (λ _. c h MildNot)))) (λ _.
    cond_cases (leb k 15) _ _ (λ _. f h (filtered (filter_of k o))) (λ _.
    cond_cases (leb k 17) _ _ (λ _. f h (occurring (times_of k o))) (λ _. f h (filtered EntireContent))))))
  where
    cond_cases : (b : Bool) (x y : Code) → (b ≡ true → P (shape_of x)) → (b ≡ false → P (shape_of y)) → P (shape_of (cond b x y))
    cond_cases true x y t e = t refl
    cond_cases false x y t e = e refl
