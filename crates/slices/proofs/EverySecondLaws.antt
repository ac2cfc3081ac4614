-- Every second number of a list: how many, one more at either end, and the loop that copies them.
use Prim.Native.Nat.{ℕ, zero, suc, ◌+◌, ◌*◌}
use native.Mathlib.Omega.{arith}
use native.Mathlib.Numerals.{add-one}
use mathlib.Core.Path.{◌≡◌, refl, sym, ap, ◌∙◌}
use mathlib.Core.List.{List, [], ◌∷◌, ◌++◌}
use lib.ListN.{length, get_or, set}
use lib.Seq.{sets}
use Rattle.model.proofs.SetsLaws.{sets-append}
use Rattle.slices.specs.EverySecond.{every_second}

pub length-every : (l : List ℕ) (p n : ℕ) → length (every_second l p n) ≡ n
unfolding every_second
length-every l p zero = refl
length-every l p (suc n) = ap suc (length-every l (p + 2) n)

every-snoc : (l : List ℕ) (p n : ℕ) → every_second l p (suc n) ≡ every_second l p n ++ get_or l (p + 2 * n) 0 ∷ []
unfolding every_second
every-snoc l p zero = ap (λ k. get_or l k 0 ∷ []) (omega arith)
every-snoc l p (suc n) = ap (λ r. get_or l p 0 ∷ r) (every-snoc l (p + 2) n ∙ ap (λ k. every_second l (p + 2) n ++ get_or l k 0 ∷ []) (omega arith))

pub every-cons : (x : ℕ) (l : List ℕ) (p n : ℕ) → every_second (x ∷ l) (suc p) n ≡ every_second l p n
unfolding every_second
every-cons x l p zero = refl
every-cons x l p (suc n) = ap (λ r. get_or l p 0 ∷ r) (ap (λ k. every_second (x ∷ l) k n) (omega arith) ∙ every-cons x l (p + 2) n)

-- the loop that copies them: nothing yet, and one more
pub copied_none : (mem b : List ℕ) (p q : ℕ) → b ≡ sets b q (every_second mem p 0)
unfolding every_second
copied_none mem b p q = refl

pub copied_more : (mem b : List ℕ) (p q i : ℕ) → set (sets b q (every_second mem p i)) (q + i) (get_or mem (p + 2 * i) 0) ≡ sets b q (every_second mem p (i + 1))
copied_more mem b p q i =
    let x = get_or mem (p + 2 * i) 0 in
    let one : every_second mem p (i + 1) ≡ every_second mem p i ++ x ∷ [] = ap (every_second mem p) (add-one i) ∙ every-snoc mem p i in
    sym (ap (sets b q) one ∙ sets-append b q (every_second mem p i) (x ∷ []) ∙ ap (λ k. set (sets b q (every_second mem p i)) (q + k) x) (length-every mem p i))
