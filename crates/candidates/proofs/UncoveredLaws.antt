-- A match has an uncovered position, beside another, where its includes cover one that the other's don't.
use Prim.Native.Nat.{ℕ, zero, suc, ◌+◌, ◌-◌, ◌≤◌, ◌<◌}
use native.Mathlib.Omega.{arith}
use mathlib.Core.Path.{◌≡◌, refl, sym, ap, ◌∙◌}
use mathlib.Core.Bool.{Bool, true, false, not, ◌||◌, or-true}
use mathlib.Core.List.{List, [], ◌∷◌}
use borrow.Author.Tests.{leb-true, leb-false}
use lib.Dec.{leb}
use Rattle.model.specs.Lists.{any_of, from_to, up_from}
use Rattle.model.specs.Matches.{Str}
use Rattle.model.specs.Rules.{covered, covers, positions}
use Rattle.candidates.specs.Uncovered.{any_uncovered}
use Rattle.model.proofs.TestsLaws.{both_true, false-true}

-- any, over a range with a number that passes
any_range : (c : ℕ → Bool) (a b p : ℕ) → a ≤ p → p ≤ b → c p ≡ true → any_of c (from_to a b) ≡ true
unfolding any_of from_to up_from
any_range c a b p h k e = go (b + 1 - a) a h (omega arith)
  where
    at : (x : ℕ) (rest t : Bool) → leb p x ≡ t → x ≤ p → (x < p → rest ≡ true) → (c x || rest) ≡ true
    at x rest true l h' later = let same : c x ≡ true = sym (ap c (omega (arith, leb-true p x l))) ∙ e in rw same
    at x rest false l h' later = rw (later (leb-false p x l)) (or-true (c x))

    go : (n x : ℕ) → x ≤ p → p < x + n → any_of c (up_from x n) ≡ true
    go zero x h' k' = absurd (omega arith)
    go (suc n) x h' k' = at x (any_of c (up_from (x + 1) n)) (leb p x) refl h' (λ m. go n (x + 1) (omega arith) (omega arith))

-- a position that is covered by the left strings and not by the right ones
pub uncovered-at : (lefts rights : List Str) (p : ℕ) → covered lefts p ≡ true → covered rights p ≡ false → any_uncovered lefts rights ≡ true
unfolding any_of
uncovered-at [] rights p e f = false-true e
uncovered-at (s ∷ ss) rights p e f = at (covers s p) refl e (uncovered-at ss rights p)
  where
    at : (t : Bool) → covers s p ≡ t → (t || covered ss p) ≡ true → (covered ss p ≡ true → covered rights p ≡ false → any_uncovered ss rights ≡ true)
        → (any_of (λ x. not (covered rights x)) (positions s) || any_uncovered ss rights) ≡ true
    at true c e' later =
        let both = both_true (leb s.start p) (leb p s.end) c in
        let here = any_range (λ x. not (covered rights x)) s.start s.end p (leb-true s.start p both.0) (leb-true p s.end both.1) (rw f) in
        rw here
    at false c e' later = rw (later e' f) (or-true (any_of (λ x. not (covered rights x)) (positions s)))
