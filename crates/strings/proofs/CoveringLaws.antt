-- A position that is moved past the strings that cover it passes covered positions only, and one that no string moves isn't covered. So the run from
-- where it stands is covered just where the run from where it comes to is.
use Prim.Native.Nat.{ℕ, zero, suc, ◌+◌, ◌-◌, ◌≤◌, ◌<◌}
use native.Mathlib.Omega.{arith}
use mathlib.Core.Bool.{Bool, true, false, ◌&&◌, ◌||◌, cond, or-true}
use mathlib.Core.List.{List, [], ◌∷◌}
use mathlib.Core.Path.{◌≡◌, refl, ap, sym, ◌∙◌}
use borrow.Author.Tests.{le-leb, leb-true, leb-false}
use lib.Dec.{leb}
use Rattle.model.specs.Lists.{Every, all_of, any_of, keep, from_to}
use Rattle.model.specs.Matches.{Str}
use Rattle.model.specs.Rules.{covers, covered}
use Rattle.model.proofs.EveryLaws.{every_weaker}
use Rattle.model.proofs.ListsLaws.{range_empty, range_cons}
use Rattle.model.proofs.TestsLaws.{both_true}
use Rattle.strings.specs.Covering.{chosen, passed, advanced}
use Rattle.strings.specs.declared.covering.Chosen.{Chosen}
use Rattle.strings.specs.declared.covering.Chosen.TheVariants.{All, Contiguous}
use Rattle.std.specs.List.{fold}

-- ---- all, over a range

module _ (c : ℕ → Bool) where
  pub all_range_empty : (a b : ℕ) → b < a → all_of c (from_to a b) ≡ true
  unfolding all_of
  all_range_empty a b h = rw (range_empty a b h)

  pub all_range-false : (a b : ℕ) → a ≤ b → c a ≡ false → all_of c (from_to a b) ≡ false
  unfolding all_of
  all_range-false a b h e = rw (range_cons a b h, e)

  all_range-true : (a b : ℕ) → c a ≡ true → all_of c (from_to a b) ≡ all_of c (from_to (a + 1) b)
  unfolding all_of
  all_range-true a b e = at (leb a b) refl
    where
      at : (t : Bool) → leb a b ≡ t → all_of c (from_to a b) ≡ all_of c (from_to (a + 1) b)
      at true h = rw (range_cons a b (leb-true a b h), e)
      at false h = let k = leb-false a b h in all_range_empty a b k ∙ sym (all_range_empty (a + 1) b (omega arith))

  -- numbers that pass may be left off in front
  all_range_from : (n a b : ℕ) → ((x : ℕ) → a ≤ x → x < a + n → c x ≡ true) → all_of c (from_to a b) ≡ all_of c (from_to (a + n) b)
  all_range_from zero a b f = ap (λ k. all_of c (from_to k b)) (omega arith)
  all_range_from (suc n) a b f =
      all_range-true a b (f a (omega arith) (omega arith))
      ∙ all_range_from n (a + 1) b (λ x h k. f x (omega arith) (omega arith))
      ∙ ap (λ k. all_of c (from_to k b)) (omega arith)

-- ---- covered

covers-between : (s : Str) (p x : ℕ) → covers s p ≡ true → p ≤ x → x ≤ s.end → covers s x ≡ true
covers-between s p x e h k =
    let low = leb-true s.start p (both_true (leb s.start p) (leb p s.end) e).0 in
    rw (le-leb s.start x (omega arith), le-leb x s.end k)

covers-end : (s : Str) (p : ℕ) → covers s p ≡ true → p ≤ s.end
covers-end s p e = leb-true p s.end (both_true (leb s.start p) (leb p s.end) e).1

-- what a string covers passes c
abbrev Under : (ℕ → Bool) → Str → Type 0
Under c s = (x : ℕ) → covers s x ≡ true → c x ≡ true

covered-each : (ss : List Str) → Every (Under (covered ss)) ss
unfolding Every any_of
covered-each [] = tt
covered-each (s ∷ ss) = (λ x e. rw e, every_weaker _ _ (λ t h x e. rw (h x e) (or-true (covers s x))) ss (covered-each ss))

-- ---- advanced

-- no position is moved down
pub advanced_up : (p : ℕ) (ss : List Str) → p ≤ advanced p ss
unfolding advanced
advanced_up p [] = omega arith
advanced_up p (s ∷ ss) = at (covers s p) refl (advanced_up (passed All p s) ss)
  where
    at : (t : Bool) → covers s p ≡ t → cond t (s.end + 1) p ≤ advanced (cond t (s.end + 1) p) ss → p ≤ advanced (cond t (s.end + 1) p) ss
    at true e h = let k = covers-end s p e in omega arith
    at false e h = h

-- a position that no string moves isn't covered
pub advanced_stuck : (p : ℕ) (ss : List Str) → advanced p ss ≡ p → covered ss p ≡ false
unfolding advanced any_of
advanced_stuck p [] e = refl
advanced_stuck p (s ∷ ss) e = at (covers s p) refl (advanced_up (passed All p s) ss) e (advanced_stuck p ss)
  where
    at : (t : Bool) → covers s p ≡ t → cond t (s.end + 1) p ≤ advanced (cond t (s.end + 1) p) ss
        → advanced (cond t (s.end + 1) p) ss ≡ p → (advanced p ss ≡ p → covered ss p ≡ false) → (t || covered ss p) ≡ false
    at true c h e later = let k = covers-end s p c in absurd (omega arith)
    at false c h e later = later e

-- what strings move a position over passes c
advanced_under : (c : ℕ → Bool) (p : ℕ) (ss : List Str) → Every (Under c) ss → (to : ℕ) → all_of c (from_to p to) ≡ all_of c (from_to (advanced p ss) to)
unfolding advanced Every
advanced_under c p [] a to = refl
advanced_under c p (s ∷ ss) a to = at (covers s p) refl ∙ advanced_under c (passed All p s) ss a.1 to
  where
    at : (t : Bool) → covers s p ≡ t → all_of c (from_to p to) ≡ all_of c (from_to (cond t (s.end + 1) p) to)
    at true e =
        let m = covers-end s p e in
        all_range_from c (s.end + 1 - p) p to (λ x h k. a.0 x (covers-between s p x e h (omega arith))) ∙ ap (λ k. all_of c (from_to k to)) (omega arith)
    at false e = refl

-- the run from a position on, and from where the strings move it
pub covered-advanced : (ss : List Str) (p to : ℕ) → all_of (covered ss) (from_to p to) ≡ all_of (covered ss) (from_to (advanced p ss) to)
covered-advanced ss p to = advanced_under (covered ss) p ss (covered-each ss) to

-- ---- chosen

-- the strings gone through one by one, those that aren't chosen too
pub fold_advanced : (which : Chosen) (p : ℕ) (ss : List Str) → fold (passed which) p ss ≡ advanced p (chosen which ss)
unfolding advanced keep
fold_advanced All p [] = refl
fold_advanced All p (s ∷ ss) = fold_advanced All (passed All p s) ss
fold_advanced Contiguous p [] = refl
fold_advanced Contiguous p (s ∷ ss) = fold_advanced Contiguous (passed Contiguous p s) ss ∙ at s.contiguous
  where
    at : (t : Bool) → advanced (cond (t && covers s p) (s.end + 1) p) (chosen Contiguous ss) ≡ advanced p (cond t (s ∷ chosen Contiguous ss) (chosen Contiguous ss))
    at true = refl
    at false = refl
