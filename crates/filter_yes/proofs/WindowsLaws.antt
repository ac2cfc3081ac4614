-- The windows that strings are inside, as runs of last positions: a window is taken where a string is inside it, so the laws on covered positions tell
-- whether all windows of a match are.
use Prim.Native.Nat.{ℕ, ◌+◌, ◌-◌, ◌≤◌, ◌<◌}
use native.Mathlib.Omega.{arith}
use mathlib.Core.Path.{◌≡◌, refl, sym, ap, ap₂, ◌∙◌}
use mathlib.Core.Bool.{Bool, true, false, not, ◌&&◌, ◌||◌, and-true, and-false}
use mathlib.Core.List.{List, [], ◌∷◌}
use borrow.Author.Tests.{le-leb, lt-leb, ltb-true, ltb-false}
use lib.Dec.{leb, ltb}
use Rattle.model.specs.Lists.{all_of, any_of, from_to}
use Rattle.model.specs.Matches.{Str, is_yes}
use Rattle.model.specs.Rules.{covered, covers, inside_window, window}
use Rattle.model.proofs.RulesLaws.{window-none}
use Rattle.model.proofs.YesLaws.{yes_window}
use Rattle.std.specs.List.{fold}
use Rattle.strings.specs.declared.covering.Chosen.TheVariants.{All}
use Rattle.strings.specs.declared.positions.Run.{Run}
use Rattle.strings.specs.Covering.{advanced, passed}
use Rattle.join.specs.Joined.{Extent}
use Rattle.window.specs.Inside.{WindowSize}
use Rattle.window.proofs.JoinedLaws.{ends-are}
use Rattle.filter_yes.specs.Windows.{lasts_around, taken}

-- ---- lasts_around

inside_around : {n : ℕ} → WindowSize n → (last : ℕ) (s : Str) → covers (lasts_around n s) last ≡ inside_window n last s
inside_around {n} size last s = at (ltb last (s.start + n)) refl
  where
    at : (b : Bool) → ltb last (s.start + n) ≡ b → (leb s.end last && leb last (s.start + n - 1)) ≡ (b && leb s.end last)
    at true e =
        let h : last ≤ s.start + n - 1 = omega (arith, ltb-true last (s.start + n) e) in
        rw (le-leb last (s.start + n - 1) h) (and-true (leb s.end last))
    at false e =
        let h : s.start + n - 1 < last = omega (arith, ltb-false last (s.start + n) e, size.from_one) in
        rw (lt-leb last (s.start + n - 1) h) (and-false (leb s.end last))

-- a last position, moved or not
pub passed_out : {n : ℕ} → WindowSize n → (last : ℕ) (s : Str) → inside_window n last s ≡ false → last ≡ passed All last (lasts_around n s)
passed_out size last s e = rw (inside_around size last s ∙ e)

pub passed_in : {n : ℕ} → WindowSize n → (last : ℕ) (s : Str) → inside_window n last s ≡ true → s.start + n ≡ passed All last (lasts_around n s)
passed_in {n} size last s e = rw (inside_around size last s ∙ e) (omega (arith, size.from_one))

-- ---- taken

-- the strings gone through one by one
pub fold_taken : (n last : ℕ) (ss : List Str) → fold (λ k s. passed All k (lasts_around n s)) last ss ≡ advanced last (taken n ss)
unfolding advanced
fold_taken n last [] = refl
fold_taken n last (s ∷ ss) = fold_taken n (passed All last (lasts_around n s)) ss

covered-taken : {n : ℕ} → WindowSize n → (ss : List Str) (last : ℕ) → covered (taken n ss) last ≡ any_of (inside_window n last) ss
unfolding any_of
covered-taken size [] last = refl
covered-taken size (s ∷ ss) last = ap₂ ◌||◌ (inside_around size last s) (covered-taken size ss last)

all_taken : {n : ℕ} → WindowSize n → (ss : List Str) (lasts : List ℕ) → all_of (covered (taken n ss)) lasts ≡ all_of (λ last. any_of (inside_window n last) ss) lasts
unfolding all_of
all_taken size ss [] = refl
all_taken size ss (last ∷ lasts) = ap₂ ◌&&◌ (covered-taken size ss last) (all_taken size ss lasts)

-- ---- the windows of a match

pub free_none : (n : ℕ) (is es : List Str) → is ≡ [] → false ≡ is_yes (window n (record { includes = is; excludes = es }))
unfolding any_of
free_none n is es e = ap is_yes (sym (window-none n (record { includes = is; excludes = es }) e))

-- with includes, by the positions of their join
pub free_some : {n : ℕ} → WindowSize n → (is es : List Str) {run : Run} → Extent is run
    → not (all_of (covered (taken n es)) (from_to run.hi.0 (run.lo.0 + n - 1))) ≡ is_yes (window n (record { includes = is; excludes = es }))
free_some {n} size is es {run} x =
    let inside : ℕ → Bool = λ last. any_of (inside_window n last) es in
    ap not (all_taken size es (from_to run.hi.0 (run.lo.0 + n - 1)) ∙ ap (all_of inside) (sym (ends-are x n)))
    ∙ sym (yes_window n (record { includes = is; excludes = es }))
