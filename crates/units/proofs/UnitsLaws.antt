-- Units of strings: the laws are over any unit, as the number at a position.
use Rattle.std.proofs.Common.{ℕ, ◌≤◌, ◌<◌, ◌≡◌, refl, List, [], ◌∷◌, Bool, true, false, ◌&&◌, length, arith}
use Rattle.std.specs.Prelude.{Option, None, Some}
use Rattle.std.specs.Option.{unwrap_or}
use mathlib.Core.Bool.{and-false, true≢false}
use borrow.Author.Tests.{le-leb, lt-leb}
use Rattle.model.specs.Lists.{all_of, all_pairs}
use Rattle.model.specs.Matches.{Str}
use Rattle.model.specs.Rules.{unit_for, units_nonzero, units_apart, different}
use Rattle.model.proofs.TestsLaws.{both_true}
use Rattle.strings.specs.Strings.{str_packed, strs_at}
use Rattle.strings.specs.declared.packed.Packed.{Packed}
use Rattle.strings.proofs.PackedLaws.{next_str}
use Rattle.strings.proofs.StringsLaws.{length-strs_at}

-- the two tests of all strings, once there are two
abbrev pub both_tests : (ℕ → ℕ) → List Str → Bool
both_tests unit is = all_of (units_nonzero unit) is && all_pairs (units_apart unit) is

module _ (unit : ℕ → ℕ) where
  -- ---- same

  -- with includes an exclude is held to the unit of the first, and without any to the one that it starts in
  pub unit_held : (s : Packed) (ss rest : List Str) (first : Option Packed) → next_str ss first rest → unit (str_packed (unwrap_or first s)).start ≡ unit_for unit ss (str_packed s)
  unit_held s ss rest None e = rw e.0 refl
  unit_held s ss rest (Some p) e = rw e refl

  -- ---- different

  -- less than two strings fail, and two or more are put to both tests ..
  module _ (l : List ℕ) where
    pub too_few : length l < 4 → false ≡ (different unit).keeps (strs_at l)
    too_few h = let k : length (strs_at l) < 2 = omega (arith, length-strs_at l) in rw (lt-leb 2 (length (strs_at l)) k)

    pub enough : 4 ≤ length l → {r : Bool} → r ≡ both_tests unit (strs_at l) → r ≡ (different unit).keeps (strs_at l)
    enough h e = let k : 2 ≤ length (strs_at l) = omega (arith, length-strs_at l) in rw (le-leb 2 (length (strs_at l)) k) e

  -- .. each string against those after it
  pub differ_none : true ≡ both_tests unit []
  unfolding all_of all_pairs
  differ_none = refl

  module _ (s : Str) (ss : List Str) where
    pub differ_here : (different unit).stays ss s ≡ false → both_tests unit (s ∷ ss) ≡ false
    unfolding all_of all_pairs
    differ_here e = fails (units_nonzero unit s) (all_of (units_apart unit s) ss) (all_of (units_nonzero unit) ss) (all_pairs (units_apart unit) ss) e
      where
        fails : (a b c d : Bool) → (a && b) ≡ false → (a && c && (b && d)) ≡ false
        fails true true c d e = absurd (true≢false e)
        fails true false c d e = and-false c
        fails false b c d e = refl

    pub differ_later : (different unit).stays ss s ≡ true → both_tests unit (s ∷ ss) ≡ both_tests unit ss
    unfolding all_of all_pairs
    differ_later e = let b = both_true (units_nonzero unit s) (all_of (units_apart unit s) ss) e in rw (b.0, b.1)
