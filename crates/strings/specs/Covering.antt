-- Positions that strings have or cover, and runs of covered positions, gone through string by string.
use Rattle.std.specs.Prelude.{ℕ, ◌+◌, ◌≤◌, Bool, true, false, ◌&&◌, cond, List, [], ◌∷◌, ◌≡◌, leb, ltb}
use Rattle.model.specs.Lists.{all_of, any_of, from_to, keep}
use Rattle.model.specs.Matches.{Str}
use Rattle.model.specs.Rules.{covered, covers}
use Rattle.strings.specs.declared.covering.Chosen.{Chosen}
use Rattle.strings.specs.declared.covering.Chosen.TheVariants.{All, Contiguous}

-- has a string a position from lo to hi?
abbrev pub overlaps : ℕ → ℕ → Str → Bool
overlaps lo hi s = leb s.start hi && leb lo s.end

-- has any string one?
abbrev pub any_overlaps : ℕ → ℕ → List Str → Bool
any_overlaps lo hi ss = any_of (overlaps lo hi) ss

-- all strings, or only the contiguous ones
abbrev pub chosen : Chosen → List Str → List Str
chosen All ss = ss
chosen Contiguous ss = keep (λ s. s.contiguous) ss

-- is a string among the chosen?
abbrev pub is_chosen : Chosen → Str → Bool
is_chosen All s = true
is_chosen Contiguous s = s.contiguous

-- a position, moved to the one after a chosen string that covers it
abbrev pub passed : Chosen → ℕ → Str → ℕ
passed which p s = cond (is_chosen which s && covers s p) (s.end + 1) p

-- a position, moved past each string in turn that covers it
unfoldable pub advanced : ℕ → List Str → ℕ
advanced p [] = p
advanced p (s ∷ ss) = advanced (passed All p s) ss

-- p is where the run from `from` to `to` stops being covered by ss: its first position that isn't, or one after it
pub record RunEnd (ss : List Str) (from to p : ℕ) : Type 0 where
  pub not_before : from ≤ p
  pub uncovered : p ≤ to → covered ss p ≡ false
  pub same : all_of (covered ss) (from_to from to) ≡ ltb to p
