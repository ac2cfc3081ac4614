-- A string's numbers, and the strings of a slice: its first pair of numbers is the first string, and less than a pair is none.
use Prim.Native.Nat.{ℕ, ◌+◌, ◌-◌, ◌*◌, ◌/◌, ◌≤◌, ◌<◌}
use native.Mathlib.Nat.{div-add-mod'}
use native.Mathlib.Omega.{arith}
use mathlib.Core.Bool.{Bool, true, false, cond}
use mathlib.Core.List.{List, [], ◌∷◌}
use mathlib.Core.Path.{◌≡◌, refl}
use lib.ListN.{length, take, drop, get_or}
use lib.Seq.{take_all}
use Rattle.model.specs.AllStrings.{AllStrs}
use Rattle.model.specs.Answers.{span_of, tag_of}
use Rattle.model.specs.Limits.{radix}
use Rattle.model.specs.Lists.{Every}
use Rattle.model.specs.Matches.{Str}
use Rattle.strings.specs.Strings.{str_of, strs_at}

-- ---- tag_of

turned : (query : ℕ) (c : Bool) (old new : ℕ) → old ≤ 1 → (query * 4 + cond c 2 0 + old) / 2 * 2 + new ≡ query * 4 + cond c 2 0 + new
turned query true old new h = omega arith
turned query false old new h = omega arith

-- a string's tag with another sort
pub tag-turned : (old new : ℕ) (s : Str) → old ≤ 1 → tag_of old s / 2 * 2 + new ≡ tag_of new s
tag-turned old new s h = turned s.query s.contiguous old new h

-- ---- str_of

pub span_of-str_of : (span tag : ℕ) → span_of (str_of span tag) ≡ span
span_of-str_of span tag = div-add-mod' span radix

-- ---- strs_at

pub strs_at-short : (l : List ℕ) → length l ≤ 1 → strs_at l ≡ []
unfolding strs_at
strs_at-short [] h = refl
strs_at-short (x ∷ []) h = refl
strs_at-short (x ∷ y ∷ r) h = absurd (omega arith)

-- a pair of numbers is the first string
pub strs_at-first : (l : List ℕ) → 2 ≤ length l → strs_at l ≡ str_of (get_or l 0 0) (get_or l 1 0) ∷ strs_at (take (length l - 2) (drop 2 l))
unfolding strs_at
strs_at-first [] h = absurd (omega arith)
strs_at-first (x ∷ []) h = absurd (omega arith)
strs_at-first (x ∷ y ∷ r) h = rw (take_all (length (x ∷ y ∷ r) - 2) r (omega arith))

-- every end is the lower half of a number
pub end-strs_at : (l : List ℕ) → AllStrs (λ s. s.end < radix) (strs_at l)
unfolding strs_at Every
end-strs_at [] = tt
end-strs_at (x ∷ []) = tt
end-strs_at (x ∷ y ∷ r) = (omega arith, end-strs_at r)

pub length-strs_at : (l : List ℕ) → length (strs_at l) ≡ length l / 2
unfolding strs_at
length-strs_at [] = refl
length-strs_at (x ∷ []) = refl
length-strs_at (x ∷ y ∷ r) = omega (arith, length-strs_at r)
