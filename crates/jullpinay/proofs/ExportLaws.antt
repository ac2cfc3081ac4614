-- What passes the boundary: a part of the section as its length.
use mathlib.Core.Path.{◌≡◌, refl, ap}
use mathlib.Core.Bool.{Bool, true, false, ◌&&◌, cond}
use mathlib.Core.List.{List, [], ◌∷◌}
use Prim.Native.Nat.{ℕ, suc, zero, ◌+◌, ◌-◌}
use lib.Dec.{leb}
use lib.ListN.{length, take, drop}
use Rattle.model.specs.Answers.{is_accepted, snippet_of}
use Rattle.model.specs.Checks.{section_refusal}
use Rattle.model.specs.Section.{size}

-- what is taken by a taken part's own length is that part
take-taken : (k : ℕ) (xs : List ℕ) → take (length (take k xs)) xs ≡ take k xs
take-taken zero xs = refl
take-taken (suc k) [] = refl
take-taken (suc k) (x ∷ xs) = ap (λ (ys : List ℕ). x ∷ ys) (take-taken k xs)

take_picked : (c : Bool) (k : ℕ) (xs : List ℕ) → take (length (cond c (take k xs) [])) xs ≡ cond c (take k xs) []
take_picked true k xs = take-taken k xs
take_picked false k xs = refl

pub take_snippet : (section : List ℕ) (from to : ℕ) → take (length (snippet_of section from to)) (drop from section) ≡ snippet_of section from to
unfolding snippet_of
take_snippet section from to = take_picked (is_accepted (section_refusal section) && leb 1 from && leb from to && leb to (size section)) (to + 1 - from) (drop from section)
