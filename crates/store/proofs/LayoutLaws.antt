-- How many numbers each part of the layout takes, and that lists after each other are laid out after each other; in the order of specs/Layout.antt.
use Prim.Native.Nat.{ℕ, ◌+◌, ◌*◌, ◌≤◌}
use native.Mathlib.Omega.{arith}
use mathlib.Core.Path.{◌≡◌, refl, ap, ◌∙◌}
use mathlib.Core.Bool.{Bool, true, false}
use mathlib.Core.List.{List, [], ◌∷◌, ◌++◌, map, flat_map, append-nil}
use lib.ListN.{length, length-append}
use Rattle.model.specs.Answers.{span_of, tag_of}
use Rattle.model.specs.Matches.{Str, Match, strings_in, strings}
use Rattle.model.specs.Rules.{kept_if}
use Rattle.model.proofs.ListsLaws.{flat_map-append}
use Rattle.strings.specs.Strings.{strs_of}
use Rattle.store.specs.Built.{Small}
use Rattle.store.specs.Layout.{match_numbers, matches_numbers, slot_numbers, slot_size}

-- ---- strs_of

pub strs_of-append : (sort : ℕ) (ss ts : List Str) → strs_of sort (ss ++ ts) ≡ strs_of sort ss ++ strs_of sort ts
unfolding strs_of
strs_of-append sort [] ts = refl
strs_of-append sort (s ∷ ss) ts = ap (λ xs. span_of s ∷ tag_of sort s ∷ xs) (strs_of-append sort ss ts)

pub length-strs_of : (sort : ℕ) (ss : List Str) → length (strs_of sort ss) ≡ 2 * length ss
unfolding strs_of
length-strs_of sort [] = refl
length-strs_of sort (s ∷ ss) = omega (arith, length-strs_of sort ss)

-- string by string
pub strs_of-flat_map : (sort : ℕ) (ss : List Str) → strs_of sort ss ≡ flat_map (λ s. span_of s ∷ tag_of sort s ∷ []) ss
unfolding strs_of flat_map
strs_of-flat_map sort [] = refl
strs_of-flat_map sort (s ∷ ss) = ap (λ xs. span_of s ∷ tag_of sort s ∷ xs) (strs_of-flat_map sort ss)

-- ---- match_numbers

pub length_match : (m : Match) → length (match_numbers m) ≡ 1 + 2 * strings_in m
unfolding match_numbers
length_match m =
    omega (arith, length-append (strs_of 0 m.includes) (strs_of 1 m.excludes), length-strs_of 0 m.includes, length-strs_of 1 m.excludes)

-- ---- matches_numbers

pub matches_none : matches_numbers [] ≡ []
unfolding matches_numbers flat_map
matches_none = refl

pub matches_one : (m : Match) → matches_numbers (m ∷ []) ≡ match_numbers m
unfolding matches_numbers flat_map
matches_one m = append-nil (match_numbers m)

pub matches_cons : (m : Match) (ms : List Match) → matches_numbers (m ∷ ms) ≡ match_numbers m ++ matches_numbers ms
unfolding matches_numbers flat_map
matches_cons m ms = refl

pub matches_append : (ms ns : List Match) → matches_numbers (ms ++ ns) ≡ matches_numbers ms ++ matches_numbers ns
unfolding matches_numbers
matches_append ms ns = flat_map-append match_numbers ms ns

-- a match that is kept, and one that is not
pub matches_kept : {test : Bool} (m : Match) → test ≡ true → matches_numbers (kept_if test m) ≡ match_numbers m
matches_kept m e = rw e (matches_one m)

pub matches_dropped : {test : Bool} (m : Match) → test ≡ false → matches_numbers (kept_if test m) ≡ []
matches_dropped m e = rw e matches_none

-- what is made of each element of a list is laid out after each other
pub matches_flat_map : {A : Type 0} (F : A → List Match) (xs : List A) → matches_numbers (flat_map F xs) ≡ flat_map (λ x. matches_numbers (F x)) xs
unfolding flat_map
matches_flat_map F [] = matches_none
matches_flat_map F (x ∷ xs) = matches_append (F x) (flat_map F xs) ∙ ap (λ ns. matches_numbers (F x) ++ ns) (matches_flat_map F xs)

pub matches_map : {A : Type 0} (f : A → Match) (xs : List A) → matches_numbers (map f xs) ≡ flat_map (λ x. match_numbers (f x)) xs
unfolding flat_map
matches_map f [] = matches_none
matches_map f (x ∷ xs) = matches_cons (f x) (map f xs) ∙ ap (λ ns. match_numbers (f x) ++ ns) (matches_map f xs)

pub length_matches : (ms : List Match) → length (matches_numbers ms) ≡ length ms + 2 * strings ms
unfolding matches_numbers flat_map strings
length_matches [] = refl
length_matches (m ∷ ms) = omega (arith, length-append (match_numbers m) (matches_numbers ms), length_match m, length_matches ms)

-- ---- slot_numbers

pub length-slot : (ms : List Match) → length (slot_numbers ms) ≡ 2 + length ms + 2 * strings ms
unfolding slot_numbers
length-slot ms = omega (arith, length_matches ms)

-- a list within the limits takes at most its slot
pub slot-fits : (ms : List Match) → Small ms → length (slot_numbers ms) ≤ slot_size
slot-fits ms h = omega (arith, length-slot ms)
