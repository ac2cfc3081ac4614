-- Where none of a word's kin stands, the word doesn't fit; a phrase whose words are out of the table is found by equality.
use Prim.Native.Nat.{ℕ, suc, ◌+◌, ◌<◌}
use native.Mathlib.Omega.{arith}
use mathlib.Core.Path.{◌≡◌, refl, sym, ap}
use mathlib.Core.Bool.{false}
use mathlib.Core.List.{List, [], ◌∷◌, map}
use borrow.Author.Tests.{ne_eqb}
use lib.Dec.{eqb}
use lib.ListN.{length, get_or}
use Rattle.std.specs.List.{list_any}
use Rattle.model.specs.Families.{searched_of, equal_words}
use Rattle.model.specs.Lists.{any_of, keep, from_to}
use Rattle.model.specs.Rules.{stand_from, found, phrase_list}
use Rattle.model.specs.Section.{size}
use Rattle.families.proofs.KinLaws.{fits_alone}
use Rattle.phrase.specs.Searches.{OutOfTable}
use Rattle.phrase.proofs.RowsLaws.{eqb-sym}

-- ---- among some numbers

pub among : (number : ℕ) (numbers : List ℕ) → list_any (λ y. eqb y number) numbers ≡ any_of (eqb number) numbers
unfolding any_of
among number [] = refl
among number (x ∷ xs) = rw (eqb-sym x number, among number xs)

pub among_none : (number : ℕ) (numbers : List ℕ) → ((k : ℕ) → k < length numbers → number ≡ get_or numbers k 0 → ⊥) → any_of (eqb number) numbers ≡ false
unfolding any_of
among_none number [] h = refl
among_none number (x ∷ xs) h = rw (ne_eqb number x (h 0 (omega arith)), among_none number xs (λ k l. h (suc k) (omega arith)))

-- ---- words out of the table are found by equality

module _ (section families : List ℕ) where
  equal_stands : (words : List ℕ) (p : ℕ) → OutOfTable families words → stand_from (searched_of section families) words p ≡ stand_from (equal_words section) words p
  unfolding stand_from
  equal_stands [] p out = refl
  equal_stands (w ∷ ws) p out =
      rw (fits_alone families (get_or section p 0) w (out 0 (omega arith)), equal_stands ws (p + 1) (λ j h. out (suc j) (omega arith)))

  module _ (words : List ℕ) (out : OutOfTable families words) where
    equal_kept : (ps : List ℕ) → keep (stand_from (searched_of section families) words) ps ≡ keep (stand_from (equal_words section) words) ps
    unfolding keep
    equal_kept [] = refl
    equal_kept (p ∷ ps) = rw (equal_stands words p out, equal_kept ps)

    pub equal_list : (rank : ℕ) → phrase_list (equal_words section) rank words ≡ phrase_list (searched_of section families) rank words
    unfolding phrase_list
    equal_list rank = ap (map (found rank (length words))) (sym (equal_kept (from_to 1 (size section))))
