-- What halving the words of a table tells of the entry that has a word and of its family, and when a word fits.
use Rattle.std.proofs.Common.{◌≡◌, ℕ, ◌+◌, ◌-◌, ◌≤◌, ◌<◌, true, false, eqb, List, length, get_or, take, drop, Option, Result, Some, None, Ok, Err, sym, refl, ap, ◌∙◌, arith, eq-eqb, ne_eqb}
use Rattle.std.specs.Ordering.{nat_cmp}
use Rattle.std.specs.Prelude.{option_map}
use Rattle.std.specs.Option.{is_some, option_eq}
use Rattle.std.specs.Result.{result_ok}
use Rattle.std.specs.List.Sorted.{IsBinarySearchResult}
use Rattle.std.proofs.lemmas.List.{get_or-take, length-take, length-drop}
use Rattle.std.proofs.lemmas.Grind.{get_or_after_one}
use Rattle.std.proofs.lemmas.List.Sorted.{searched}
use native.Mathlib.Nat.{eq-or-lt_of_le}
use mathlib.Core.Logic.{⊎_elim}
use Rattle.model.specs.Accepted.{AcceptedFamilies}
use Rattle.model.specs.Families.{entry_of, family_of, same_family, word_fits}
use Rattle.model.specs.Section.{size, first_at, second_at}
use Rattle.model.proofs.FamiliesLaws.{entry_none, entry_at}

-- ---- entry_of and family_of, by a search among the words

module _ {families : List ℕ} (a : AcceptedFamilies families) (word m : ℕ) (e : m ≡ size families) where
  words : List ℕ
  words = take (m + 1 - 1) (drop 1 families)

  abbrev Search : Result ℕ ℕ → Type 0
  Search r = IsBinarySearchResult (λ y. nat_cmp y word) (take (m + 1 - 1) (drop 1 families)) r

  has_words : length words ≡ m
  unfolding words
  has_words = simp (length-take, length-drop) (omega (arith, a.sized, e))

  at_place : (i : ℕ) → i < m → get_or words i 0 ≡ first_at families (i + 1)
  unfolding words
  at_place i h =
      let f : 1 + i ≡ i + 1 = omega arith in
      get_or-take (m + 1 - 1) (drop 1 families) i 0 (omega arith) ∙ get_or_after_one families i 0 ∙ ap (first_at families) f

  rise : (i j : ℕ) → i ≤ j → j < length words → get_or words i 0 ≤ get_or words j 0
  rise i j h l =
      let f = at_place i (omega (arith, has_words)) in
      let g = at_place j (omega (arith, has_words)) in
      ⊎_elim (λ q. omega (arith, ap (λ (k : ℕ). get_or words k 0) q)) (λ k. omega (arith, f, g, a.rising (i + 1) (j + 1) (omega arith) (omega arith) (omega (arith, has_words)))) (eq-or-lt_of_le h)

  pub entry_missing : (r : Result ℕ ℕ) → Search r → result_ok r ≡ None → entry_of families word ≡ None
  unfolding words
  entry_missing (Ok i) s f = absurd (cc)
  entry_missing (Err p) s f =
      let t = searched words word (Err p) s rise in
      entry_none families word (λ i h k has.
      let q : i - 1 + 1 ≡ i = omega arith in
      let at : get_or words (i - 1) 0 ≡ word = at_place (i - 1) (omega arith) ∙ ap (first_at families) q ∙ has in
      grind (arith, t.1 (i - 1), t.2 (i - 1), at, has_words))

  pub entry_found : (r : Result ℕ ℕ) → Search r → (i : ℕ) → result_ok r ≡ Some i → entry_of families word ≡ Some (i + 1)
  unfolding words
  entry_found (Ok j) s i f =
      let q : j ≡ i = cc in
      let t = searched words word (Ok j) s rise in
      entry_at families word a.rising (j + 1) (omega arith) (omega (arith, t.0, has_words)) (sym (at_place j (omega (arith, t.0, has_words))) ∙ t.1) ∙ ap (λ (k : ℕ). Some (k + 1)) q
  entry_found (Err p) s i f = absurd (cc)

  pub family_missing : (r : Result ℕ ℕ) → Search r → result_ok r ≡ None → family_of families word ≡ None
  unfolding family_of
  family_missing r s f = ap (option_map (second_at families)) (entry_missing r s f)

  pub family_found : (r : Result ℕ ℕ) → Search r → (i : ℕ) → result_ok r ≡ Some i → family_of families word ≡ Some (get_or families (m + 1 + i) 0)
  unfolding family_of
  family_found r s i f =
      let place : size families + (i + 1) ≡ m + 1 + i = omega (arith, e) in
      ap (option_map (second_at families)) (entry_found r s i f) ∙ ap (λ (k : ℕ). Some (get_or families k 0)) place

-- ---- word_fits, by the two families

module _ (families : List ℕ) (token word : ℕ) where
  pub fits_equal : token ≡ word → word_fits families token word ≡ true
  unfolding word_fits
  fits_equal f = rw (eq-eqb token word f)

  same_told : (o p : Option ℕ) → is_some p ≡ true → option_eq eqb (o) p ≡ same_family o p
  same_told (Some f) (Some g) h = refl
  same_told None (Some g) h = refl
  same_told o None h = absurd (cc)

  none_told : (o p : Option ℕ) → is_some p ≡ false → false ≡ same_family o p
  none_told o (Some g) h = absurd (cc)
  none_told (Some f) None h = refl
  none_told None None h = refl

  module _ {family : Option ℕ} (e : family ≡ family_of families word) (other : token ≡ word → ⊥) where
    pub fits_by_family : {known : Option ℕ} → known ≡ family_of families token → true ≡ is_some family → option_eq eqb known family ≡ word_fits families token word
    unfolding word_fits
    fits_by_family f h = rw (ne_eqb token word other, f, e) (same_told (family_of families token) (family_of families word) (sym (rw e at h)))

    pub fits_none : is_some family ≡ false → false ≡ word_fits families token word
    unfolding word_fits
    fits_none h = rw (ne_eqb token word other) (none_told (family_of families token) (family_of families word) (rw e at h))
