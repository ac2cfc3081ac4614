-- The list of both occurs: with no find too many it is at least a, and else the and of that list with the not's matches, so that its sizes come from
-- the and's.
use Prim.Native.Nat.{ℕ, zero, suc, ◌+◌, ◌*◌, ◌≤◌, ◌<◌}
use native.Mathlib.Omega.{arith}
use native.Mathlib.Nat.{mul-le-mul, suc-mul, mul-add, mul_comm, mul_left_comm}
use mathlib.Core.Path.{◌≡◌, refl, sym, ap, ap₂, ◌∙◌, fun_ext}
use mathlib.Core.List.{List, [], ◌∷◌, ◌++◌, map, flat_map, append-nil, map-map}
use lib.ListN.{length, take, drop, length-append, length-map, length-drop}
use lib.Seq.{length-take-le}
use Rattle.model.specs.Limits.{max_matches, max_strings}
use Rattle.model.specs.Lists.{Every, choose, up_from, from_to}
use Rattle.model.specs.Matches.{Str, Match, strings_in, strings}
use Rattle.model.specs.Rules.{joined, and_list, joined_all, choices_of, at_least}
use Rattle.model.proofs.EveryLaws.{every_weaker, every_map, every-up_from}
use Rattle.model.proofs.ListsLaws.{flat_map-append, length-up_from}
use Rattle.model.proofs.RulesLaws.{strings-append, length-and, strings-and}
use Rattle.store.proofs.RowsLaws.{map-flat_map}
use Rattle.occurs.specs.Binomial.{binomial}
use Rattle.occurs.specs.Counts.{sum, choices_from, includes_from}
use Rattle.occurs.specs.Finds.{find}
use Rattle.occurs.specs.WithNot.{match_of, not_matches, not_strings, not_excludes, choice_with_not, choices_with_not, at_least_with_not}
use Rattle.occurs.proofs.BinomialLaws.{length-choose, lengths_choose, choose-map}

-- ---- not_matches, not_strings, not_excludes

pub not_matches_all : (excess m : ℕ) → (excess ≡ 0 → ⊥) → m ≡ not_matches excess m
not_matches_all zero m h = absurd (h refl)
not_matches_all (suc excess) m h = refl

not_matches-few : (excess m : ℕ) → m ≤ max_matches → not_matches excess m ≤ max_matches
not_matches-few zero m h = omega arith
not_matches-few (suc excess) m h = h

-- the not has a match where no more finds are too many than there are
pub not_matches-some : (excess m : ℕ) → excess ≤ m → 1 ≤ not_matches excess m
not_matches-some zero m h = omega arith
not_matches-some (suc excess) m h = omega arith

pub not_strings-both : (excess m : ℕ) → (excess ≡ 0 → ⊥) → (excess ≡ 1 → ⊥) → m + 1 ≡ not_strings excess m
not_strings-both zero m h k = absurd (h refl)
not_strings-both (suc zero) m h k = absurd (k refl)
not_strings-both (suc (suc excess)) m h k = refl

pub not_strings-few : (excess m : ℕ) → not_strings excess m ≤ m + 1
not_strings-few zero m = omega arith
not_strings-few (suc zero) m = omega arith
not_strings-few (suc (suc excess)) m = omega arith

pub length-not_excludes : (excess : ℕ) (ss : List Str) (d : ℕ) → d < not_matches excess (length ss)
    → length (not_excludes excess ss d) ≡ not_strings excess (length ss)
unfolding not_excludes
length-not_excludes zero ss d h = refl
length-not_excludes (suc zero) ss d h = length-take-le 1 (drop d ss) (omega (arith, length-drop d ss))
length-not_excludes (suc (suc excess)) ss d h =
    omega (arith, length-append ss (take 1 (drop d ss)), length-take-le 1 (drop d ss) (omega (arith, length-drop d ss)))

-- ---- no find too many: at least a

pub choices-alone : (ss : List Str) (k : ℕ) → choices_with_not 0 ss k ≡ map (λ is. match_of is []) (choose k ss)
unfolding choices_with_not choice_with_not up_from not_excludes
choices-alone ss k = sym (map-flat_map (λ is. match_of is []) (choose k ss))

joined-finds : (ss : List Str) → joined_all (map find ss) ≡ match_of ss []
unfolding joined_all
joined-finds [] = refl
joined-finds (s ∷ ss) = ap (joined (find s)) (joined-finds ss)

choices-finds : (ss : List Str) (k : ℕ) → choices_of (map find ss) k ≡ choices_with_not 0 ss k
unfolding choices_of
choices-finds ss k =
    ap (map joined_all) (choose-map find k ss) ∙ map-map joined_all (map find) (choose k ss)
    ∙ ap (λ f. map f (choose k ss)) (fun_ext joined-finds)
    ∙ sym (choices-alone ss k)

pub at_least-finds : (a : ℕ) (ss : List Str) → at_least a (map find ss) ≡ at_least_with_not a 0 ss
unfolding at_least at_least_with_not
at_least-finds a ss =
    ap (λ n. flat_map (choices_of (map find ss)) (from_to a n)) (length-map ss find)
    ∙ ap (λ f. flat_map f (from_to a (length ss))) (fun_ext (choices-finds ss))

-- ---- at least a, and the not

-- the not's matches: the choice of no find, joined with each of them
abbrev pub nots : ℕ → List Str → List Match
nots excess ss = choice_with_not excess ss []

flat_map-flat_map : {A B C : Type 0} (f : B → List C) (g : A → List B) (xs : List A) → flat_map f (flat_map g xs) ≡ flat_map (λ x. flat_map f (g x)) xs
unfolding flat_map
flat_map-flat_map f g [] = refl
flat_map-flat_map f g (x ∷ xs) = flat_map-append f (g x) (flat_map g xs) ∙ ap (λ ys. flat_map f (g x) ++ ys) (flat_map-flat_map f g xs)

module _ (excess : ℕ) (ss : List Str) where
  choice-and : (is : List Str) → and_list (choice_with_not 0 ss is) (nots excess ss) ≡ choice_with_not excess ss is
  unfolding and_list flat_map choice_with_not up_from not_excludes
  choice-and is =
      append-nil (map (joined (match_of is [])) (nots excess ss))
      ∙ map-map (joined (match_of is [])) (λ d. match_of [] (not_excludes excess ss d)) (up_from 0 (not_matches excess (length ss)))
      ∙ ap (λ js. map (λ d. match_of js (not_excludes excess ss d)) (up_from 0 (not_matches excess (length ss)))) (append-nil is)

  choices-and : (k : ℕ) → and_list (choices_with_not 0 ss k) (nots excess ss) ≡ choices_with_not excess ss k
  unfolding and_list choices_with_not
  choices-and k =
      flat_map-flat_map (λ l. map (joined l) (nots excess ss)) (choice_with_not 0 ss) (choose k ss)
      ∙ ap (λ f. flat_map f (choose k ss)) (fun_ext choice-and)

  pub at_least-and : (a : ℕ) → and_list (at_least_with_not a 0 ss) (nots excess ss) ≡ at_least_with_not a excess ss
  unfolding and_list at_least_with_not
  at_least-and a =
      flat_map-flat_map (λ l. map (joined l) (nots excess ss)) (choices_with_not 0 ss) (from_to a (length ss))
      ∙ ap (λ f. flat_map f (from_to a (length ss))) (fun_ext choices-and)

-- ---- sizes

-- matches of the same number of strings
strings-same : {A : Type 0} (f : A → Match) (n : ℕ) (xs : List A) → Every (λ x. strings_in (f x) ≡ n) xs → strings (map f xs) ≡ length xs * n
unfolding Every strings
strings-same f n [] a = omega arith
strings-same f n (x ∷ xs) a = omega (arith, a.0, strings-same f n xs a.1, suc-mul (length xs) n)

module _ (excess : ℕ) (ss : List Str) where
  length_nots : length (nots excess ss) ≡ not_matches excess (length ss)
  unfolding choice_with_not
  length_nots =
      let n = not_matches excess (length ss) in
      length-map (up_from 0 n) (λ d. match_of [] (not_excludes excess ss d)) ∙ length-up_from 0 n

  strings_nots : strings (nots excess ss) ≡ not_matches excess (length ss) * not_strings excess (length ss)
  unfolding choice_with_not
  strings_nots =
      let n = not_matches excess (length ss) in
      strings-same (λ d. match_of [] (not_excludes excess ss d)) (not_strings excess (length ss)) (up_from 0 n)
      (every_weaker _ _ (λ d h. omega (arith, length-not_excludes excess ss d (omega (arith, h.1)))) (up_from 0 n) (every-up_from 0 n))
      ∙ ap (λ j. j * not_strings excess (length ss)) (length-up_from 0 n)

module _ (ss : List Str) where
  pub length-choices : (k : ℕ) → length (choices_with_not 0 ss k) ≡ binomial (length ss) k
  length-choices k = ap length (choices-alone ss k) ∙ length-map (choose k ss) (λ is. match_of is []) ∙ length-choose k ss

  pub lengths_choices : (k : ℕ) → Every (λ m. strings_in m ≡ k) (choices_with_not 0 ss k)
  lengths_choices k = rw (choices-alone ss k) (every_map _ _ (λ is. match_of is []) (λ is h. omega arith) (choose k ss) (lengths_choose k ss))

  strings-choices : (k : ℕ) → strings (choices_with_not 0 ss k) ≡ k * binomial (length ss) k
  strings-choices k =
      ap strings (choices-alone ss k)
      ∙ strings-same (λ is. match_of is []) k (choose k ss) (every_weaker _ _ (λ is h. omega arith) (choose k ss) (lengths_choose k ss))
      ∙ ap (λ n. n * k) (length-choose k ss) ∙ mul_comm (binomial (length ss) k) k

  -- a sum over the sizes
  length-sum : (ks : List ℕ) → length (flat_map (choices_with_not 0 ss) ks) ≡ sum (binomial (length ss)) ks
  unfolding flat_map sum
  length-sum [] = refl
  length-sum (k ∷ ks) = omega (arith, length-append (choices_with_not 0 ss k) (flat_map (choices_with_not 0 ss) ks), length-choices k, length-sum ks)

  strings-sum : (ks : List ℕ) → strings (flat_map (choices_with_not 0 ss) ks) ≡ sum (λ k. k * binomial (length ss) k) ks
  unfolding flat_map sum strings
  strings-sum [] = refl
  strings-sum (k ∷ ks) = omega (arith, strings-append (choices_with_not 0 ss k) (flat_map (choices_with_not 0 ss) ks), strings-choices k, strings-sum ks)

  pub length-alone : (a : ℕ) → length (at_least_with_not a 0 ss) ≡ choices_from (length ss) a
  unfolding at_least_with_not choices_from
  length-alone a = length-sum (from_to a (length ss))

  strings-alone : (a : ℕ) → strings (at_least_with_not a 0 ss) ≡ includes_from (length ss) a
  unfolding at_least_with_not includes_from
  strings-alone a = strings-sum (from_to a (length ss))

module _ (a excess : ℕ) (ss : List Str) where
  pub length_with_not : length (at_least_with_not a excess ss) ≡ not_matches excess (length ss) * choices_from (length ss) a
  length_with_not =
      ap length (sym (at_least-and excess ss a)) ∙ length-and (at_least_with_not a 0 ss) (nots excess ss)
      ∙ ap₂ ◌*◌ (length-alone ss a) (length_nots excess ss)
      ∙ mul_comm (choices_from (length ss) a) (not_matches excess (length ss))

  pub strings_with_not : strings (at_least_with_not a excess ss)
      ≡ not_matches excess (length ss) * (includes_from (length ss) a + choices_from (length ss) a * not_strings excess (length ss))
  strings_with_not =
      let n = not_matches excess (length ss) in
      let C = choices_from (length ss) a in
      let I = includes_from (length ss) a in
      ap strings (sym (at_least-and excess ss a)) ∙ strings-and (at_least_with_not a 0 ss) (nots excess ss)
      ∙ ap₂ ◌+◌ (ap₂ ◌*◌ (length_nots excess ss) (strings-alone ss a))
      (ap₂ ◌*◌ (length-alone ss a) (strings_nots excess ss) ∙ mul_left_comm C n (not_strings excess (length ss)))
      ∙ sym (mul-add n I (C * not_strings excess (length ss)))

-- the products that make these sizes, of so many choices with so many includes, are far below the largest u32
module _ {m choices includes : ℕ} (few : (m ≤ max_matches) × (choices ≤ max_matches) × (includes ≤ max_strings)) (excess : ℕ) {n : ℕ}
    (n_is : n ≡ not_matches excess m) where
  pub matches_fit : n * choices ≤ 65536
  matches_fit = mul-le-mul {n₂ = 256} {m₂ = 256} (omega (arith, not_matches-few excess m few.0)) few.1

  module _ {each : ℕ} (each-is : each ≡ not_strings excess m) where
    pub strings_fit : (includes + choices * each ≤ 66304) × (n * (includes + choices * each) ≤ 16973824)
    strings_fit =
        let excludes : choices * each ≤ 256 * 257 = mul-le-mul {n₂ = 256} {m₂ = 257} few.1 (omega (arith, not_strings-few excess m)) in
        let sum : includes + choices * each ≤ 66304 = omega arith in
        (sum, mul-le-mul {n₂ = 256} {m₂ = 66304} (omega (arith, not_matches-few excess m few.0)) sum)
