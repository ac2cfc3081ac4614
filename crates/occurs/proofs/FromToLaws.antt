-- From a to b goes by how many finds are too many. With none, one, or both of two, it is at least a with the not that specs/WithNot.antt says. With
-- any other excess it is too long: of four finds or more the not alone has over 256 matches, and of three finds the list has over 512 strings.
use Prim.Native.Nat.{ℕ, zero, suc, ◌+◌, ◌-◌, ◌*◌, ◌≤◌, ◌<◌}
use native.Mathlib.Omega.{arith}
use native.Mathlib.Nat.{mul-le-mul, mul-one, one-le-mul, mul_assoc, eq-or-lt_of_le}
use mathlib.Core.Path.{◌≡◌, refl, sym, ap, ap₂, ◌∙◌}
use mathlib.Core.Bool.{true}
use mathlib.Core.List.{List, [], ◌∷◌, ◌++◌, map, flat_map, append-nil}
use mathlib.Core.Logic.{inl, ⊎_elim}
use lib.ListN.{length, take, drop}
use lib.Seq.{drop-drop}
use Rattle.model.specs.Choices.{choices}
use Rattle.model.specs.Limits.{max_matches}
use Rattle.model.specs.Lists.{Every, choose, up_from, from_to}
use Rattle.model.specs.Matches.{Str, Match, strings_in, strings, too_long}
use Rattle.model.specs.Rules.{and_list, no_strings, with_exclude, not_list, joined_all, choices_of, at_least, from_to_times}
use Rattle.model.proofs.EveryLaws.{every_weaker}
use Rattle.model.proofs.ListsLaws.{range_cons, range_empty}
use Rattle.model.proofs.RulesLaws.{length-and, length-not}
use Rattle.store.proofs.SlotsLaws.{long}
use Rattle.occurs.specs.Binomial.{binomial}
use Rattle.occurs.specs.Finds.{find}
use Rattle.occurs.specs.WithNot.{match_of, not_excludes, choice_with_not, choices_with_not, at_least_with_not}
use Rattle.occurs.proofs.BinomialLaws.{binomial-some, binomial_almost, choose_all}
use Rattle.occurs.proofs.CountsLaws.{choices-more}
use Rattle.occurs.proofs.WithNotLaws.{choices-alone, at_least-finds, nots, at_least-and, length-choices, lengths_choices, length-alone}

-- the not decides
from_to_lem : (a b excess : ℕ) (ss : List Str) → not_list (at_least (b + 1) (map find ss)) ≡ nots excess ss
    → from_to_times a b (map find ss) ≡ at_least_with_not a excess ss
unfolding from_to_times
from_to_lem a b excess ss e = ap₂ and_list (at_least-finds a ss) e ∙ at_least-and excess ss a

-- ---- no find too many

none_over : (a b : ℕ) (ss : List Str) → length ss ≤ b → from_to_times a b (map find ss) ≡ at_least_with_not a 0 ss
unfolding not_list up_from not_excludes choice_with_not at_least_with_not flat_map
none_over a b ss h =
    from_to_lem a b 0 ss (ap not_list (at_least-finds (b + 1) ss ∙ ap (flat_map (choices_with_not 0 ss)) (range_empty (b + 1) (length ss) (omega arith))))

-- ---- one

-- of as many finds as there are, one choice
choices_all : (ss : List Str) → at_least_with_not (length ss) 0 ss ≡ match_of ss [] ∷ []
unfolding at_least_with_not flat_map
choices_all ss =
    let m = length ss in
    ap (flat_map (choices_with_not 0 ss)) (range_cons m m (omega arith) ∙ ap (λ ks. m ∷ ks) (range_empty (m + 1) m (omega arith)))
    ∙ append-nil (choices_with_not 0 ss (length ss)) ∙ choices-alone ss (length ss) ∙ ap (map (λ is. match_of is [])) (choose_all ss)

-- each find of a list by itself, from number d on
one_by_one : (all : List Str) (d : ℕ) (ss : List Str) → drop d all ≡ ss
    → map (λ j. match_of [] (take 1 (drop j all))) (up_from d (length ss)) ≡ flat_map (λ s. map (with_exclude s) (no_strings ∷ [])) ss
unfolding up_from flat_map
one_by_one all d [] e = refl
one_by_one all d (s ∷ ss) e = ap₂ (λ xs ms. match_of [] (take 1 xs) ∷ ms) e (one_by_one all (d + 1) ss (sym (drop-drop 1 d all) ∙ ap (drop 1) e))

one-over : (a b : ℕ) (ss : List Str) → length ss ≡ b + 1 → from_to_times a b (map find ss) ≡ at_least_with_not a 1 ss
unfolding not_list not_excludes choice_with_not flat_map
one-over a b ss h =
    from_to_lem a b 1 ss
    (ap not_list (at_least-finds (b + 1) ss ∙ ap (λ k. at_least_with_not k 0 ss) (sym h) ∙ choices_all ss)
    ∙ append-nil (flat_map (λ s. map (with_exclude s) (no_strings ∷ [])) ss) ∙ sym (one_by_one ss 0 ss refl))

-- ---- both of two

both-over : (a excess : ℕ) (ss : List Str) → length ss ≡ 2 → from_to_times a 0 (map find ss) ≡ at_least_with_not a (suc (suc excess)) ss
unfolding not_list not_excludes choice_with_not at_least choices_of choose joined_all from_to up_from flat_map
both-over a excess [] h = absurd (omega arith)
both-over a excess (s ∷ []) h = absurd (omega arith)
both-over a excess (s ∷ t ∷ []) h = from_to_lem a 0 (suc (suc excess)) (s ∷ t ∷ []) refl
both-over a excess (s ∷ t ∷ u ∷ ss) h = absurd (omega arith)

pub from_to-is : (a b excess : ℕ) (ss : List Str) → excess ≡ length ss - b → (2 ≤ excess → length ss ≡ 2)
    → from_to_times a b (map find ss) ≡ at_least_with_not a excess ss
from_to-is a b zero ss e h = none_over a b ss (omega arith)
from_to-is a b (suc zero) ss e h = one-over a b ss (omega arith)
from_to-is a b (suc (suc excess)) ss e h =
    let two : length ss ≡ 2 = h (omega arith) in
    let none : b ≡ 0 = omega arith in
    ap (λ k. from_to_times a k (map find ss)) none ∙ both-over a excess ss two

-- ---- two or three of three

three_long : (a b : ℕ) (ss : List Str) → length ss ≡ 3 → a ≤ b → b ≤ 1 → too_long (from_to_times a b (map find ss)) ≡ true
unfolding from_to_times and_list not_list at_least choices_of choose joined_all from_to up_from flat_map strings
three_long a b [] h k l = absurd (omega arith)
three_long a b (s ∷ []) h k l = absurd (omega arith)
three_long a b (s ∷ t ∷ []) h k l = absurd (omega arith)
three_long zero zero (s ∷ t ∷ u ∷ []) h k l = refl
three_long zero (suc zero) (s ∷ t ∷ u ∷ []) h k l = refl
three_long (suc zero) (suc zero) (s ∷ t ∷ u ∷ []) h k l = refl
three_long (suc a) zero (s ∷ t ∷ u ∷ []) h k l = absurd (omega arith)
three_long (suc (suc a)) (suc zero) (s ∷ t ∷ u ∷ []) h k l = absurd (omega arith)
three_long a (suc (suc b)) (s ∷ t ∷ u ∷ []) h k l = absurd (omega arith)
three_long a b (s ∷ t ∷ u ∷ v ∷ ss) h k l = absurd (omega arith)

-- ---- two or more of four or more: the choices of all finds but one, and of all, have over 256 matches in their not

not-append : (xs ys : List Match) → choices (xs ++ ys) ≡ choices xs * choices ys
unfolding choices
not-append [] ys = omega arith
not-append (x ∷ xs) ys = ap (λ n. strings_in x * n) (not-append xs ys) ∙ sym (mul_assoc (strings_in x) (choices xs) (choices ys))

not_some : (xs : List Match) → Every (λ m. 1 ≤ strings_in m) xs → 1 ≤ choices xs
unfolding choices Every
not_some [] a = omega arith
not_some (x ∷ xs) a = one-le-mul a.0 (not_some xs a.1)

-- three strings or more in each of four matches or more
not_many : (xs : List Match) → 4 ≤ length xs → Every (λ m. 3 ≤ strings_in m) xs → 81 ≤ choices xs
unfolding choices Every
not_many [] h a = absurd (omega arith)
not_many (x ∷ []) h a = absurd (omega arith)
not_many (x ∷ y ∷ []) h a = absurd (omega arith)
not_many (x ∷ y ∷ z ∷ []) h a = absurd (omega arith)
not_many (x ∷ y ∷ z ∷ u ∷ xs) h a =
    let rest : 1 ≤ choices xs = not_some xs (every_weaker _ _ (λ m k. omega arith) xs a.1.1.1.1) in
    let four : 3 * 1 ≤ strings_in u * choices xs = mul-le-mul a.1.1.1.0 rest in
    let three : 3 * 3 ≤ strings_in z * (strings_in u * choices xs) = mul-le-mul {m₁ = 3} a.1.1.0 (omega arith) in
    let two : 3 * 9 ≤ strings_in y * (strings_in z * (strings_in u * choices xs)) = mul-le-mul {m₁ = 9} a.1.0 (omega arith) in
    let one : 3 * 27 ≤ strings_in x * (strings_in y * (strings_in z * (strings_in u * choices xs))) = mul-le-mul {m₁ = 27} a.0 (omega arith) in
    omega arith

module _ (ss : List Str) where
  -- those of c finds, and of more
  not_more : (c : ℕ) → c ≤ length ss → choices (at_least_with_not c 0 ss) ≡ choices (choices_with_not 0 ss c) * choices (at_least_with_not (c + 1) 0 ss)
  unfolding at_least_with_not flat_map
  not_more c h =
      ap (λ ks. choices (flat_map (choices_with_not 0 ss) ks)) (range_cons c (length ss) h)
      ∙ not-append (choices_with_not 0 ss c) (flat_map (choices_with_not 0 ss) (from_to (c + 1) (length ss)))

  -- from fewer finds on, no fewer
  not_grow : (d c : ℕ) → 1 ≤ c → c + d ≤ length ss → choices (at_least_with_not (c + d) 0 ss) ≤ choices (at_least_with_not c 0 ss)
  not_grow zero c h k = let e : c + 0 ≡ c = omega arith in rw e (omega arith)
  not_grow (suc d) c h k =
      let e : c + suc d ≡ c + 1 + d = omega arith in
      let these = choices_with_not 0 ss c in
      let more = at_least_with_not (c + 1) 0 ss in
      let some : 1 ≤ choices these = not_some these (every_weaker _ _ (λ m l. omega arith) these (lengths_choices ss c)) in
      let grow : 1 * choices more ≤ choices these * choices more = mul-le-mul some (omega arith) in
      rw e (omega (arith, not_more c (omega arith), not_grow d (c + 1) (omega arith) (omega arith)))

  -- all finds but one, and all finds
  not_last : (n : ℕ) → length ss ≡ suc n → 3 ≤ n → 324 ≤ choices (at_least_with_not n 0 ss)
  unfolding choices
  not_last n e h =
      let but_one = choices_with_not 0 ss n in
      let count : length but_one ≡ suc n = length-choices ss n ∙ ap (λ m. binomial m n) e ∙ binomial_almost n in
      let many : 81 ≤ choices but_one = not_many but_one (omega arith) (every_weaker _ _ (λ m l. omega arith) but_one (lengths_choices ss n)) in
      let m : n + 1 ≡ length ss = omega arith in
      let all : choices (at_least_with_not (n + 1) 0 ss) ≡ (length ss + 0) * 1 = ap choices (ap (λ k. at_least_with_not k 0 ss) m ∙ choices_all ss) in
      let four : 4 ≤ choices (at_least_with_not (n + 1) 0 ss) = omega (arith, mul-one (length ss + 0)) in
      let both : 81 * 4 ≤ choices but_one * choices (at_least_with_not (n + 1) 0 ss) = mul-le-mul many four in
      omega (arith, not_more n (omega arith))

  many_long : (a b : ℕ) → 4 ≤ length ss → b + 2 ≤ length ss → a ≤ b → max_matches < length (from_to_times a b (map find ss))
  unfolding from_to_times
  many_long a b h k l =
      let n = length ss - 1 in
      let at : b + 1 + (n - (b + 1)) ≡ n = omega arith in
      let most : 324 ≤ choices (at_least_with_not (b + 1) 0 ss) =
      omega (
        arith,
        not_last n (omega arith) (omega arith),
        ap (λ j. choices (at_least_with_not j 0 ss)) at,
        not_grow (n - (b + 1)) (b + 1) (omega arith) (omega arith),
      ) in
      let some : 1 ≤ length (at_least_with_not a 0 ss) =
      omega (arith, length-alone ss a, choices-more (length ss) a (omega arith), binomial-some (length ss) a (omega arith)) in
      let both : 1 * 324 ≤ length (at_least_with_not a 0 ss) * choices (at_least_with_not (b + 1) 0 ss) = mul-le-mul some most in
      omega (
        arith,
        length-and (at_least a (map find ss)) (not_list (at_least (b + 1) (map find ss))),
        ap₂ ◌*◌ (ap length (at_least-finds a ss)) (length-not (at_least (b + 1) (map find ss)) ∙ ap choices (at_least-finds (b + 1) ss)),
      )

  pub from_to-long : (a b : ℕ) → a ≤ b → b + 2 ≤ length ss → 3 ≤ length ss → too_long (from_to_times a b (map find ss)) ≡ true
  from_to-long a b h k l =
      ⊎_elim
      (λ three. three_long a b ss (sym three) h (omega arith))
      (λ more. long (from_to_times a b (map find ss)) (inl (many_long a b more k h)))
      (eq-or-lt_of_le l)
