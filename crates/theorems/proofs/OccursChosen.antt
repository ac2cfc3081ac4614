-- F-3. The choices with the first element come first and are those of the others with it; so by induction they are the sublists of their size, and two
-- differ first where the earlier goes on with a lower position. Sizes rise. A phrase's matches have no excludes, so there is a yes where there is a choice.
use Prim.Native.Nat.{ℕ, zero, suc, ◌+◌, ◌-◌, ◌≤◌, ◌<◌}
use native.Mathlib.Omega.{arith}
use mathlib.Core.Bool.{Bool, true, false, not, ◌&&◌, cond}
use mathlib.Core.List.Sublistᴰ
use mathlib.Core.List.{List, [], ◌∷◌, ◌++◌, map, flat_map, map-append, map-map, Sublistᴰ}
use mathlib.Core.Logic.{◌↔◌, inl, inr}
use mathlib.Core.Path.{◌≡◌, refl, sym, ap, ap₂, subst, ◌∙◌}
use lib.Dec.{leb}
use lib.ListN.{length}
use borrow.Author.Tests.{leb-true, le-leb, leb-false, lt-leb, not-true}
use Rattle.model.specs.AllMatches.{all_matches}
use Rattle.model.specs.Families.{Searched}
use Rattle.model.specs.Lists.{Every, keep, choose, up_from, from_to}
use Rattle.model.specs.Matches.{Match, is_yes}
use Rattle.model.specs.Rules.{stand_from, found, phrase_list, joined_all, choices_of, at_least, from_to_times}
use Rattle.model.proofs.EveryLaws.{every_weaker, every_append, every_map, every-flat_map, every-keep, every-up_from, every-range}
use Rattle.model.proofs.ListsLaws.{length_sublist}
use Rattle.model.proofs.TestsLaws.{both_true, and-join}
use Rattle.model.proofs.YesLaws.{yes_at_least, yes_from_to, free_phrase}
use Rattle.theorems.specs.Demands.{Has, WithoutExcludes}
use Rattle.theorems.specs.Requests.{InOrder, Precedes, starts, Sooner, OccursChosen}
use Rattle.theorems.proofs.WordsLaws.{has_left, has_right, every-has, has-map, has-flat_map, has-range, yes_exists}

-- ---- every choice

abbrev Choice : {A : Type 0} → List A → ℕ → List A → Type 0
Choice xs k ys = Sublistᴰ ys xs × (length ys ≡ k)

module _ {A : Type 0} where
  choices_sublists : (k : ℕ) (xs : List A) → Every (Choice xs k) (choose k xs)
  unfolding Every choose
  choices_sublists zero xs = ((Sublistᴰ.nil-sublist xs, refl), tt)
  choices_sublists (suc k) [] = tt
  choices_sublists (suc k) (x ∷ xs) =
      every_append (Choice (x ∷ xs) (suc k)) (map (λ ys. x ∷ ys) (choose k xs)) (choose (suc k) xs)
      (every_map _ (Choice xs k) (λ ys. x ∷ ys) (λ ys c. (Sublistᴰ.cons-cons refl c.0, ap suc c.1)) (choose k xs) (choices_sublists k xs))
      (every_weaker (Choice xs (suc k)) _ (λ ys c. (Sublistᴰ.cons c.0, c.1)) (choose (suc k) xs) (choices_sublists (suc k) xs))

  sublist_chosen : {ys xs : List A} → Sublistᴰ ys xs → Has (λ zs. zs ≡ ys) (choose (length ys) xs)
  unfolding choose
  sublist_chosen Sublistᴰ.slnil = record { before = []; element = []; after = []; order = refl; this = refl }
  sublist_chosen (Sublistᴰ.cons {a = x} {l₁ = []} {l₂ = xs} d) = record { before = []; element = []; after = []; order = refl; this = refl }
  sublist_chosen (Sublistᴰ.cons {a = x} {l₁ = y ∷ ys} {l₂ = xs} d) = has_right (map (λ zs. x ∷ zs) (choose (length ys) xs)) (sublist_chosen d)
  sublist_chosen (Sublistᴰ.cons-cons {a = y} {b = x} {l₁ = ys} {l₂ = xs} e d) =
      has_left (choose (suc (length ys)) xs) (has-map (λ zs. x ∷ zs) (λ zs c. ap₂ (λ (i : A) (is : List A). i ∷ is) (sym e) c) (sublist_chosen d))

-- the match of some choice of a or more
abbrev Joined : List Match → ℕ → Match → Type 0
Joined ms a m = (chosen : List Match) × Sublistᴰ chosen ms × (a ≤ length chosen) × (m ≡ joined_all chosen)

module _ (a : ℕ) (ms : List Match) where
  at_least-joined : Every (Joined ms a) (at_least a ms)
  unfolding at_least choices_of
  at_least-joined =
      every-flat_map (Joined ms a) _ (choices_of ms)
      (λ k range. every_map (Joined ms a) (Choice ms k) joined_all (λ ys c. (ys, c.0, omega (arith, c.1), refl)) (choose k ms) (choices_sublists k ms))
      (from_to a (length ms)) (every-range a (length ms))

  joined-at_least : (m : Match) → Joined ms a m → Has (λ l. l ≡ m) (at_least a ms)
  unfolding at_least choices_of
  joined-at_least m j =
      has-flat_map (choices_of ms)
      (λ k e. subst (λ (i : ℕ). Has (λ l. l ≡ m) (choices_of ms i)) (sym e) (has-map joined_all (λ ys c. ap joined_all c ∙ sym j.3) (sublist_chosen j.1)))
      (has-range a (length ms) (length j.0) j.2 (length_sublist j.1))

  every_choice : (m : Match) → Has (λ l. l ≡ m) (at_least a ms) ↔ Joined ms a m
  every_choice m = (λ h. subst (Joined ms a) h.this (every-has (Joined ms a) (at_least a ms) at_least-joined h), joined-at_least m)

-- ---- their order

module _ {A : Type 0} (R : A → A → Type 0) where
  in_order-append : (xs ys : List A) → InOrder R xs → InOrder R ys → Every (λ x. Every (R x) ys) xs → InOrder R (xs ++ ys)
  unfolding InOrder Every
  in_order-append [] ys a b c = b
  in_order-append (x ∷ xs) ys a b c = (every_append (R x) xs ys a.0 c.0, in_order-append xs ys a.1 b c.1)

  in_order-keep : (p : A → Bool) (xs : List A) → InOrder R xs → InOrder R (keep p xs)
  unfolding InOrder Every keep
  in_order-keep p [] a = tt
  in_order-keep p (x ∷ xs) a = at (p x) (in_order-keep p xs a.1)
    where
      at : (b : Bool) → InOrder R (keep p xs) → InOrder R (cond b (x ∷ keep p xs) (keep p xs))
      at true later = (every-keep (R x) p xs a.0, later)
      at false later = later

-- what f makes of elements that have P
module _ {A B : Type 0} (P : A → Type 0) (R : A → A → Type 0) (S : B → B → Type 0) (f : A → B) (g : (x y : A) → P x → P y → R x y → S (f x) (f y)) where
  every-later : (x : A) → P x → (xs : List A) → Every P xs → Every (R x) xs → Every (S (f x)) (map f xs)
  unfolding Every
  every-later x p [] a b = tt
  every-later x p (y ∷ xs) a b = (g x y p a.0 b.0, every-later x p xs a.1 b.1)

  in_order-map : (xs : List A) → Every P xs → InOrder R xs → InOrder S (map f xs)
  unfolding InOrder Every
  in_order-map [] a b = tt
  in_order-map (x ∷ xs) a b = (every-later x a.0 xs a.1 b.0, in_order-map xs a.1 b.1)

precedes_after : (x : ℕ) (ys zs : List ℕ) → Precedes ys zs → Precedes (x ∷ ys) (x ∷ zs)
precedes_after x ys zs p =
    record {
      same = x ∷ p.same;
      lower = p.lower;
      higher = p.higher;
      after_lower = p.after_lower;
      after_higher = p.after_higher;
      first_is = ap (λ l. x ∷ l) p.first_is;
      second_is = ap (λ l. x ∷ l) p.second_is;
      differ = p.differ;
    }

-- a choice that begins above x comes after every choice that begins with x
above : (x : ℕ) (k : ℕ) (xs : List ℕ) → Every (λ z. x < z) xs → Every (λ zs. (ys : List ℕ) → Precedes (x ∷ ys) zs) (choose (suc k) xs)
unfolding Every choose
above x k [] a = tt
above x k (z ∷ xs) a =
    every_append _ (map (λ zs. z ∷ zs) (choose k xs)) (choose (suc k) xs)
    (every_map _ (Choice xs k) (λ zs. z ∷ zs)
    (λ zs c ys. record { same = []; lower = x; higher = z; after_lower = ys; after_higher = zs; first_is = refl; second_is = refl; differ = a.0 }) (choose k xs) (choices_sublists k xs))
    (above x k xs a.1)

choices-in_order : (k : ℕ) (xs : List ℕ) → InOrder ◌<◌ xs → InOrder Precedes (choose k xs)
unfolding InOrder Every choose
choices-in_order zero xs a = (tt, tt)
choices-in_order (suc k) [] a = tt
choices-in_order (suc k) (x ∷ xs) a =
    in_order-append Precedes (map (λ ys. x ∷ ys) (choose k xs)) (choose (suc k) xs)
    (in_order-map (Choice xs k) Precedes Precedes (λ ys. x ∷ ys) (λ ys zs p q. precedes_after x ys zs) (choose k xs) (choices_sublists k xs) (choices-in_order k xs a.1))
    (choices-in_order (suc k) xs a.1)
    (every_map _ (Choice xs k) (λ ys. x ∷ ys) (λ ys c. every_weaker _ _ (λ zs p. p ys) (choose (suc k) xs) (above x k xs a.0)) (choose k xs) (choices_sublists k xs))

-- ---- choices of matches

choose-map : {A B : Type 0} (f : A → B) (k : ℕ) (xs : List A) → choose k (map f xs) ≡ map (map f) (choose k xs)
unfolding choose
choose-map f zero xs = refl
choose-map f (suc k) [] = refl
choose-map f (suc k) (x ∷ xs) =
    ap₂ ◌++◌ (ap (map (λ ys. f x ∷ ys)) (choose-map f k xs) ∙ out (choose k xs)) (choose-map f (suc k) xs)
    ∙ sym (map-append (map f) (map (λ ys. x ∷ ys) (choose k xs)) (choose (suc k) xs))
  where
    out : (ls : List (List _)) → map (λ ys. f x ∷ ys) (map (map f) ls) ≡ map (map f) (map (λ ys. x ∷ ys) ls)
    out [] = refl
    out (l ∷ ls) = ap (λ (ms : List (List _)). (f x ∷ map f l) ∷ ms) (out ls)

-- ---- the order of an occurs' matches: those of one size by their positions, and sizes rise

abbrev Sized : ℕ → Match → Type 0
Sized k m = length m.includes ≡ k

in_order-sizes : (F : ℕ → List Match) → ((k : ℕ) → InOrder Sooner (F k)) → ((k : ℕ) → Every (Sized k) (F k)) → (n a : ℕ) → InOrder Sooner (flat_map F (up_from a n))
unfolding flat_map up_from InOrder
in_order-sizes F o z zero a = tt
in_order-sizes F o z (suc n) a =
    let larger = every-flat_map (λ m. a < length m.includes) _ F (λ k r. every_weaker (Sized k) _ (λ m e. omega arith) (F k) (z k)) (up_from (a + 1) n) (every-up_from (a + 1) n) in
    in_order-append Sooner (F a) (flat_map F (up_from (a + 1) n)) (o a) (in_order-sizes F o z n (a + 1))
    (every_weaker (Sized a) _ (λ l e. every_weaker _ (Sooner l) (λ m h. inl (omega arith)) (flat_map F (up_from (a + 1) n)) larger) (F a) (z a))

rising : (n a : ℕ) → InOrder ◌<◌ (up_from a n)
unfolding InOrder up_from
rising zero a = tt
rising (suc n) a = (every_weaker _ _ (λ p h. omega arith) (up_from (a + 1) n) (every-up_from (a + 1) n), rising n (a + 1))

module _ (s : Searched) (rank : ℕ) (words : List ℕ) where
  -- where the phrase is found, and the match of a choice of these places
  abbrev places : List ℕ
  places = keep (stand_from s words) (from_to 1 s.section.tokens)

  abbrev match : List ℕ → Match
  match ps = joined_all (map (found rank (length words)) ps)

  places_rise : InOrder ◌<◌ places
  unfolding from_to
  places_rise = in_order-keep ◌<◌ (stand_from s words) (from_to 1 s.section.tokens) (rising (s.section.tokens + 1 - 1) 1)

  starts_match : (ps : List ℕ) → starts (match ps) ≡ ps
  unfolding joined_all
  starts_match [] = refl
  starts_match (p ∷ ps) = ap (λ (qs : List ℕ). p ∷ qs) (starts_match ps)

  size_match : (ps : List ℕ) → length (match ps).includes ≡ length ps
  unfolding joined_all
  size_match [] = refl
  size_match (p ∷ ps) = ap suc (size_match ps)

  choices-are : (k : ℕ) → choices_of (phrase_list s rank words) k ≡ map match (choose k places)
  unfolding phrase_list choices_of
  choices-are k = ap (map joined_all) (choose-map (found rank (length words)) k places) ∙ map-map joined_all (map (found rank (length words))) (choose k places)

  choices-sized : (k : ℕ) → Every (Sized k) (choices_of (phrase_list s rank words) k)
  choices-sized k =
      subst (Every (Sized k)) (sym (choices-are k)) (every_map (Sized k) (Choice places k) match (λ ps c. size_match ps ∙ c.1) (choose k places) (choices_sublists k places))

  sooner : (k : ℕ) (ps qs : List ℕ) → Choice places k ps → Choice places k qs → Precedes ps qs → Sooner (match ps) (match qs)
  sooner k ps qs c d p = inr (size_match ps ∙ c.1 ∙ sym (size_match qs ∙ d.1), rw (starts_match ps, starts_match qs) p)

  choices_sooner : (k : ℕ) → InOrder Sooner (choices_of (phrase_list s rank words) k)
  choices_sooner k =
      subst (InOrder Sooner) (sym (choices-are k))
      (in_order-map (Choice places k) Precedes Sooner match (sooner k) (choose k places) (choices_sublists k places) (choices-in_order k places places_rise))

  at_least-in_order : (a : ℕ) → InOrder Sooner (at_least a (phrase_list s rank words))
  unfolding at_least from_to
  at_least-in_order a = in_order-sizes (choices_of (phrase_list s rank words)) choices_sooner choices-sized (length (phrase_list s rank words) + 1 - a) a

-- ---- how often a phrase is found

test_le : (a n : ℕ) → (leb a n ≡ true) ↔ (a ≤ n)
test_le a n = (leb-true a n, le-leb a n)

test_between : (a b n : ℕ) → ((leb a n && not (leb (b + 1) n)) ≡ true) ↔ ((a ≤ n) × (n ≤ b))
test_between a b n = (there, back)
  where
    there : (leb a n && not (leb (b + 1) n)) ≡ true → (a ≤ n) × (n ≤ b)
    there e =
        let both = both_true (leb a n) (not (leb (b + 1) n)) e in
        (leb-true a n both.0, omega (arith, leb-false (b + 1) n (not-true _ both.1)))

    back : (a ≤ n) × (n ≤ b) → (leb a n && not (leb (b + 1) n)) ≡ true
    back h = and-join (le-leb a n h.0) (ap not (lt-leb (b + 1) n (omega arith)))

-- a yes is told by a test
yes_when : (ms : List Match) (b : Bool) {P : Type 0} → is_yes ms ≡ b → (b ≡ true) ↔ P → Has WithoutExcludes ms ↔ P
yes_when ms b e t = (λ h. t.0 (sym e ∙ (yes_exists ms).1 h), λ p. (yes_exists ms).0 (e ∙ t.1 p))

pub occurs-chosen : OccursChosen
unfolding all_matches
occurs-chosen s rank words =
    let ms = phrase_list s rank words in
    let free = free_phrase s rank words in
    record {
      every_choice = λ a m. every_choice a ms m;
      in_order = at_least-in_order s rank words;
      at_least_yes = λ a. yes_when (at_least a ms) _ (yes_at_least a ms free) (test_le a (length ms));
      from_to_yes = λ a b. yes_when (from_to_times a b ms) _ (yes_from_to a b ms free) (test_between a b (length ms));
    }
