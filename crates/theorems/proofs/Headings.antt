-- The last nonzero sentence before a position, where there is one, stands somewhere (`last_found`, `last_is`); before F-5 a fault of a sentence was any
-- that is one now, and more. What same and different sentence keep has passed their tests for nonzero sentences.
use Prim.Native.Nat.{ℕ, zero, suc, ◌+◌, ◌-◌, ◌≤◌, ◌<◌}
use native.Mathlib.Omega.{arith}
use mathlib.Core.Path.{◌≡◌, refl, sym, ap, ◌∙◌}
use mathlib.Core.Bool.{Bool, true, false, not, ◌&&◌, ◌||◌, cond, xor, or-false}
use mathlib.Core.List.{List, [], ◌∷◌, flat_map}
use mathlib.Core.Logic.{◌↔◌, ◌⊎◌, inl, inr, ⊎_elim}
use Rattle.std.specs.Prelude.{Some, None}
use lib.Dec.{leb, ltb, eqb}
use lib.ListN.{length}
use borrow.Author.Tests.{eqb-true, ne_eqb, ltb-true, lt-ltb, not-true}
use Rattle.model.specs.declared.Filter.TheVariants.{SameSentence, DifferentSentence}
use Rattle.model.specs.Accepted.{NonzeroNeverFall, LastNonzeroBefore, NotReported, ReportedOrNot}
use Rattle.model.specs.AllMatches.{filter_list}
use Rattle.model.specs.AllStrings.{AllMatch, AllList}
use Rattle.model.specs.Checks.{breaks_order, last_nonzero, falls_below, faulty_at, faulty_position}
use Rattle.model.specs.Lists.{Every, all_of, keep, all_pairs, first, up_from, from_to}
use Rattle.model.specs.Matches.{Str, Match}
use Rattle.model.specs.Rules.{Keeping, kept_if, kept_match, kept, in_unit, unit_for, unit_range, in_unit_for, same, units_nonzero, units_apart, different}
use Rattle.model.specs.Section.{Section, size, sentence_at, paragraph_at}
use Rattle.model.proofs.ChecksLaws.{last_some, last_found, last_is, reported, faulty_position-none}
use Rattle.model.proofs.EveryLaws.{every_append}
use Rattle.model.proofs.ListsLaws.{first-range-none}
use Rattle.model.proofs.TestsLaws.{false-true, both_true, both_false, positive}
use Rattle.theorems.specs.Requests.{SentenceFalls, ParagraphBreaks, faulty_before, AllNonzero, HeadingsOf, SomeZeroed, InSentences, Headings}
use Rattle.theorems.proofs.WordsLaws.{or_exactly, first_exactly}

-- ---- the tests, in words

below_exactly : (unit : ℕ → ℕ) (p : ℕ)
    → (falls_below (last_nonzero unit (p - 1)) (unit p) ≡ true) ↔ ((1 ≤ unit p) × ((q : ℕ) × LastNonzeroBefore unit p q × (unit p < unit q)))
unfolding last_nonzero
below_exactly unit zero =
    (λ e. absurd (omega (arith, ltb-true (unit 0) 0 (both_true (not (eqb (unit 0) 0)) (ltb (unit 0) 0) e).1)), λ w. absurd (omega (arith, w.1.1.before)))
below_exactly unit (suc k) = (there, back)
  where
    e : suc k - 1 ≡ k
    e = omega arith

    there : falls_below (last_nonzero unit (suc k - 1)) (unit (suc k)) ≡ true → (1 ≤ unit (suc k)) × ((q : ℕ) × LastNonzeroBefore unit (suc k) q × (unit (suc k) < unit q))
    there t =
        let both = both_true (not (eqb (unit (suc k)) 0)) (ltb (unit (suc k)) (last_nonzero unit k)) (rw e at t) in
        let here = positive (unit (suc k)) (not-true (eqb (unit (suc k)) 0) both.0) in
        let less = ltb-true (unit (suc k)) (last_nonzero unit k) both.1 in
        ⊎_elim (λ z. absurd (omega (arith, z, less))) (λ w. (here, (w.0, w.1, omega (arith, w.2, less)))) (last_found unit k)

    back : (1 ≤ unit (suc k)) × ((q : ℕ) × LastNonzeroBefore unit (suc k) q × (unit (suc k) < unit q)) → falls_below (last_nonzero unit (suc k - 1)) (unit (suc k)) ≡ true
    back w =
        let less : unit (suc k) < last_nonzero unit k = omega (arith, last_is unit k w.1.0 w.1.1, w.1.2) in
        rw (e, ne_eqb (unit (suc k)) 0 (λ z. omega (arith, z, w.0)), lt-ltb (unit (suc k)) (last_nonzero unit k) less)

one-zero : (here before : ℕ) → (xor (eqb here 0) (eqb before 0) ≡ true) ↔ (((here ≡ 0) × (1 ≤ before)) ⊎ ((1 ≤ here) × (before ≡ 0)))
unfolding xor
one-zero zero zero = (λ e. false-true e, ⊎_elim (λ w. absurd (omega (arith, w.1))) (λ w. absurd (omega (arith, w.0))))
one-zero zero (suc b) = (λ e. inl (refl, omega arith), λ w. rw (ne_eqb (suc b) 0 (λ z. omega (arith, z))))
one-zero (suc h) zero = (λ e. inr (omega arith, refl), λ w. rw (ne_eqb (suc h) 0 (λ z. omega (arith, z))))
one-zero (suc h) (suc b) = (
  λ e. false-true (rw (ne_eqb (suc h) 0 (λ z. omega (arith, z)), ne_eqb (suc b) 0 (λ z. omega (arith, z))) at e),
  ⊎_elim (λ w. absurd (omega (arith, w.0))) (λ w. absurd (omega (arith, w.1))),
)

breaks_exactly : (before here : ℕ)
    → (breaks_order before here ≡ true) ↔ ((here < before) ⊎ ((here ≡ 0) × (1 ≤ before)) ⊎ ((1 ≤ here) × (before ≡ 0)))
breaks_exactly before here = or_exactly (ltb here before) (xor (eqb here 0) (eqb before 0)) (ltb-true here before, lt-ltb here before) (one-zero here before)

faulty_exactly : (section : List ℕ) (p : ℕ) → (faulty_at section p ≡ true) ↔ (SentenceFalls section p ⊎ ParagraphBreaks section p)
unfolding faulty_at
faulty_exactly section p =
    or_exactly (falls_below (last_nonzero (sentence_at section) (p - 1)) (sentence_at section p)) (breaks_order (paragraph_at section (p - 1)) (paragraph_at section p))
    (below_exactly (sentence_at section) p) (breaks_exactly (paragraph_at section (p - 1)) (paragraph_at section p))

-- ---- refusal 2 before F-5

reported_never : (unit : ℕ → ℕ) (n : ℕ) → ReportedOrNot unit n → NonzeroNeverFall unit n
reported_never unit n (inl zeros) p q h k l x y = absurd (omega (arith, x, zeros p h (omega arith)))
reported_never unit n (inr r) p q h k l x y = r.never_falling p q h k l

accepted_still : (section : List ℕ) → faulty_before section ≡ None → faulty_position section ≡ None
accepted_still section e =
    let n = size section in
    let in_order : (p : ℕ) → 2 ≤ p → p ≤ n
    → (breaks_order (sentence_at section (p - 1)) (sentence_at section p) ≡ false) × (breaks_order (paragraph_at section (p - 1)) (paragraph_at section p) ≡ false) =
    λ p h k. both_false (breaks_order (sentence_at section (p - 1)) (sentence_at section p)) (breaks_order (paragraph_at section (p - 1)) (paragraph_at section p)) (first-range-none _ 2 n e p h k) in
    (faulty_position-none section).1
    (reported_never (sentence_at section) n (reported (sentence_at section) n (λ p h k. (in_order p h k).0)), reported (paragraph_at section) n (λ p h k. (in_order p h k).1))

sentence-as_before : (unit : ℕ → ℕ) (n : ℕ) → NotReported unit n ⊎ AllNonzero unit n → (p : ℕ) → 2 ≤ p → p ≤ n
    → falls_below (last_nonzero unit (p - 1)) (unit p) ≡ breaks_order (unit (p - 1)) (unit p)
unfolding xor
sentence-as_before unit n (inl zeros) p h k = rw (zeros p (omega arith) k, zeros (p - 1) (omega arith) (omega arith))
sentence-as_before unit n (inr nonzero) p h k =
    let here = nonzero p (omega arith) k in
    let before = nonzero (p - 1) (omega arith) (omega arith) in
    rw (last_some unit (p - 1) (omega arith) before, ne_eqb (unit p) 0 (λ z. omega (arith, z, here)), ne_eqb (unit (p - 1)) 0 (λ z. omega (arith, z, before)))
    (sym (or-false (ltb (unit p) (unit (p - 1)))))

first-same : (p q : ℕ → Bool) (a b : ℕ) → ((i : ℕ) → a ≤ i → i ≤ b → p i ≡ q i) → first p (from_to a b) ≡ first q (from_to a b)
unfolding first from_to up_from
first-same p q a b h = go (b + 1 - a) a (λ i k l. h i k (omega arith))
  where
    go : (n a : ℕ) → ((i : ℕ) → a ≤ i → i < a + n → p i ≡ q i) → first p (up_from a n) ≡ first q (up_from a n)
    go zero a h = refl
    go (suc n) a h =
        let e = h a (omega arith) (omega arith) in
        rw e (ap (λ o. cond (q a) (Some a) o) (go n (a + 1) (λ i k l. h i (omega arith) (omega arith))))

same-as_before : (section : List ℕ) → NotReported (sentence_at section) (size section) ⊎ AllNonzero (sentence_at section) (size section)
    → faulty_position section ≡ faulty_before section
unfolding faulty_position faulty_at
same-as_before section alike =
    first-same (faulty_at section) _ 2 (size section)
    (λ p h k. ap (λ (b : Bool). b || breaks_order (paragraph_at section (p - 1)) (paragraph_at section p)) (sentence-as_before (sentence_at section) (size section) alike p h k))

headings_of : (section : List ℕ) → HeadingsOf section
unfolding faulty_position
headings_of section =
    record {
      refused_exactly = λ p. first_exactly (faulty_at section) (λ q. SentenceFalls section q ⊎ ParagraphBreaks section q) (faulty_exactly section) (from_to 2 (size section)) p;
      accepted_before = accepted_still section;
      as_before = same-as_before section;
    }

-- ---- some sentences zero

module _ (section other : List ℕ) (z : SomeZeroed section other) where
  zeroed_never : NonzeroNeverFall (sentence_at section) (size section) → NonzeroNeverFall (sentence_at other) (size other)
  zeroed_never never p q h k l x y =
      let kept_at : (i : ℕ) → 1 ≤ i → i ≤ size section → 1 ≤ sentence_at other i → sentence_at other i ≡ sentence_at section i =
      λ i one up some_unit. ⊎_elim (λ e. absurd (omega (arith, e, some_unit))) (λ e. e) (z.sentences i one up) in
      let before = kept_at p h (omega (arith, z.same_size)) x in
      let here = kept_at q (omega arith) (omega (arith, z.same_size)) y in
      omega (arith, before, here, never p q h k (omega (arith, z.same_size)) (omega (arith, before, x)) (omega (arith, here, y)))

  zeroed_reported : ReportedOrNot (paragraph_at section) (size section) → ReportedOrNot (paragraph_at other) (size other)
  zeroed_reported (inl zeros) = inl (λ p h k. z.paragraphs p h (omega (arith, z.same_size)) ∙ zeros p h (omega (arith, z.same_size)))
  zeroed_reported (inr r) =
      let same_at : (i : ℕ) → 1 ≤ i → i ≤ size other → paragraph_at other i ≡ paragraph_at section i = λ i one up. z.paragraphs i one (omega (arith, up, z.same_size)) in
      inr
      (record {
        nonzero = λ p h k. omega (arith, same_at p h k, r.nonzero p h (omega (arith, k, z.same_size)));
        never_falling = λ p q h k l. omega (arith, same_at p h (omega (arith, k, l)), same_at q (omega (arith, h, k)) l, r.never_falling p q h k (omega (arith, l, z.same_size)));
      })

  zeroed : faulty_position section ≡ None → faulty_position other ≡ None
  zeroed e = let units = (faulty_position-none section).0 e in (faulty_position-none other).1 (zeroed_never units.0, zeroed_reported units.1)

-- ---- what same and different sentence keep

all_passed : {A : Type 0} (P : A → Type 0) (p : A → Bool) → ((x : A) → p x ≡ true → P x) → (xs : List A) → all_of p xs ≡ true → Every P xs
unfolding all_of Every
all_passed P p h [] e = tt
all_passed P p h (x ∷ xs) e = let both = both_true (p x) (all_of p xs) e in (h x both.0, all_passed P p h xs both.1)

kept-passed : {A : Type 0} (P : A → Type 0) (p : A → Bool) → ((x : A) → p x ≡ true → P x) → (xs : List A) → Every P (keep p xs)
unfolding keep Every
kept-passed P p h [] = tt
kept-passed P p h (x ∷ xs) = at (p x) refl (kept-passed P p h xs)
  where
    at : (b : Bool) → p x ≡ b → Every P (keep p xs) → Every P (cond b (x ∷ keep p xs) (keep p xs))
    at true e rest = (h x e, rest)
    at false e rest = rest

-- a filter that doesn't join: what has passed its tests has P
module _ (P : Str → Type 0) (keeps : List Str → Bool) (stays : List Str → Str → Bool)
    (of-include : (is : List Str) → keeps is ≡ true → Every P is)
    (of-exclude : (is : List Str) (e : Str) → stays is e ≡ true → P e) where
  abbrev test : Keeping
  test = record { keeps = keeps; stays = stays; joins = false }

  of_match : (m : Match) → AllList P (kept test m)
  unfolding kept Every
  of_match m = at (keeps m.includes) refl
    where
      at : (b : Bool) → keeps m.includes ≡ b → AllList P (kept_if b (kept_match test m))
      at true e = (record { includes = of-include m.includes e; excludes = kept-passed P (stays m.includes) (of-exclude m.includes) m.excludes }, tt)
      at false e = tt

  of_list : (ms : List Match) → AllList P (flat_map (kept test) ms)
  unfolding flat_map Every
  of_list [] = tt
  of_list (m ∷ ms) = every_append (AllMatch P) (kept test m) (flat_map (kept test) ms) (of_match m) (of_list ms)

module _ (s : Section) where
  in_unit_lem : (u : ℕ) (i : Str) → in_unit u (unit_range s.sentence i) ≡ true → InSentences s i
  in_unit_lem u i e =
      let outer = both_true (not (eqb u 0) && eqb (s.sentence i.start) u) (eqb (s.sentence i.end) u) e in
      let inner = both_true (not (eqb u 0)) (eqb (s.sentence i.start) u) outer.0 in
      let some_unit = positive u (not-true (eqb u 0) inner.0) in
      record { starts = omega (arith, some_unit, eqb-true (s.sentence i.start) u inner.1); ends = omega (arith, some_unit, eqb-true (s.sentence i.end) u outer.1) }

  units_nonzero_lem : (i : Str) → units_nonzero s.sentence i ≡ true → InSentences s i
  units_nonzero_lem i e =
      let both = both_true (not (eqb (s.sentence i.start) 0)) (not (eqb (s.sentence i.end) 0)) e in
      record { starts = positive _ (not-true _ both.0); ends = positive _ (not-true _ both.1) }

  same_in : (ms : List Match) → AllList (InSentences s) (filter_list s SameSentence ms)
  unfolding filter_list in_unit_for
  same_in ms =
      of_list (InSentences s) (same s.sentence).keeps (same s.sentence).stays
      (λ is e. all_passed (InSentences s) (in_unit_for s.sentence is) (λ i t. in_unit_lem (unit_for s.sentence is i) i t) is e)
      (λ is e t. in_unit_lem (unit_for s.sentence is e) e t) ms

  different_in : (ms : List Match) → AllList (InSentences s) (filter_list s DifferentSentence ms)
  unfolding filter_list
  different_in ms =
      of_list (InSentences s) (different s.sentence).keeps (different s.sentence).stays
      (λ is e. all_passed (InSentences s) (units_nonzero s.sentence) units_nonzero_lem is
      (both_true (leb 2 (length is)) (all_of (units_nonzero s.sentence) is) (both_true (leb 2 (length is) && all_of (units_nonzero s.sentence) is) (all_pairs (units_apart s.sentence) is) e).0).1)
      (λ is e t. units_nonzero_lem e (both_true (units_nonzero s.sentence e) (all_of (units_apart s.sentence e) is) t).0) ms

pub headings : Headings
headings = record { sections = headings_of; in_any_place = zeroed; same_sentence = same_in; different_sentence = different_in }
