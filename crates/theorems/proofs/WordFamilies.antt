-- F-6. The first entry not above the one before it is the first that isn't above all before it, since up to there the words rise. In a table whose words
-- rise a word has one entry, so its family is that entry's. A phrase's words stand in a row where each fits its token; over an empty table only a word that
-- equals its token fits, and refusal 13 doesn't fall.
use Prim.Native.Nat.{ℕ, zero, suc, ◌+◌, ◌*◌, ◌-◌, ◌≤◌, ◌<◌}
use native.Mathlib.Nat.{eq-or-lt_of_le}
use native.Mathlib.Omega.{arith}
use mathlib.Core.Path.{◌≡◌, refl, sym, ap, subst, ◌∙◌}
use mathlib.Core.Bool.{Bool, true, false, ◌&&◌, cond}
use mathlib.Core.List.{List, [], ◌∷◌, ◌++◌, map, nil≢cons, head-eq_of_cons-eq, tail-eq_of_cons-eq, Sublistᴰ}
use mathlib.Core.Logic.Iff
use mathlib.Core.Logic.{◌↔◌, ◌⊎◌, inl, inr, ⊎_elim}
use Rattle.std.specs.Prelude.{Option, Some, None, option_map}
use Rattle.model.specs.declared.Reason.TheVariants.{LongList}
use Rattle.model.proofs.OptionLaws.{none-ne-some}
use lib.Dec.{leb, eqb}
use lib.ListN.{length, get_or}
use borrow.Author.Tests.{leb-true, le-leb, leb-false, eqb-true, eq-eqb, eqb-false}
use Rattle.model.specs.declared.Refusal.{Refusal}
use Rattle.model.specs.Accepted.{RisingStrictly}
use Rattle.model.specs.AllMatches.{all_matches}
use Rattle.model.specs.Answers.{answer_unless, listing_refusal, listing_answer, listing_numbers, buffer_unless, listing_buffer, walk_unless, quick_answer}
use Rattle.model.specs.Checks.{refusal, otherwise, tried, wrong_families, out_of_order, entry_out_of_order, section_refusal, families_refusal, selection_refusal, room_refusal}
use Rattle.model.specs.Checks.{input_refusal, listing_checks, quick_checks}
use Rattle.model.specs.Families.{empty_table, entry_of, family_of, same_family, word_fits, Searched, searched_of, equal_words}
use Rattle.model.specs.Limits.{max_entries, work_length, buffer_length}
use Rattle.model.specs.Lists.{Every, keep, first, up_from, from_to}
use Rattle.model.specs.Matches.{Match}
use Rattle.model.specs.Rules.{stand_from, found, phrase_list}
use Rattle.model.specs.Section.{size, first_at, second_at, well_sized}
use Rattle.model.specs.Trees.{tree_of, parts}
use Rattle.model.specs.Walk.{first_too_long, walk}
use Rattle.model.proofs.EveryLaws.{every_weaker, every_map, every-kept, every-range}
use Rattle.model.proofs.FamiliesLaws.{entry_some, entry_at, searched_empty}
use Rattle.model.proofs.ListsLaws.{range_cons, range-append}
use Rattle.model.proofs.TestsLaws.{false-true, both_true, and-join}
use Rattle.theorems.specs.Demands.{Has, FirstWith}
use Rattle.theorems.specs.Requests.{EntryHas, SameFamilyInTable, Fits, PhraseFitsFrom, OutOfOrder, TableOf, checks_before, listing_refusal_before, EmptyTableOf, WordFamilies}
use Rattle.theorems.proofs.WordsLaws.{or_exactly, every-has, has-map, has-range, has-keep, first_exactly}

-- ---- refusal 13

-- the first of a range: nothing before it has P
module _ (P : ℕ → Type 0) where
  abbrev FirstFrom : ℕ → ℕ → ℕ → Type 0
  FirstFrom a b i = (a ≤ i) × (i ≤ b) × P i × ((k : ℕ) → a ≤ k → k < i → ¬ P k)

  range-first : (a b i : ℕ) → 1 ≤ a → FirstWith P (from_to a b) i ↔ FirstFrom a b i
  unfolding from_to up_from Every
  range-first a b i low = (there, back)
    where
      go : (n a : ℕ) (before after : List ℕ) → up_from a n ≡ before ++ i ∷ after → Every (λ k. ¬ P k) before
          → (a ≤ i) × (i < a + n) × ((k : ℕ) → a ≤ k → k < i → ¬ P k)
      go zero a [] after e h = absurd (nil≢cons e)
      go zero a (y ∷ before) after e h = absurd (nil≢cons e)
      go (suc n) a [] after e h = let same : a ≡ i = head-eq_of_cons-eq e in (omega (arith, same), omega (arith, same), λ k l m. absurd (omega (arith, same, l, m)))
      go (suc n) a (y ∷ before) after e h =
          let same : a ≡ y = head-eq_of_cons-eq e in
          let f = go n (a + 1) before after (tail-eq_of_cons-eq e) h.1 in
          (omega (arith, f.0), omega (arith, f.1), λ k l m. ⊎_elim (λ q. subst (λ (z : ℕ). ¬ P z) (sym same ∙ q) h.0) (λ q. f.2 k (omega (arith, q)) m) (eq-or-lt_of_le l))

      there : FirstWith P (from_to a b) i → FirstFrom a b i
      there w = let f = go (b + 1 - a) a w.before w.after w.order w.none_before in (f.0, omega (arith, f.0, f.1), w.this, f.2)

      back : FirstFrom a b i → FirstWith P (from_to a b) i
      back f =
          let e : i - 1 + 1 ≡ i = omega (arith, f.0) in
          let rest : from_to (i - 1 + 1) b ≡ i ∷ from_to (i + 1) b = rw e (range_cons i b f.1) in
          record {
            before = from_to a (i - 1);
            after = from_to (i + 1) b;
            order = range-append a (i - 1) b (omega (arith, f.0)) (omega (arith, f.1)) ∙ ap (λ l. from_to a (i - 1) ++ l) rest;
            none_before = every_weaker _ _ (λ k h. f.3 k h.0 (omega (arith, h.1, f.0))) (from_to a (i - 1)) (every-range a (i - 1));
            this = f.2;
          }

module _ (families : List ℕ) where
  -- an entry isn't above the one before it
  abbrev NotAbove : ℕ → Type 0
  NotAbove i = first_at families i ≤ first_at families (i - 1)

  rises_below : (i : ℕ) → ((k : ℕ) → 2 ≤ k → k < i → ¬ NotAbove k) → (j k : ℕ) → 1 ≤ j → j < k → k < i → first_at families j < first_at families k
  rises_below i none_before j zero h l m = absurd (omega arith)
  rises_below i none_before j (suc k) h l m = at (leb (first_at families (suc k)) (first_at families (suc k - 1))) refl (rises_below i none_before j k h)
    where
      before : suc k - 1 ≡ k
      before = omega arith

      le : j ≤ k
      le = omega arith

      at : (b : Bool) → leb (first_at families (suc k)) (first_at families (suc k - 1)) ≡ b → (j < k → k < i → first_at families j < first_at families k) → first_at families j < first_at families (suc k)
      at true e later = absurd (none_before (suc k) (omega arith) m (leb-true _ _ e))
      at false e later =
          let last : first_at families k < first_at families (suc k) = subst (λ (x : ℕ). first_at families x < first_at families (suc k)) before (leb-false _ _ e) in
          ⊎_elim (λ q. subst (λ (x : ℕ). first_at families x < first_at families (suc k)) (sym q) last) (λ q. omega (arith, later q (omega arith), last)) (eq-or-lt_of_le le)

  first_out : (i : ℕ) → FirstFrom NotAbove 2 (size families) i ↔ FirstFrom (OutOfOrder families) 1 (size families) i
  first_out i = (there, back)
    where
      there : FirstFrom NotAbove 2 (size families) i → FirstFrom (OutOfOrder families) 1 (size families) i
      there f = (
        omega (arith, f.0),
        f.1,
        (i - 1, omega (arith, f.0), omega (arith, f.0), f.2),
        λ k h l w. absurd (omega (arith, w.3, rises_below i f.3 w.0 k w.1 w.2 l)),
      )

      -- one before it is the last before it, or below that
      back : FirstFrom (OutOfOrder families) 1 (size families) i → FirstFrom NotAbove 2 (size families) i
      back f =
          let w = f.2 in
          let le : w.0 ≤ i - 1 = omega (arith, w.2) in
          let lower : w.0 < i - 1 → NotAbove i = λ q. at q (leb (first_at families (i - 1)) (first_at families w.0)) refl in (
            omega (arith, w.1, w.2),
            f.1,
            ⊎_elim (λ q. subst (λ (x : ℕ). first_at families i ≤ first_at families x) q w.3) lower (eq-or-lt_of_le le),
            λ k h l n. f.3 k (omega arith) l (k - 1, omega arith, omega arith, n),
          )
        where
          at : f.2.0 < i - 1 → (b : Bool) → leb (first_at families (i - 1)) (first_at families f.2.0) ≡ b → NotAbove i
          at q true e = absurd (f.3 (i - 1) (omega (arith, q)) (omega (arith, q)) (f.2.0, f.2.1, q, leb-true _ _ e))
          at q false e = omega (arith, leb-false (first_at families (i - 1)) (first_at families f.2.0) e, f.2.3)

  entry_exactly : (i : ℕ) → (entry_out_of_order families ≡ Some i) ↔ FirstWith (OutOfOrder families) (from_to 1 (size families)) i
  unfolding entry_out_of_order
  entry_exactly i =
      let range = range-first (OutOfOrder families) 1 (size families) i (omega arith) in
      Iff.trans (first_exactly (out_of_order families) NotAbove (λ j. (leb-true _ _, le-leb _ _)) (from_to 2 (size families)) i)
      (Iff.trans (range-first NotAbove 2 (size families) i (omega arith)) (Iff.trans (first_out i) (range.1, range.0)))

  place_zero_exactly : (place : ℕ) → (wrong_families families ≡ Some place) ↔ ((place ≡ 0) × ((max_entries < size families) ⊎ (¬ (length families ≡ 1 + 2 * size families))))
  unfolding wrong_families well_sized
  place_zero_exactly place = rw (le-leb 0 (size families) (omega arith)) (at (leb (size families) max_entries) refl (eqb (length families) (1 + 2 * size families)) refl)
    where
      Wrong : Type 0
      Wrong = (max_entries < size families) ⊎ (¬ (length families ≡ 1 + 2 * size families))

      at : (a : Bool) → leb (size families) max_entries ≡ a → (b : Bool) → eqb (length families) (1 + 2 * size families) ≡ b
          → (cond (true && a && b) None (Some 0) ≡ Some place) ↔ ((place ≡ 0) × Wrong)
      at true h true k = (λ e. absurd (none-ne-some place e), λ w. ⊎_elim (λ l. absurd (omega (arith, l, leb-true (size families) max_entries h))) (λ n. absurd (n (eqb-true _ _ k))) w.1)
      at true h false k = (λ e. let same : 0 ≡ place = cc in (sym same, inr (eqb-false _ _ k)), λ w. ap Some (sym w.0))
      at false h b k = (λ e. let same : 0 ≡ place = cc in (sym same, inl (leb-false _ _ h)), λ w. ap Some (sym w.0))

-- ---- what fits

module _ (families : List ℕ) where
  entry_has : (word i : ℕ) → entry_of families word ≡ Some i → EntryHas families i word
  entry_has word i e = let f = entry_some families word i e in record { from_one = f.0; up_to = f.1; is_word = f.2 }

  module _ (rising : RisingStrictly (first_at families) (size families)) (token word : ℕ) where
    same_exactly : (same_family (family_of families token) (family_of families word) ≡ true) ↔ SameFamilyInTable families token word
    unfolding family_of
    same_exactly = (there (entry_of families token) refl (entry_of families word) refl, back)
      where
        there : (o : Option ℕ) → entry_of families token ≡ o → (q : Option ℕ) → entry_of families word ≡ q
            → same_family (option_map (second_at families) o) (option_map (second_at families) q) ≡ true → SameFamilyInTable families token word
        there (Some i) h (Some j) k e =
            record { token_entry = i; word_entry = j; token_in = entry_has token i h; word_in = entry_has word j k; same_family = eqb-true _ _ e }
        there (Some i) h None k e = false-true e
        there None h q k e = false-true e

        back : SameFamilyInTable families token word → same_family (family_of families token) (family_of families word) ≡ true
        back w =
            let i = entry_at families token rising w.token_entry w.token_in.from_one w.token_in.up_to w.token_in.is_word in
            let j = entry_at families word rising w.word_entry w.word_in.from_one w.word_in.up_to w.word_in.is_word in
            rw (i, j) (eq-eqb _ _ w.same_family)

    fits_exactly : (word_fits families token word ≡ true) ↔ Fits families token word
    unfolding word_fits
    fits_exactly = or_exactly (eqb token word) (same_family (family_of families token) (family_of families word)) (eqb-true token word, eq-eqb token word) same_exactly

table_of : (families : List ℕ) → TableOf families
table_of families = record { entry_exactly = entry_exactly families; place_zero_exactly = place_zero_exactly families; fits_exactly = fits_exactly families }

-- ---- a phrase's finds

-- each word of a row stands at a token that it fits
module _ (s : Searched) where
  abbrev EachFits : List ℕ → ℕ → Type 0
  EachFits ws p = (i : ℕ) → i < length ws → (p + i ≤ s.section.tokens) × (s.fits (s.section.word (p + i)) (get_or ws i 0) ≡ true)

  stand_each : (ws : List ℕ) (p : ℕ) → stand_from s ws p ≡ true → EachFits ws p
  unfolding stand_from
  stand_each [] p e i h = absurd (omega arith)
  stand_each (w ∷ ws) p e zero h =
      let f : p + 0 ≡ p = omega arith in
      let here = both_true (leb p s.section.tokens) (s.fits (s.section.word p) w) (both_true _ (stand_from s ws (p + 1)) e).0 in
      rw f (leb-true _ _ here.0, here.1)
  stand_each (w ∷ ws) p e (suc i) h =
      let f : p + suc i ≡ p + 1 + i = omega arith in
      let later = (both_true (leb p s.section.tokens && s.fits (s.section.word p) w) (stand_from s ws (p + 1)) e).1 in
      rw f (stand_each ws (p + 1) later i (omega arith))

  each_stand : (ws : List ℕ) (p : ℕ) → EachFits ws p → stand_from s ws p ≡ true
  unfolding stand_from
  each_stand [] p h = refl
  each_stand (w ∷ ws) p h =
      let e : p + 0 ≡ p = omega arith in
      let here = rw e at (h 0 (omega arith)) in
      let later : EachFits ws (p + 1) = λ i l. let f : p + suc i ≡ p + 1 + i = omega arith in rw f at (h (suc i) (omega arith)) in
      and-join (and-join (le-leb _ _ here.0) here.1) (each_stand ws (p + 1) later)

module _ (section families : List ℕ) (rank : ℕ) (words : List ℕ) where
  abbrev stands : ℕ → Bool
  stands = stand_from (searched_of section families) words

  abbrev FoundAt : Match → Type 0
  FoundAt m = (p : ℕ) × (((1 ≤ p) × (p ≤ size section)) × (stands p ≡ true)) × (m ≡ found rank (length words) p)

  -- its list has a match for each place where its words stand, and no other
  finds_exactly : (m : Match) → Has (λ l. l ≡ m) (phrase_list (searched_of section families) rank words) ↔ FoundAt m
  unfolding phrase_list
  finds_exactly m = (there, back)
    where
      places : List ℕ
      places = keep stands (from_to 1 (size section))

      there : Has (λ l. l ≡ m) (map (found rank (length words)) places) → FoundAt m
      there h =
          let all = every_map FoundAt _ (found rank (length words)) (λ p k. (p, k, refl)) places (every-kept _ stands (from_to 1 (size section)) (every-range 1 (size section))) in
          subst FoundAt h.this (every-has FoundAt (map (found rank (length words)) places) all h)

      back : FoundAt m → Has (λ l. l ≡ m) (map (found rank (length words)) places)
      back w =
          has-map (found rank (length words)) (λ p e. ap (found rank (length words)) e ∙ sym w.2)
          (has-keep stands w.1.1 (has-range 1 (size section) w.0 w.1.0.0 w.1.0.1))

  phrase_exactly : RisingStrictly (first_at families) (size families) → (m : Match)
      → Has (λ l. l ≡ m) (phrase_list (searched_of section families) rank words)
      ↔ ((p : ℕ) × PhraseFitsFrom section families words p × (m ≡ found rank (length words) p))
  phrase_exactly rising m = Iff.trans (finds_exactly m) (there, back)
    where
      there : FoundAt m → (p : ℕ) × PhraseFitsFrom section families words p × (m ≡ found rank (length words) p)
      there w =
          let each = stand_each (searched_of section families) words w.0 w.1.1 in
          (w.0, record { from_one = w.1.0.0; up_to = w.1.0.1; each_word = λ i h. ((each i h).0, (fits_exactly families rising _ _).0 (each i h).1) }, w.2)

      back : (p : ℕ) × PhraseFitsFrom section families words p × (m ≡ found rank (length words) p) → FoundAt m
      back w =
          let each : EachFits (searched_of section families) words w.0 = λ i h. ((w.1.each_word i h).0, (fits_exactly families rising _ _).1 (w.1.each_word i h).1) in
          (w.0, ((w.1.from_one, w.1.up_to), each_stand (searched_of section families) words w.0 each), w.2)

-- ---- more finds

keep-more : {A : Type 0} (p q : A → Bool) → ((x : A) → p x ≡ true → q x ≡ true) → (xs : List A) → Sublistᴰ (keep p xs) (keep q xs)
unfolding keep
keep-more p q h [] = Sublistᴰ.slnil
keep-more p q h (x ∷ xs) = at (p x) refl (q x) refl (keep-more p q h xs)
  where
    at : (a : Bool) → p x ≡ a → (b : Bool) → q x ≡ b → Sublistᴰ (keep p xs) (keep q xs) → Sublistᴰ (cond a (x ∷ keep p xs) (keep p xs)) (cond b (x ∷ keep q xs) (keep q xs))
    at true e true f rest = Sublistᴰ.cons-cons refl rest
    at true e false f rest = false-true (sym f ∙ h x e)
    at false e true f rest = Sublistᴰ.cons rest
    at false e false f rest = rest

sublist_map : {A B : Type 0} (f : A → B) {xs ys : List A} → Sublistᴰ xs ys → Sublistᴰ (map f xs) (map f ys)
sublist_map f Sublistᴰ.slnil = Sublistᴰ.slnil
sublist_map f (Sublistᴰ.cons d) = Sublistᴰ.cons (sublist_map f d)
sublist_map f (Sublistᴰ.cons-cons e d) = Sublistᴰ.cons-cons (ap f e) (sublist_map f d)

equal_fits : (families : List ℕ) (token word : ℕ) → eqb token word ≡ true → word_fits families token word ≡ true
unfolding word_fits
equal_fits families token word e = rw e

more_finds : (section families : List ℕ) (rank : ℕ) (words : List ℕ)
    → Sublistᴰ (phrase_list (equal_words section) rank words) (phrase_list (searched_of section families) rank words)
unfolding phrase_list
more_finds section families rank words =
    sublist_map (found rank (length words))
    (keep-more _ _
    (λ p e. each_stand (searched_of section families) words p (λ i h. let each = stand_each (equal_words section) words p e i h in (each.0, equal_fits families _ _ each.1)))
    (from_to 1 (size section)))

-- ---- the empty table

empty_passes : families_refusal empty_table ≡ None
unfolding families_refusal tried wrong_families well_sized entry_out_of_order first from_to up_from
empty_passes = refl

module _ (section selection : List ℕ) where
  input_before : input_refusal section empty_table selection ≡ otherwise (section_refusal section) (selection_refusal selection)
  unfolding input_refusal
  input_before = rw empty_passes

  refusal-before : (work buffer : ℕ) → listing_refusal section empty_table selection work buffer ≡ listing_refusal_before section selection work buffer
  unfolding listing_refusal listing_checks
  refusal-before work buffer =
      ap (λ (o : Option Refusal). otherwise (otherwise o (room_refusal (leb work_length work && leb buffer_length buffer))) (option_map (refusal LongList) (first_too_long (searched_of section empty_table) (parts (tree_of selection))))) input_before
      ∙ ap (λ (s : Searched). otherwise (checks_before section selection (leb work_length work && leb buffer_length buffer)) (option_map (refusal LongList) (first_too_long s (parts (tree_of selection))))) (searched_empty section)

  with_empty_table : (work : ℕ) (buffer : List ℕ) → EmptyTableOf section selection work buffer
  unfolding listing_answer listing_buffer quick_answer quick_checks
  with_empty_table work buffer =
      let refused = refusal-before work (length buffer) in
      record {
        listing_as_before = rw refused (ap (λ (s : Searched). answer_unless (listing_refusal_before section selection work (length buffer)) (all_matches s (tree_of selection))) (searched_empty section));
        buffer_as_before =
            rw refused (ap (λ (s : Searched). buffer_unless (listing_refusal_before section selection work (length buffer)) (listing_numbers (all_matches s (tree_of selection))) buffer) (searched_empty section));
        quick_as_before =
            rw input_before (ap (λ (s : Searched). walk_unless (checks_before section selection (leb work_length work)) (walk s (tree_of selection))) (searched_empty section));
      }

pub word-families : WordFamilies
word-families = record {
  tables = table_of;
  phrase_exactly = λ section families rising rank words. phrase_exactly section families rank words rising;
  more_finds = more_finds;
  with_empty_table = with_empty_table;
}
