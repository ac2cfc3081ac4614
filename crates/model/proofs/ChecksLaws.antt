-- What the checks guarantee: where none of a list of checks refuses, each of them passes. A section has no faulty position exactly where its nonzero
-- sentences never fall, and its paragraphs are all zero, or all nonzero and never falling; an accepted selection is one tree that spells its codes.
use Prim.Native.Nat.{ℕ, zero, suc, ◌+◌, ◌-◌, ◌≤◌, ◌<◌}
use native.Mathlib.Nat.{eq-or-lt_of_le}
use native.Mathlib.Omega.{arith}
use mathlib.Core.Path.{◌≡◌, refl, sym, ap, ap₂, subst, ◌∙◌}
use mathlib.Core.Bool.{Bool, true, false, not, ◌||◌, xor, cond}
use mathlib.Core.List.{List, [], ◌∷◌, ◌++◌, map}
use mathlib.Core.Logic.{◌↔◌, ◌⊎◌, inl, inr, ⊎_elim}
use Rattle.std.specs.Prelude.{Option, Some, None, option_map}
use Rattle.model.proofs.OptionLaws.{map-eq-none_iff, some-ne-none}
use lib.Dec.{eqb, leb, ltb}
use lib.ListN.{length}
use borrow.Author.Tests.{eqb-true, eq-eqb, ne_eqb, ltb-false, le-ltb, leb-false, lt-leb, not-false}
use Rattle.model.specs.declared.Reason.{Reason}
use Rattle.model.specs.declared.Reason.TheVariants.{WrongSection, FaultyPosition, WrongSelection, UnknownKind, WrongOperand, WrongShape, NotUnderMildNot, ShortMemory, LongList, UnexpectedToken, OverLimit, NotOverPhrase, WrongFamilies}
use Rattle.model.specs.declared.Refusal.{Refusal}
use Rattle.model.specs.Limits.{max_tokens, max_entries, max_codes, max_waiting}
use Rattle.model.specs.Lists.{all_of, any_of, first}
use Rattle.model.specs.Section.{size, first_at, well_sized, sentence_at, paragraph_at}
use Rattle.model.specs.Selection.{kind_at, operand_at, code_of}
use Rattle.model.specs.Kinds.{Shape, a_word, a_phrase, a_pair, a_change, shape_of, shape_at, shapes_of}
use Rattle.model.specs.Trees.{Tree, phrase, pair, change, place_of, top_tree, tree_of, parts}
use Rattle.model.specs.Parts.{is_not_code, has_words, postfix, renumbered, well_formed, PartAt, codes_of_trees, phrases_all}
use Rattle.model.specs.Checks.{number_of, refusal, otherwise, Check, tried, wrong_section, breaks_order, last_nonzero, falls_below, faulty_at, faulty_position, section_refusal, wrong_families, out_of_order, entry_out_of_order, families_refusal, wrong_selection, unknown_kind}
use Rattle.model.specs.Checks.{operand_fits, wrong_operand, wrong_shape, occurs_over_other, not_over_phrase, is_not, has_not, mild_over_not, not_under_mild_not, selection_refusal, input_refusal}
use Rattle.model.specs.Accepted.{NonzeroNeverFall, LastNonzeroBefore, ReportedOrNot, AcceptedSection, RisingStrictly, AcceptedFamilies, max_phrases, AcceptedSelection}
use Rattle.model.proofs.ListsLaws.{any_append, first-range-none, range-first-none}
use Rattle.model.proofs.SectionLaws.{WellSized, well_sized_lem}
use Rattle.model.proofs.TestsLaws.{both_true, both_false, xor-false, cond-none}
use Rattle.model.proofs.SelectionLaws.{length-up_to, all_up_to}
use Rattle.model.proofs.KindsLaws.{shape_cases}
use Rattle.model.proofs.TreesLaws.{phrases-few, ranks_to}
use Rattle.model.proofs.WaitingLaws.{misfit_none, parsed}

-- ---- number_of: no two reasons have one number

unfoldable reason_of : ℕ → Reason
reason_of n =
    cond (eqb n 1) WrongSection
    (cond (eqb n 2) FaultyPosition
    (cond (eqb n 3) WrongSelection
    (cond (eqb n 4) UnknownKind
    (cond (eqb n 5) WrongOperand
    (cond (eqb n 6) WrongShape
    (cond (eqb n 7) NotUnderMildNot
    (cond (eqb n 8) ShortMemory
    (cond (eqb n 9) LongList
    (cond (eqb n 10) UnexpectedToken
    (cond (eqb n 11) OverLimit
    (cond (eqb n 12) NotOverPhrase
    (WrongFamilies))))))))))))

reason_of-number : (r : Reason) → reason_of (number_of r) ≡ r
unfolding reason_of
reason_of-number WrongSection = refl
reason_of-number FaultyPosition = refl
reason_of-number WrongSelection = refl
reason_of-number UnknownKind = refl
reason_of-number WrongOperand = refl
reason_of-number WrongShape = refl
reason_of-number NotUnderMildNot = refl
reason_of-number ShortMemory = refl
reason_of-number LongList = refl
reason_of-number UnexpectedToken = refl
reason_of-number OverLimit = refl
reason_of-number NotOverPhrase = refl
reason_of-number WrongFamilies = refl

pub number-injective : (r q : Reason) → number_of r ≡ number_of q → r ≡ q
number-injective r q e = sym (reason_of-number r) ∙ ap reason_of e ∙ reason_of-number q

-- ---- otherwise, tried: no check refuses where all of them together do not

pub otherwise-none : (a b : Option Refusal) → otherwise a b ≡ None → (a ≡ None) × (b ≡ None)
otherwise-none (Some r) b h = absurd (some-ne-none r h)
otherwise-none None b h = (refl, h)

pub tried-cons : (c : Check) (cs : List Check) (lent : List ℕ) → tried (c ∷ cs) lent ≡ None → (c.fails lent ≡ None) × (tried cs lent ≡ None)
unfolding tried
tried-cons c cs lent h =
    let b = otherwise-none (option_map (refusal c.reason) (c.fails lent)) (tried cs lent) h in
    ((map-eq-none_iff (refusal c.reason) (c.fails lent)).0 b.0, b.1)

-- one check passed, the others decide; one failed, its refusal is given
module _ (c : Check) (cs : List Check) (lent : List ℕ) where
  pub tried-on : c.fails lent ≡ None → tried (c ∷ cs) lent ≡ tried cs lent
  unfolding tried
  tried-on e = rw e

  pub tried_stop : (place : ℕ) → c.fails lent ≡ Some place → tried (c ∷ cs) lent ≡ Some (refusal c.reason place)
  unfolding tried
  tried_stop place e = rw e

-- ---- last_nonzero

last-or-before : (i k : ℕ) → i < suc (suc k) → (i ≡ suc k) ⊎ (i < suc k)
last-or-before i k h = let l : i ≤ suc k = omega arith in eq-or-lt_of_le l

module _ (unit : ℕ → ℕ) where
  pub last-zero : (p : ℕ) → 1 ≤ p → unit p ≡ 0 → last_nonzero unit p ≡ last_nonzero unit (p - 1)
  unfolding last_nonzero
  last-zero zero h z = absurd (omega arith)
  last-zero (suc k) h z = let e : suc k - 1 ≡ k = omega arith in rw (e, z)

  pub last_some : (p : ℕ) → 1 ≤ p → 1 ≤ unit p → last_nonzero unit p ≡ unit p
  unfolding last_nonzero
  last_some zero h x = absurd (omega arith)
  last_some (suc k) h x = rw (ne_eqb (unit (suc k)) 0 (λ e. omega (arith, x, e)))

  -- up to k there is none, or it is the number at some position
  pub last_found : (k : ℕ) → (last_nonzero unit k ≡ 0) ⊎ ((q : ℕ) × LastNonzeroBefore unit (suc k) q × (last_nonzero unit k ≡ unit q))
  unfolding last_nonzero
  last_found zero = inl refl
  last_found (suc k) = at (unit (suc k)) refl (last_found k)
    where
      at : (u : ℕ) → unit (suc k) ≡ u → (last_nonzero unit k ≡ 0) ⊎ ((q : ℕ) × LastNonzeroBefore unit (suc k) q × (last_nonzero unit k ≡ unit q))
          → (last_nonzero unit (suc k) ≡ 0) ⊎ ((q : ℕ) × LastNonzeroBefore unit (suc (suc k)) q × (last_nonzero unit (suc k) ≡ unit q))
      at zero e (inl z) = inl (rw e z)
      at zero e (inr w) =
          let here : LastNonzeroBefore unit (suc (suc k)) w.0 = record {
            from_one = w.1.from_one;
            before = omega (arith, w.1.before);
            nonzero = w.1.nonzero;
            zeros_between = λ i h l. ⊎_elim (λ s. ap unit s ∙ e) (λ s. w.1.zeros_between i h s) (last-or-before i k l);
          } in
          inr (w.0, here, rw e w.2)
      at (suc u) e below =
          let here : LastNonzeroBefore unit (suc (suc k)) (suc k) = record {
            from_one = omega arith;
            before = omega arith;
            nonzero = omega (arith, e);
            zeros_between = λ i h l. absurd (omega (arith, h, l));
          } in
          inr (suc k, here, last_some (suc k) (omega arith) (omega (arith, e)))

  pub last_is : (k q : ℕ) → LastNonzeroBefore unit (suc k) q → last_nonzero unit k ≡ unit q
  last_is zero q w = absurd (omega (arith, w.from_one, w.before))
  last_is (suc k) q w = ⊎_elim here (earlier (last_is k q)) (last-or-before q k w.before)
    where
      here : q ≡ suc k → last_nonzero unit (suc k) ≡ unit q
      here e = last_some (suc k) (omega arith) (subst (λ (i : ℕ). 1 ≤ unit i) e w.nonzero) ∙ ap unit (sym e)

      earlier : (LastNonzeroBefore unit (suc k) q → last_nonzero unit k ≡ unit q) → q < suc k → last_nonzero unit (suc k) ≡ unit q
      earlier is l =
          let e : suc k - 1 ≡ k = omega arith in
          let before : LastNonzeroBefore unit (suc k) q = record { from_one = w.from_one; before = l; nonzero = w.nonzero; zeros_between = λ i h m. w.zeros_between i h (omega (arith, m)) } in
          last-zero (suc k) (omega arith) (w.zeros_between (suc k) l (omega arith)) ∙ ap (last_nonzero unit) e ∙ is before

-- ---- falls_below: no nonzero number is below the last one before it exactly where the nonzero ones never fall

pub not-below : (last here : ℕ) → 1 ≤ here → falls_below last here ≡ false → last ≤ here
not-below last here x e = ltb-false here last (rw (ne_eqb here 0 (λ z. omega (arith, x, z))) at e)

pub below_none : (last here : ℕ) → (1 ≤ here → last ≤ here) → falls_below last here ≡ false
below_none last zero h = refl
below_none last (suc k) h = rw (ne_eqb (suc k) 0 (λ z. omega (arith, z)), le-ltb (suc k) last (h (omega arith)))

module _ (unit : ℕ → ℕ) (n : ℕ) where
  abbrev NoneBelow : Type 0
  NoneBelow = (p : ℕ) → 2 ≤ p → p ≤ n → falls_below (last_nonzero unit (p - 1)) (unit p) ≡ false

  -- a nonzero number is at most the last one up to d positions later
  at-most-last : NoneBelow → (d p : ℕ) → 1 ≤ p → p + d ≤ n → 1 ≤ unit p → unit p ≤ last_nonzero unit (p + d)
  at-most-last none_below zero p h k x = let e : p + 0 ≡ p = omega arith in rw e (omega (arith, last_some unit p h x))
  at-most-last none_below (suc d) p h k x = at (unit (p + suc d)) refl (at-most-last none_below d p h (omega arith) x)
    where
      e : p + suc d - 1 ≡ p + d
      e = omega arith

      at : (u : ℕ) → unit (p + suc d) ≡ u → unit p ≤ last_nonzero unit (p + d) → unit p ≤ last_nonzero unit (p + suc d)
      at zero z before = omega (arith, before, last-zero unit (p + suc d) (omega arith) z ∙ ap (last_nonzero unit) e)
      at (suc u) z before =
          let rises = not-below (last_nonzero unit (p + d)) (unit (p + suc d)) (omega (arith, z)) (rw e at (none_below (p + suc d) (omega arith) k)) in
          omega (arith, before, rises, last_some unit (p + suc d) (omega arith) (omega (arith, z)))

  pub never_fall : NoneBelow → NonzeroNeverFall unit n
  never_fall none_below p q h k l x y =
      let e : p + (q - p) ≡ q = omega arith in
      omega (arith, rw e at (at-most-last none_below (q - p) p h (omega arith) x), last_some unit q (omega arith) y)

  pub none_below : NonzeroNeverFall unit n → NoneBelow
  none_below never p h k =
      below_none (last_nonzero unit (p - 1)) (unit p)
      (λ x. ⊎_elim
      (λ z. omega (arith, z))
      (λ w. omega (arith, w.2, never w.0 p w.1.from_one (omega (arith, w.1.before)) k w.1.nonzero x))
      (last_found unit (p - 1)))

-- ---- breaks_order: a counting has no faulty position exactly where it is all zero, or all nonzero and never falling

module _ (unit : ℕ → ℕ) (n : ℕ) where
  abbrev InOrder : Type 0
  InOrder = (p : ℕ) → 2 ≤ p → p ≤ n → breaks_order (unit (p - 1)) (unit p) ≡ false

  next : InOrder → (p : ℕ) → 1 ≤ p → p + 1 ≤ n → (unit p ≤ unit (p + 1)) × (eqb (unit (p + 1)) 0 ≡ eqb (unit p) 0)
  next ordered p h k =
      let e : p + 1 - 1 ≡ p = omega arith in
      let f = both_false (ltb (unit (p + 1)) (unit p)) (xor (eqb (unit (p + 1)) 0) (eqb (unit p) 0)) (rw e at (ordered (p + 1) (omega arith) k)) in
      (ltb-false (unit (p + 1)) (unit p) f.0, xor-false (eqb (unit (p + 1)) 0) (eqb (unit p) 0) f.1)

  -- from p up by d positions
  rises : InOrder → (d p : ℕ) → 1 ≤ p → p + d ≤ n → (unit p ≤ unit (p + d)) × (eqb (unit (p + d)) 0 ≡ eqb (unit p) 0)
  rises ordered zero p h k = let e : p + 0 ≡ p = omega arith in rw e (omega arith, refl)
  rises ordered (suc d) p h k =
      let e : p + suc d ≡ p + d + 1 = omega arith in
      let a = rises ordered d p h (omega arith) in
      let b = next ordered (p + d) (omega arith) (omega arith) in
      rw e (omega (arith, a.0, b.0), b.1 ∙ a.1)

  pub reported : InOrder → ReportedOrNot unit n
  reported ordered = at (unit 1) refl
    where
      up : (p q : ℕ) → 1 ≤ p → p ≤ q → q ≤ n → (unit p ≤ unit q) × (eqb (unit q) 0 ≡ eqb (unit p) 0)
      up p q h k l = let e : p + (q - p) ≡ q = omega arith in rw e at (rises ordered (q - p) p h (omega arith))

      -- position 1 decides
      at : (k : ℕ) → unit 1 ≡ k → ReportedOrNot unit n
      at zero e = inl (λ p h l. eqb-true _ _ ((up 1 p (omega arith) h l).1 ∙ eq-eqb _ _ e))
      at (suc k) e = inr (record { nonzero = λ p h l. omega (arith, e, (up 1 p (omega arith) h l).0); never_falling = λ p q h k l. (up p q h k l).0 })

  pub in_order : ReportedOrNot unit n → InOrder
  unfolding xor
  in_order (inl zeros) p h k = let z = zeros p (omega arith) k in let y = zeros (p - 1) (omega arith) (omega arith) in rw (z, y)
  in_order (inr r) p h k =
      let Some = r.nonzero p (omega arith) k in
      let before = r.nonzero (p - 1) (omega arith) (omega arith) in
      let falls = le-ltb (unit p) (unit (p - 1)) (r.never_falling (p - 1) p (omega arith) (omega arith) k) in
      rw (falls, ne_eqb (unit p) 0 (λ z. omega arith), ne_eqb (unit (p - 1)) 0 (λ z. omega arith))

-- ---- faulty_position

module _ (section : List ℕ) where
  abbrev sentence_faulty : ℕ → Bool
  sentence_faulty p = falls_below (last_nonzero (sentence_at section) (p - 1)) (sentence_at section p)

  abbrev paragraph_faulty : ℕ → Bool
  paragraph_faulty p = breaks_order (paragraph_at section (p - 1)) (paragraph_at section p)

  abbrev UnitsInOrder : Type 0
  UnitsInOrder = NonzeroNeverFall (sentence_at section) (size section) × ReportedOrNot (paragraph_at section) (size section)

  sound_units : faulty_position section ≡ None → UnitsInOrder
  unfolding faulty_position faulty_at
  sound_units e =
      let f : (p : ℕ) → 2 ≤ p → p ≤ size section → (sentence_faulty p ≡ false) × (paragraph_faulty p ≡ false) =
      λ p h k. both_false (sentence_faulty p) (paragraph_faulty p) (first-range-none (faulty_at section) 2 (size section) e p h k) in
      (never_fall (sentence_at section) (size section) (λ p h k. (f p h k).0), reported (paragraph_at section) (size section) (λ p h k. (f p h k).1))

  units_sound : UnitsInOrder → faulty_position section ≡ None
  unfolding faulty_position faulty_at
  units_sound r =
      range-first-none (faulty_at section) 2 (size section)
      (λ p h k. let s = none_below (sentence_at section) (size section) r.0 p h k in let q = in_order (paragraph_at section) (size section) r.1 p h k in rw (s, q))

  -- Refusal 2 falls on no section whose nonzero sentence numbers never fall and whose paragraph numbers are reported or not, and on every other.
  pub faulty_position-none : (faulty_position section ≡ None)
      ↔ (NonzeroNeverFall (sentence_at section) (size section) × ReportedOrNot (paragraph_at section) (size section))
  faulty_position-none = (sound_units, units_sound)

-- ---- section_refusal

pub accepted-section : (section : List ℕ) → section_refusal section ≡ None → AcceptedSection section
unfolding section_refusal wrong_section
accepted-section section h =
    let a = tried-cons _ _ section h in
    let b = tried-cons _ _ section a.1 in
    let w = well_sized_lem 0 max_tokens section (cond-none (well_sized 0 max_tokens section) 0 a.0) in
    let units = (faulty_position-none section).0 b.0 in
    record { sized = w.long; few = w.at_most; sentences = units.0; paragraphs = units.1 }

-- ---- families_refusal

-- each word is above the one before it exactly where each is above all before it
module _ (families : List ℕ) where
  entries_rise : entry_out_of_order families ≡ None → RisingStrictly (first_at families) (size families)
  unfolding entry_out_of_order
  entries_rise e i j h k l = go j k l
    where
      above : (p : ℕ) → 1 ≤ p → suc p ≤ size families → first_at families p < first_at families (suc p)
      above p a b =
          let before : suc p - 1 ≡ p = omega arith in
          subst (λ (x : ℕ). first_at families x < first_at families (suc p)) before (leb-false _ _ (first-range-none (out_of_order families) 2 (size families) e (suc p) (omega arith) b))

      go : (j : ℕ) → i < j → j ≤ size families → first_at families i < first_at families j
      go zero k l = absurd (omega arith)
      go (suc j) k l =
          let last = above j (omega arith) l in
          let le : i ≤ j = omega arith in
          ⊎_elim (λ q. subst (λ (x : ℕ). first_at families x < first_at families (suc j)) (sym q) last) (λ q. omega (arith, go j q (omega arith), last)) (eq-or-lt_of_le le)

  rising-entries : RisingStrictly (first_at families) (size families) → entry_out_of_order families ≡ None
  unfolding entry_out_of_order
  rising-entries r = range-first-none (out_of_order families) 2 (size families) (λ p h k. lt-leb _ _ (r (p - 1) p (omega arith) (omega arith) k))

  -- Refusal 13 at an entry falls on no table whose words rise strictly, and on every other.
  pub entry_out_of_order-none : (entry_out_of_order families ≡ None) ↔ RisingStrictly (first_at families) (size families)
  entry_out_of_order-none = (entries_rise, rising-entries)

pub accepted_families : (families : List ℕ) → families_refusal families ≡ None → AcceptedFamilies families
unfolding families_refusal wrong_families
accepted_families families h =
    let a = tried-cons _ _ families h in
    let b = tried-cons _ _ families a.1 in
    let w = well_sized_lem 0 max_entries families (cond-none (well_sized 0 max_entries families) 0 a.0) in
    record { sized = w.long; few = w.at_most; rising = (entry_out_of_order-none families).0 b.0 }

-- ---- wrong_selection, unknown_kind, wrong_operand

-- refusals 3, 4 and 5 that do not fall
pub sized-selection : (sel : List ℕ) → wrong_selection sel ≡ None → WellSized 1 max_codes sel
unfolding wrong_selection
sized-selection sel h = well_sized_lem 1 max_codes sel (cond-none (well_sized 1 max_codes sel) 0 h)

pub known_kinds : (sel : List ℕ) → unknown_kind sel ≡ None → (c : ℕ) → 1 ≤ c → c ≤ size sel → kind_at sel c ≤ 17
unfolding unknown_kind
known_kinds sel h c l g = omega (arith, leb-false 18 (kind_at sel c) (first-range-none (λ i. leb 18 (kind_at sel i)) 1 (size sel) h c l g))

pub fitting_operands : (sel : List ℕ) → wrong_operand sel ≡ None → (c : ℕ) → 1 ≤ c → c ≤ size sel → operand_fits (kind_at sel c) (operand_at sel c) ≡ true
unfolding wrong_operand
fitting_operands sel h c l g = not-false _ (first-range-none (λ i. not (operand_fits (kind_at sel i) (operand_at sel i))) 1 (size sel) h c l g)

-- ---- has_not

any_words : (ws : List ℕ) → any_of is_not_code (map a_word ws) ≡ false
unfolding any_of
any_words [] = refl
any_words (w ∷ ws) = any_words ws

any_both : (xs ys : List Tree) (cs ds : List Shape) → any_of is_not xs ≡ any_of is_not_code cs → any_of is_not ys ≡ any_of is_not_code ds
    → any_of is_not (xs ++ ys) ≡ any_of is_not_code (cs ++ ds)
any_both xs ys cs ds e f = any_append is_not xs ys ∙ ap₂ (λ (a b : Bool). a || b) e f ∙ sym (any_append is_not_code cs ds)

-- a tree has a not where its codes have one
pub has_not_lem : (t : Tree) → has_not t ≡ any_of is_not_code (postfix t)
unfolding parts postfix any_of
has_not_lem (phrase c r ws) = any_both [] (phrase c r ws ∷ []) (map a_word ws) (a_phrase (length ws) ∷ []) (sym (any_words ws)) refl
has_not_lem (pair k c t u) =
    let sides = any_both (parts t) (parts u) (postfix t) (postfix u) (has_not_lem t) (has_not_lem u) in
    any_both (parts t ++ parts u) (pair k c t u ∷ []) (postfix t ++ postfix u) (a_pair k ∷ []) sides refl
has_not_lem (change k c t) = any_both (parts t) (change k c t ∷ []) (postfix t) (a_change k ∷ []) (has_not_lem t) refl

-- ---- selection_refusal

-- a phrase whose operand fits has a word
has_words_lem : (k o : ℕ) → operand_fits k o ≡ true → has_words (shape_of (code_of k o)) ≡ true
unfolding operand_fits
has_words_lem k o h = shape_cases (λ x. has_words x ≡ true) k o (λ e. refl) Some (λ l q. refl) (λ l q. refl)
  where
    Some : k ≡ 1 → leb 1 o ≡ true
    Some e = (both_true (leb 1 o) (leb o max_waiting) (ap (λ (n : ℕ). operand_fits n o) (sym e) ∙ h)).0

-- a selection that passes the rule is its tree
tree-spelt : (sel : List ℕ) → well_formed (shapes_of sel) ≡ true → (postfix (tree_of sel) ≡ shapes_of sel) × (renumbered 1 1 (tree_of sel) ≡ tree_of sel)
unfolding tree_of top_tree
tree-spelt sel well =
    let P = parsed (shapes_of sel) well in
    let is : tree_of sel ≡ P.tree = ap top_tree P.alone in
    (ap postfix is ∙ P.spelt, ap (renumbered 1 1) is ∙ P.numbered ∙ sym is)

-- what holds of a selection that is not refused
pub accepted-selection : (sel : List ℕ) → selection_refusal sel ≡ None → AcceptedSelection sel
unfolding selection_refusal wrong_shape not_over_phrase not_under_mild_not shapes_of
accepted-selection sel h =
    let three = tried-cons _ _ sel h in
    let four = tried-cons _ _ sel three.1 in
    let five = tried-cons _ _ sel four.1 in
    let six = tried-cons _ _ sel five.1 in
    let twelve = tried-cons _ _ sel six.1 in
    let seven = tried-cons _ _ sel twelve.1 in
    let size_is = sized-selection sel three.0 in
    let operands = fitting_operands sel five.0 in
    let codes = all_up_to (shape_at sel) has_words (size sel) (λ c l g. has_words_lem (kind_at sel c) (operand_at sel c) (operands c l g)) in
    let well = (misfit_none (shapes_of sel)).0 six.0 in
    let tree = tree-spelt sel well in
    let words = ap (all_of has_words) tree.0 ∙ codes in
    let half = phrases-few (tree_of sel) words in
    record {
      sized = size_is.long;
      at_least = size_is.at_least;
      few = size_is.at_most;
      known = known_kinds sel four.0;
      operands = operands;
      well = well;
      spelt = tree.0;
      numbered = tree.1;
      ranks = ranks_to max_phrases 1 1 (tree_of sel) tree.1 (omega arith) (omega (arith, size_is.at_most, ap length tree.0, length-up_to (shape_at sel) (size sel))) words;
      over_phrases = (map-eq-none_iff place_of (first occurs_over_other (parts (tree_of sel)))).0 twelve.0;
      no_not = (map-eq-none_iff place_of (first mild_over_not (parts (tree_of sel)))).0 seven.0;
    }

-- its tree is the part that ends at its last code
unfoldable pub accepted-part : (sel : List ℕ) → AcceptedSelection sel → PartAt (shape_at sel) (size sel)
unfolding codes_of_trees shapes_of phrases_all
accepted-part sel a = record { tree = tree_of sel; below = []; spells = sym a.spelt; numbered = a.numbered }

-- ---- input_refusal

-- where nothing refuses the inputs, nothing refuses the section, the table or the selection
pub input_none : (section families selection : List ℕ) → input_refusal section families selection ≡ None
    → (section_refusal section ≡ None) × (families_refusal families ≡ None) × (selection_refusal selection ≡ None)
unfolding input_refusal
input_none section families selection h =
    let first = otherwise-none (section_refusal section) (otherwise (families_refusal families) (selection_refusal selection)) h in
    let later = otherwise-none (families_refusal families) (selection_refusal selection) first.1 in
    (first.0, later.0, later.1)
