-- The kin of a word: itself where it is out of the table, else the words gathered of its family.
use Prim.Native.Nat.{ℕ, ◌+◌, ◌≤◌, ◌<◌}
use native.Mathlib.Nat.{eq-or-lt_of_le}
use native.Mathlib.Omega.{arith}
use mathlib.Core.Path.{◌≡◌, refl, sym, ap, subst, ◌∙◌}
use mathlib.Core.Bool.{Bool, true, false, ◌||◌, or-false, or-true, true≢false, false≢true}
use mathlib.Core.List.{List, [], ◌∷◌, ◌++◌}
use mathlib.Core.Logic.{⊎_elim, ◌⊎◌, inl, inr}
use borrow.Author.Tests.{eqb-true, eq-eqb, ne_eqb}
use lib.Dec.{eqb}
use Rattle.model.proofs.TestsLaws.{lt-or-le}
use Rattle.std.specs.Prelude.{Option, Some, None}
use Rattle.model.specs.Accepted.{AcceptedFamilies}
use Rattle.model.specs.Families.{family_of, same_family, word_fits}
use Rattle.model.specs.Lists.{any_of}
use Rattle.model.specs.Section.{size, first_at, second_at}
use Rattle.model.proofs.ListsLaws.{any_append}
use Rattle.families.specs.Entries.{PassedBy}
use Rattle.families.specs.Kin.{KinOf, EntryBefore, Gathered}
use Rattle.families.proofs.EntriesLaws.{family_at, family_some}

-- ---- a word out of the table

one_equal : (token word : ℕ) → any_of (eqb token) (word ∷ []) ≡ eqb token word
unfolding any_of
one_equal token word = or-false (eqb token word)

same_none : (o : Option ℕ) → same_family o None ≡ false
same_none (Some f) = refl
same_none None = refl

-- it fits the tokens that it equals
pub fits_alone : (families : List ℕ) (token word : ℕ) → family_of families word ≡ None → word_fits families token word ≡ eqb token word
unfolding word_fits
fits_alone families token word e = rw (e, same_none (family_of families token)) (or-false (eqb token word))

pub kin_alone : (families : List ℕ) (word : ℕ) → family_of families word ≡ None → KinOf families word (word ∷ [])
kin_alone families word e token = fits_alone families token word e ∙ sym (one_equal token word)

-- ---- gathered

either : (a b : Bool) → (a || b) ≡ true → (a ≡ true) ⊎ (b ≡ true)
either true b e = inl refl
either false b e = inr e

module _ {families : List ℕ} {family : ℕ} where
  pub gather_none : Gathered families family [] 1
  unfolding any_of
  gather_none = record { some_entry = λ token t. absurd (false≢true t); every_entry = λ j h k e. absurd (omega arith) }

  -- on to the next entry of the family, or past the last
  pub gather_on : {kin : List ℕ} {from i : ℕ} → Gathered families family kin from → PassedBy families family from i → Gathered families family kin i
  gather_on {kin} {from} {i} g p =
      record {
        some_entry = λ token t. let b = g.some_entry token t in record { at = b.at; from_one = b.from_one; before = omega (arith, b.before, p.not_before); has_word = b.has_word; has_family = b.has_family };
        every_entry = λ j h k e. ⊎_elim (λ l. g.every_entry j h l e) (λ l. absurd (p.none_has j l k e)) (lt-or-le j from);
      }

  -- the word of an entry of the family more
  module _ {kin : List ℕ} {i : ℕ} (g : Gathered families family kin i) (from_one : 1 ≤ i) (has : second_at families i ≡ family) where
    pub gather_more : Gathered families family (kin ++ first_at families i ∷ []) (i + 1)
    gather_more = record { some_entry = some_entry; every_entry = every_entry }
      where
        found : (token : ℕ) → any_of (eqb token) (kin ++ first_at families i ∷ []) ≡ (any_of (eqb token) kin || eqb token (first_at families i))
        found token = any_append (eqb token) kin (first_at families i ∷ []) ∙ ap (any_of (eqb token) kin ||◌) (one_equal token (first_at families i))

        some_entry : (token : ℕ) → any_of (eqb token) (kin ++ first_at families i ∷ []) ≡ true → EntryBefore families (i + 1) token family
        some_entry token t =
            ⊎_elim
            (λ e. let b = g.some_entry token e in record { at = b.at; from_one = b.from_one; before = omega (arith, b.before); has_word = b.has_word; has_family = b.has_family })
            (λ e. record { at = i; from_one = from_one; before = omega arith; has_word = sym (eqb-true _ _ e); has_family = has })
            (either (any_of (eqb token) kin) (eqb token (first_at families i)) (sym (found token) ∙ t))

        every_entry : (j : ℕ) → 1 ≤ j → j < i + 1 → second_at families j ≡ family → any_of (eqb (first_at families j)) (kin ++ first_at families i ∷ []) ≡ true
        every_entry j h k e = let le : j ≤ i = omega arith in found (first_at families j) ∙ ⊎_elim here (λ b. rw (g.every_entry j h b e)) (eq-or-lt_of_le le)
          where
            here : j ≡ i → (any_of (eqb (first_at families j)) kin || eqb (first_at families j) (first_at families i)) ≡ true
            here q = rw (eq-eqb (first_at families j) (first_at families i) (ap (first_at families) q)) (or-true (any_of (eqb (first_at families j)) kin))

-- ---- the kin that are gathered: the words of a family that the word is in

module _ {families : List ℕ} (a : AcceptedFamilies families) (word family : ℕ) (e : family_of families word ≡ Some family) where
  module _ {kin : List ℕ} (g : Gathered families family kin (size families + 1)) (token : ℕ) where
    gathered_fits : any_of (eqb token) kin ≡ true → word_fits families token word ≡ true
    unfolding word_fits
    gathered_fits t =
        let b = g.some_entry token t in
        let f = family_at families token a.rising b.at b.from_one (omega (arith, b.before)) b.has_word in
        rw (f, e, eq-eqb (second_at families b.at) family b.has_family) (or-true (eqb token word))

    -- a token that isn't gathered isn't the word, and not in its family
    module _ (t : any_of (eqb token) kin ≡ false) where
      no_entry : (j : ℕ) → 1 ≤ j → j ≤ size families → first_at families j ≡ token → second_at families j ≡ family → ⊥
      no_entry j h k f q =
          true≢false (sym (g.every_entry j h (omega arith) q) ∙ subst (λ (x : ℕ). any_of (eqb x) kin ≡ false) (sym f) t)

      other_word : eqb token word ≡ false
      other_word = let b = family_some families word family e in ne_eqb token word (λ q. no_entry b.at b.from_one b.up_to (b.has_word ∙ sym q) b.has_family)

      by_family : (o : Option ℕ) → family_of families token ≡ o → word_fits families token word ≡ false
      unfolding word_fits
      by_family None f = rw (f, other_word)
      by_family (Some x) f =
          let b = family_some families token x f in
          rw (f, e, other_word, ne_eqb x family (λ q. no_entry b.at b.from_one b.up_to b.has_word (b.has_family ∙ q)))

  pub kin_gathered : {kin : List ℕ} → Gathered families family kin (size families + 1) → KinOf families word kin
  kin_gathered {kin} g token = at (any_of (eqb token) kin) refl
    where
      at : (t : Bool) → any_of (eqb token) kin ≡ t → word_fits families token word ≡ t
      at true t = gathered_fits g token t
      at false t = by_family g token t (family_of families token) refl
