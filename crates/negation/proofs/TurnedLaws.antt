-- A string in memory, turned: a tag's last bit is the string's sort, so that it is turned by its tag alone; and string number d of a match lies 2 × d
-- numbers after its header.
use Prim.Native.Nat.{ℕ, zero, suc, ◌+◌, ◌*◌, ◌/◌, ◌%◌, ◌≤◌, ◌<◌}
use native.Mathlib.Omega.{arith}
use mathlib.Core.Path.{◌≡◌, refl, sym, ap, ap₂, ◌∙◌, subst}
use mathlib.Core.Bool.{Bool, true, false, cond, true≢false}
use denote.Enum.Bare.{sameb}
use Rattle.strings.specs.contracts.packed.Sort.{the_type}
use Rattle.strings.specs.declared.packed.Sort.{Sort}
use Rattle.strings.specs.declared.packed.Sort.TheVariants.{Include, Exclude}
use mathlib.Core.List.{List, [], ◌∷◌, ◌++◌, map}
use borrow.Author.Tests.{eq-eqb, ne_eqb}
use lib.ListN.{length, get_or, length-append}
use Rattle.model.specs.Answers.{span_of, tag_of}
use Rattle.model.specs.Choices.{turned_strings}
use Rattle.model.specs.Matches.{Str, Match, strings_in}
use Rattle.model.specs.Rules.{no_strings, with_include, with_exclude}
use Rattle.strings.specs.Strings.{number_of_sort, strs_of}
use Rattle.strings.proofs.StringsLaws.{tag-turned}
use Rattle.store.specs.Put.{Put}
use Rattle.store.specs.Stream.{MatchHolds}
use Rattle.store.proofs.DecodeLaws.{strings_hold}
use Rattle.store.proofs.LayoutLaws.{length-strs_of}
use Rattle.store.proofs.MemoryLaws.{get_d_held}
use Rattle.store.proofs.PutLaws.{put-none}
use Rattle.negation.specs.Chosen.{TurnAt}
use Rattle.negation.specs.Turned.{side_numbers, turned_numbers}

-- ---- turned_numbers

module _ (sort span tag : ℕ) where
  turned_none : tag % 2 ≡ sort → turned_numbers sort span tag ≡ []
  unfolding turned_numbers
  turned_none h = rw (eq-eqb (tag % 2) sort h)

  turned-some : (tag % 2 ≡ sort → ⊥) → turned_numbers sort span tag ≡ span ∷ (tag / 2 * 2 + sort) ∷ []
  unfolding turned_numbers
  turned-some h = rw (ne_eqb (tag % 2) sort h)

-- ---- sorts

pub same_sort : (a b : Sort) → true ≡ sameb the_type a b → number_of_sort a ≡ number_of_sort b
same_sort Include Include e = refl
same_sort Include Exclude e = absurd (true≢false e)
same_sort Exclude Include e = absurd (true≢false e)
same_sort Exclude Exclude e = refl

pub other_sort : (a b : Sort) → false ≡ sameb the_type a b → number_of_sort a ≡ number_of_sort b → ⊥
other_sort Include Include e h = absurd (true≢false (sym e))
other_sort Include Exclude e h = omega arith
other_sort Exclude Include e h = omega arith
other_sort Exclude Exclude e h = absurd (true≢false (sym e))

-- ---- a string written again

module _ (mem : List ℕ) (a sort q : ℕ) where
  pub stays : get_or mem (a + 1) 0 % 2 ≡ sort → Put mem mem q (turned_numbers sort (get_or mem a 0) (get_or mem (a + 1) 0)) q
  stays h = rw (turned_none sort (get_or mem a 0) (get_or mem (a + 1) 0) h) (put-none mem q)

  module _ (h : get_or mem (a + 1) 0 % 2 ≡ sort → ⊥) where
    pub roomy : TurnAt mem a sort q → q + 2 ≤ length mem
    roomy w = rw (turned-some sort (get_or mem a 0) (get_or mem (a + 1) 0) h) at w.room

    pub turns : {exit : List ℕ} {span tag next : ℕ} → span ≡ get_or mem a 0 → tag ≡ get_or mem (a + 1) 0 / 2 * 2 + sort → Put mem exit q (span ∷ tag ∷ []) next
        → Put mem exit q (turned_numbers sort (get_or mem a 0) (get_or mem (a + 1) 0)) next
    turns {exit} {next = next} e f v =
        subst (λ xs. Put mem exit q xs next) (ap₂ (λ s t. s ∷ t ∷ []) e f ∙ sym (turned-some sort (get_or mem a 0) (get_or mem (a + 1) 0) h)) v

-- ---- the strings of a match

tag-sort : (q : ℕ) (c : Bool) (sort : ℕ) → sort ≤ 1 → (q * 4 + cond c 2 0 + sort) % 2 ≡ sort
tag-sort q true sort h = omega arith
tag-sort q false sort h = omega arith

str-kept : (sort : ℕ) (s : Str) → sort ≤ 1 → turned_numbers sort (span_of s) (tag_of sort s) ≡ []
str-kept sort s h = turned_none sort (span_of s) (tag_of sort s) (tag-sort s.query s.contiguous sort h)

str-turned : (old new : ℕ) (s : Str) → old ≤ 1 → (old ≡ new → ⊥) → turned_numbers new (span_of s) (tag_of old s) ≡ span_of s ∷ tag_of new s ∷ []
str-turned old new s h n =
    turned-some new (span_of s) (tag_of old s) (λ e. n (sym (tag-sort s.query s.contiguous old h) ∙ e))
    ∙ ap (λ t. span_of s ∷ t ∷ []) (tag-turned old new s h)

include_turned : (sort : ℕ) (s : Str) → sort ≤ 1 → turned_numbers sort (span_of s) (tag_of 0 s) ≡ side_numbers sort (with_exclude s no_strings)
unfolding side_numbers strs_of
include_turned zero s h = str-kept 0 s (omega arith)
include_turned (suc zero) s h = str-turned 0 1 s (omega arith) (λ e. omega arith)
include_turned (suc (suc k)) s h = absurd (omega arith)

exclude-turned : (sort : ℕ) (s : Str) → sort ≤ 1 → turned_numbers sort (span_of s) (tag_of 1 s) ≡ side_numbers sort (with_include s no_strings)
unfolding side_numbers strs_of
exclude-turned zero s h = str-turned 1 0 s (omega arith) (λ e. omega arith)
exclude-turned (suc zero) s h = str-kept 1 s (omega arith)
exclude-turned (suc (suc k)) s h = absurd (omega arith)

twice : (d : ℕ) → 2 * suc d ≡ suc (suc (2 * d))
twice d = omega arith

module _ (sort : ℕ) (o : sort ≤ 1) where
  -- string number d of includes and excludes after each other
  turned-at : (is es : List Str) (d : ℕ) → d < length is + length es
      → turned_numbers sort (get_or (strs_of 0 is ++ strs_of 1 es) (2 * d) 0) (get_or (strs_of 0 is ++ strs_of 1 es) (suc (2 * d)) 0)
      ≡ side_numbers sort (get_or (map (λ s. with_exclude s no_strings) is ++ map (λ s. with_include s no_strings) es) d no_strings)
  unfolding strs_of
  turned-at [] [] d h = absurd (omega arith)
  turned-at [] (e ∷ es) zero h = exclude-turned sort e o
  turned-at [] (e ∷ es) (suc d) h = rw twice (turned-at [] es d (omega arith))
  turned-at (i ∷ is) es zero h = include_turned sort i o
  turned-at (i ∷ is) es (suc d) h = rw twice (turned-at is es d (omega arith))

  -- .. and of a match in memory
  pub turned-held : {mem : List ℕ} {p : ℕ} {m : Match} (a d : ℕ) → a ≡ p + 1 → MatchHolds mem p m → d < strings_in m
      → turned_numbers sort (get_or mem (a + 2 * d) 0) (get_or mem (a + 2 * d + 1) 0) ≡ side_numbers sort (get_or (turned_strings m) d no_strings)
  unfolding turned_strings
  turned-held {mem} {p} {m} a d e r h =
      let X : List ℕ = strs_of 0 m.includes ++ strs_of 1 m.excludes in
      let n : length X ≡ 2 * strings_in m =
      omega (arith, length-append (strs_of 0 m.includes) (strs_of 1 m.excludes), length-strs_of 0 m.includes, length-strs_of 1 m.excludes) in
      let held = strings_hold r a e in
      let span : get_or mem (a + 2 * d) 0 ≡ get_or X (2 * d) 0 = get_d_held (2 * d) (omega arith) held in
      let tag : get_or mem (a + 2 * d + 1) 0 ≡ get_or X (suc (2 * d)) 0 = ap (λ k. get_or mem k 0) (omega arith) ∙ get_d_held (suc (2 * d)) (omega arith) held in
      ap₂ (turned_numbers sort) span tag ∙ turned-at m.includes m.excludes d h
