-- Where words of the phrase fit nowhere in a block of rows, no phrase starts in it.
use Prim.Native.Nat.{ℕ, ◌+◌, ◌≤◌, ◌<◌}
use native.Mathlib.Omega.{arith}
use mathlib.Core.Path.{◌≡◌, refl, ap, ◌∙◌}
use mathlib.Core.Bool.{Bool, true, false}
use mathlib.Core.List.{List}
use borrow.Author.Tests.{eqb-true, eqb-false, ne_eqb}
use lib.Dec.{eqb}
use lib.ListN.{length, get_or}
use Rattle.model.specs.Rules.{stand_from}
use Rattle.model.specs.Families.{Searched, equal_words}
use Rattle.slices.specs.Blocks.{Lacks, block_size}
use Rattle.phrase.specs.Blocks.{LacksPair}
use Rattle.phrase.specs.Starts.{Skipped}
use Rattle.phrase.proofs.RowsLaws.{stands_without}
use Rattle.phrase.proofs.StartsLaws.{skipped_all}

module _ {s : Searched} {words : List ℕ} {from to p : ℕ} (within : to + length words ≤ s.section.tokens + 2) (a : Skipped s words from to p) (h : p + block_size ≤ to) where
  -- by one word
  pub skip_block : (i : ℕ) → i < length words → ((q : ℕ) → q < block_size → s.fits (s.section.word (p + i + q)) (get_or words i 0) ≡ false)
      → Skipped s words from to (p + block_size)
  skip_block i in-i lacks =
      skipped_all block_size a (omega arith) h
      (λ q l. let place : p + q + i ≡ p + i + q = omega arith in
      stands_without s words (p + q) i in-i (omega arith) (ap (λ (at : ℕ). s.fits (s.section.word at) (get_or words i 0)) place ∙ lacks q l))

module _ (section words : List ℕ) {from to p : ℕ} (within : to + length words ≤ (equal_words section).section.tokens + 2) (a : Skipped (equal_words section) words from to p)
    (h : p + block_size ≤ to) where
  pub skip_without_word : (i : ℕ) → i < length words → Lacks section (p + i) (get_or words i 0) block_size → Skipped (equal_words section) words from to (p + block_size)
  skip_without_word i in-i lacks = skip_block within a h i in-i (λ q l. ne_eqb _ _ (lacks q l))

  -- by two of them in one row
  pub skip_without_pair : (i j : ℕ) → i < length words → j < length words → LacksPair section (p + i) (get_or words i 0) (p + j) (get_or words j 0) block_size
      → Skipped (equal_words section) words from to (p + block_size)
  skip_without_pair i j in-i in-j lacks =
      skipped_all block_size a (omega arith) h (λ q l. none q l (eqb (get_or section (p + i + q) 0) (get_or words i 0)) refl)
    where
      without : (q m : ℕ) → q < block_size → m < length words → (get_or section (p + m + q) 0 ≡ get_or words m 0 → ⊥) → stand_from (equal_words section) words (p + q) ≡ false
      without q m l k other =
          let place : p + m + q ≡ p + q + m = omega arith in
          stands_without (equal_words section) words (p + q) m k (omega arith) (ne_eqb _ _ (λ e. other (ap (λ at. get_or section at 0) place ∙ e)))

      none : (q : ℕ) → q < block_size → (t : Bool) → eqb (get_or section (p + i + q) 0) (get_or words i 0) ≡ t → stand_from (equal_words section) words (p + q) ≡ false
      none q l true e = without q j l in-j (lacks q l (eqb-true _ _ e))
      none q l false e = without q i l in-i (eqb-false _ _ e)
