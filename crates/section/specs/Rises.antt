-- How far the paragraph numbers rise between two positions: each place less the one before it, modulo 2^32, and of that the upper half, summed.
use Rattle.std.specs.Prelude.{◌≡◌, ℕ, ◌+◌, ◌-◌, ◌*◌, ◌<◌, ◌≤◌, List}
use Rattle.model.specs.Limits.{radix}
use Rattle.model.specs.Section.{paragraph_at, sentence_at}

-- neither number of position q is below that of the position before it
pub record NoFall (section : List ℕ) (q : ℕ) : Type 0 where
  pub in_sentence : sentence_at section (q - 1) ≤ sentence_at section q
  pub in_paragraph : paragraph_at section (q - 1) ≤ paragraph_at section q

-- The sum from one position to another is short by 1 for each fall of the sentence number, and over by 65,536 for each fall of the place
-- (paragraph × 65,536 + sentence).
pub record SummedRises (section : List ℕ) (from to sum : ℕ) : Type 0 where
  pub sentence_falls : ℕ
  pub place_falls : ℕ
  pub few : from + sentence_falls ≤ to
  pub bounded : sum ≤ (radix - 1) * (to - from)
  pub balance : sum + sentence_falls + paragraph_at section from ≡ paragraph_at section to + radix * place_falls
  pub no_falls : sentence_falls ≡ 0 → place_falls ≡ 0 → (q : ℕ) → from < q → q ≤ to → NoFall section q
