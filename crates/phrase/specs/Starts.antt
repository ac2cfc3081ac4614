-- Where the words of a phrase stand in a row.
use Rattle.std.specs.Prelude.{ℕ, ◌+◌, ◌≤◌, ◌<◌, true, List, Option, MatchOption, ◌≡◌}
use Rattle.model.specs.Accepted.{max_phrases}
use Rattle.model.specs.Limits.{max_tokens, max_waiting}
use Rattle.model.specs.Lists.{keep, from_to}
use Rattle.model.specs.Rules.{stand_from}
use Rattle.model.specs.Families.{Searched}

-- the starts from p on, ascending
unfoldable pub starts_from : Searched → List ℕ → ℕ → List ℕ
starts_from s words p = keep (stand_from s words) (from_to p s.section.tokens)

-- no start from `from` on lies before p, which isn't after `to`
pub record Skipped (s : Searched) (words : List ℕ) (from to p : ℕ) : Type 0 where
  pub not_before : from ≤ p
  pub up_to : p ≤ to
  pub same : starts_from s words from ≡ starts_from s words p

-- p is the first start from `from` on and before `to`, or `to` where there is none
pub record FirstStart (s : Searched) (words : List ℕ) (from to p : ℕ) : Type 0 where
  pub skipped : Skipped s words from to p
  pub stands : p < to → stand_from s words p ≡ true

-- the next start from `from` on, where there is one
abbrev pub NextStart : Searched → List ℕ → ℕ → Option ℕ → Type 0
NextStart s words from next =
    MatchOption next (Skipped s words from (s.section.tokens + 1) (s.section.tokens + 1)) (λ p. FirstStart s words from (s.section.tokens + 1) p × (p ≤ s.section.tokens))

-- in a memory of so many numbers, room at q for the find of k words at p, of a rank that a tag can hold
pub record Findable (size q p k rank : ℕ) : Type 0 where
  pub room : q + 3 ≤ size
  pub from_one : 1 ≤ p
  pub up_to : p ≤ max_tokens
  pub few_words : k ≤ max_waiting
  pub rank_up_to : rank ≤ max_phrases
