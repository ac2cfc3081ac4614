-- 'Every string has P' of a list of strings, of a match and of a list of matches, and what every string of a complete AllMatches has: a span within
-- the section, and the rank of a phrase as its query position.
use Rattle.std.specs.Prelude.{ℕ, ◌≤◌, List, length}
use Rattle.model.specs.Lists.{Every}
use Rattle.model.specs.Matches.{Str, Match}
use Rattle.model.specs.Trees.{Tree, phrase, pair, change}

module _ (P : Str → Type 0) where
  abbrev pub AllStrs : List Str → Type 0
  AllStrs ss = Every P ss

  pub record AllMatch (m : Match) : Type 0 where
    pub includes : AllStrs m.includes
    pub excludes : AllStrs m.excludes

  abbrev pub AllList : List Match → Type 0
  AllList ms = Every AllMatch ms

-- a span in positions 1 to n
pub record Within (n : ℕ) (s : Str) : Type 0 where
  pub from_one : 1 ≤ s.start
  pub in_order : s.start ≤ s.end
  pub up_to : s.end ≤ n

-- a query position of 1 to r
pub record Ranked (r : ℕ) (s : Str) : Type 0 where
  pub from_one : 1 ≤ s.query
  pub up_to : s.query ≤ r

-- every phrase of a tree has P, as its rank and its words
unfoldable pub EveryPhrase : (ℕ → List ℕ → Type 0) → Tree → Type 0
EveryPhrase P (phrase c rank ws) = P rank ws
EveryPhrase P (pair k c t u) = EveryPhrase P t × EveryPhrase P u
EveryPhrase P (change k c t) = EveryPhrase P t

-- a rank of 1 to r, and at least one word
pub record RankUpTo (r rank : ℕ) (words : List ℕ) : Type 0 where
  pub from_one : 1 ≤ rank
  pub up_to : rank ≤ r
  pub has_word : 1 ≤ length words

abbrev pub RanksUpTo : ℕ → Tree → Type 0
RanksUpTo r t = EveryPhrase (RankUpTo r) t
