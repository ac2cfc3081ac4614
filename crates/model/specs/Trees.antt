-- A selection that keeps the waiting rule, as a tree. A node knows its code's place; a phrase knows also its rank among the phrases and its words.
use Rattle.std.specs.Prelude.{ℕ, ◌+◌, List, [], ◌∷◌, ◌++◌}
use Rattle.model.specs.Kinds.{Change, Shape, a_word, a_phrase, a_pair, a_change, shapes_of}
use Rattle.model.specs.declared.Pair.{Pair}

pub data Tree : Type 0 where
  phrase : (place rank : ℕ) → (words : List ℕ) → Tree
  pair : Pair → (place : ℕ) → (left right : Tree) → Tree
  change : Change → (place : ℕ) → (below : Tree) → Tree

-- the place of the code that ends the tree
unfoldable pub place_of : Tree → ℕ
place_of (phrase c r ws) = c
place_of (pair k c t u) = c
place_of (change k c t) = c

-- What waits while codes are read: trees, the last first; loose words in order; and the place and the rank that come next.
pub record State : Type 0 where
  pub trees : List Tree
  pub words : List ℕ
  pub place : ℕ
  pub rank : ℕ

-- a combination takes the last two trees, the earlier as its left side
unfoldable pub combine : Pair → ℕ → List Tree → List Tree
combine k c [] = []
combine k c (u ∷ []) = u ∷ []
combine k c (u ∷ t ∷ ts) = pair k c t u ∷ ts

-- a change takes the last one
unfoldable pub change_last : Change → ℕ → List Tree → List Tree
change_last k c [] = []
change_last k c (t ∷ ts) = change k c t ∷ ts

-- One code read; "Its query position is its rank among the kind-1 codes, from 1". Where it fits, a phrase's own words wait before it, and none before a
-- pair or a change.
unfoldable pub read : Shape → State → State
read (a_word w) s = record { trees = s.trees; words = s.words ++ w ∷ []; place = s.place + 1; rank = s.rank }
read (a_phrase k) s = record { trees = phrase s.place s.rank s.words ∷ s.trees; words = []; place = s.place + 1; rank = s.rank + 1 }
read (a_pair k) s = record { trees = combine k s.place s.trees; words = s.words; place = s.place + 1; rank = s.rank }
read (a_change k) s = record { trees = change_last k s.place s.trees; words = s.words; place = s.place + 1; rank = s.rank }

unfoldable pub read_all : List Shape → State → State
read_all [] s = s
read_all (c ∷ cs) s = read_all cs (read c s)

-- nothing waits, and the place and the rank that come first
abbrev pub fresh : ℕ → ℕ → State
fresh place rank = record { trees = []; words = []; place = place; rank = rank }

-- the last tree that waits. Of a selection that keeps the waiting rule it is the only one, and `[]` never comes
unfoldable pub top_tree : List Tree → Tree
top_tree [] = phrase 0 0 []
top_tree (t ∷ ts) = t

unfoldable pub tree_of : List ℕ → Tree
tree_of selection = top_tree (read_all (shapes_of selection) (fresh 1 1)).trees

-- The part of a code "is its code and every code below it": the parts in a tree, one for each code but those of kind 0, in postfix order.
unfoldable pub parts : Tree → List Tree
parts (phrase c r ws) = phrase c r ws ∷ []
parts (pair k c t u) = parts t ++ parts u ++ pair k c t u ∷ []
parts (change k c t) = parts t ++ change k c t ∷ []
