-- What laws and contracts say of codes, trees and parts: a tree's codes and numbering, the waiting rule over many codes, and the part that ends
-- at a place. None of it is part of the meaning.
use Rattle.std.specs.Prelude.{ℕ, zero, suc, ◌+◌, ◌-◌, Bool, true, false, not, ◌&&◌, cond, List, [], ◌∷◌, ◌++◌, map, ◌≡◌, eqb, leb, length}
use Rattle.model.specs.Kinds.{Shape, a_word, a_phrase, a_pair, a_change, negated, filtered, occurring, counts_as_not, is_word, arity}
use Rattle.model.specs.declared.Code.{Code}
use Rattle.model.specs.declared.Code.TheVariants.{Word, Phrase, Combine, Not, Filter as Filtered, Occurs}
use Rattle.model.specs.declared.Filter.{Filter}
use Rattle.model.specs.declared.Filter.TheVariants.{Ordered, Window, Distance, SameSentence, SameParagraph, DifferentSentence, DifferentParagraph, AtStart, AtEnd, EntireContent}
use Rattle.model.specs.declared.Pair.TheVariants.{Or, And, MildNot}
use Rattle.model.specs.declared.Times.{Times}
use Rattle.model.specs.declared.Times.TheVariants.{FromTo, AtLeast}
use Rattle.model.specs.Selection.{up_to}
use Rattle.model.specs.Waiting.{fits, lists_after, words_after, is_complete}
use Rattle.model.specs.Trees.{Tree, phrase, pair, change, State, read, fresh, top_tree, parts}

-- ---- tests of one code

-- every code but a word ends a part
abbrev pub parts_ended : Shape → ℕ
parts_ended c = cond (is_word c) 0 1

unfoldable pub part_count : List Shape → ℕ
part_count [] = 0
part_count (c ∷ cs) = parts_ended c + part_count cs

-- of these only a phrase takes no list
abbrev pub phrases_ended : Shape → ℕ
phrases_ended c = cond (is_word c) 0 (cond (eqb (arity c) 0) 1 0)

abbrev pub is_phrase_code : Shape → Bool
is_phrase_code (a_word w) = false
is_phrase_code (a_phrase k) = true
is_phrase_code (a_pair k) = false
is_phrase_code (a_change k) = false

abbrev pub is_occurs_code : Shape → Bool
is_occurs_code (a_word w) = false
is_occurs_code (a_phrase k) = false
is_occurs_code (a_pair k) = false
is_occurs_code (a_change negated) = false
is_occurs_code (a_change (filtered f)) = false
is_occurs_code (a_change (occurring k)) = true

-- what refusal 7 counts as a not
abbrev pub is_not_code : Shape → Bool
is_not_code (a_word w) = false
is_not_code (a_phrase k) = false
is_not_code (a_pair k) = false
is_not_code (a_change k) = counts_as_not k

abbrev pub is_mild_not : Shape → Bool
is_mild_not (a_word w) = false
is_mild_not (a_phrase k) = false
is_mild_not (a_pair Or) = false
is_mild_not (a_pair And) = false
is_mild_not (a_pair MildNot) = true
is_mild_not (a_change k) = false

-- a phrase of at least one word, and every other code
abbrev pub has_words : Shape → Bool
has_words (a_word w) = true
has_words (a_phrase k) = leb 1 k
has_words (a_pair k) = true
has_words (a_change k) = true

-- the second number of a distance or of an occurs from a to b, which an operand holds where it is below the radix
abbrev pub most_in : Filter → ℕ
most_in Ordered = 0
most_in (Window n) = 0
most_in (Distance a b) = b
most_in SameSentence = 0
most_in SameParagraph = 0
most_in DifferentSentence = 0
most_in DifferentParagraph = 0
most_in AtStart = 0
most_in AtEnd = 0
most_in EntireContent = 0

abbrev pub most_times : Times → ℕ
most_times (FromTo a b) = b
most_times (AtLeast a) = 0

abbrev pub most_of : Code → ℕ
most_of (Word w) = 0
most_of (Phrase k) = 0
most_of (Combine k) = 0
most_of Not = 0
most_of (Filtered f) = most_in f
most_of (Occurs k) = most_times k

-- ---- a tree's codes and numbering

-- a tree's codes
unfoldable pub postfix : Tree → List Shape
postfix (phrase c r ws) = map a_word ws ++ a_phrase (length ws) ∷ []
postfix (pair k c t u) = postfix t ++ postfix u ++ a_pair k ∷ []
postfix (change k c t) = postfix t ++ a_change k ∷ []

unfoldable pub phrases : Tree → ℕ
phrases (phrase c r ws) = 1
phrases (pair k c t u) = phrases t + phrases u
phrases (change k c t) = phrases t

-- the tree as numbered where its first code has the given place and its first phrase the given rank
unfoldable pub renumbered : ℕ → ℕ → Tree → Tree
renumbered p r (phrase c s ws) = phrase (p + length ws) r ws
renumbered p r (pair k c t u) = pair k (p + length (postfix t) + length (postfix u)) (renumbered p r t) (renumbered (p + length (postfix t)) (r + phrases t) u)
renumbered p r (change k c t) = change k (p + length (postfix t)) (renumbered p r t)

-- ---- trees that wait, the last first

abbrev pub state : List Tree → List ℕ → ℕ → ℕ → State
state trees words place rank = record { trees = trees; words = words; place = place; rank = rank }

-- the codes of trees that wait
unfoldable pub codes_of_trees : List Tree → List Shape
codes_of_trees [] = []
codes_of_trees (t ∷ ts) = codes_of_trees ts ++ postfix t

unfoldable pub phrases_all : List Tree → ℕ
phrases_all [] = 0
phrases_all (t ∷ ts) = phrases_all ts + phrases t

-- the place and the rank that come next after trees that wait
abbrev pub place_after : List Tree → ℕ
place_after ts = 1 + length (codes_of_trees ts)

abbrev pub rank_after : List Tree → ℕ
rank_after ts = 1 + phrases_all ts

-- the parts of trees that wait, in the order of their codes
unfoldable pub waiting_parts : List Tree → List Tree
waiting_parts [] = []
waiting_parts (t ∷ ts) = waiting_parts ts ++ parts t

-- the part that a code ends, where the given trees wait after it
abbrev pub part_ended_by : Shape → List Tree → List Tree
part_ended_by c ts = cond (is_word c) [] (top_tree ts ∷ [])

-- ---- the waiting rule over many codes

-- every code fits where it stands
unfoldable pub fits_all : List Shape → ℕ → ℕ → Bool
fits_all [] w p = true
fits_all (c ∷ cs) w p = fits c w p && fits_all cs (lists_after c w) (words_after c p)

-- the lists and the words that wait after all of them
unfoldable pub lists_all : List Shape → ℕ → ℕ
lists_all [] w = w
lists_all (c ∷ cs) w = lists_all cs (lists_after c w)

unfoldable pub words_all : List Shape → ℕ → ℕ
words_all [] p = p
words_all (c ∷ cs) p = words_all cs (words_after c p)

-- the whole rule
unfoldable pub well_formed : List Shape → Bool
well_formed codes = fits_all codes 0 0 && is_complete (lists_all codes 0) (words_all codes 0)

-- ---- the part that ends at a place

-- Walking back, n trees are still to be found. With none left the walk goes on over words, and stops after the first code that is no word.
abbrev pub stops : Shape → ℕ → Bool
stops c n = not (is_word c) && eqb n 0

-- how many are still to be found before a code
abbrev pub trees_needed : Shape → ℕ → ℕ
trees_needed c n = cond (is_word c) n (n + arity c - 1)

-- how many codes stand before the trees found, walking back from the place i
unfoldable pub scan_back : (ℕ → Shape) → ℕ → ℕ → ℕ
scan_back at zero n = zero
scan_back at (suc i) n = let before = scan_back at i (trees_needed (at (suc i)) n) in cond (stops (at (suc i)) n) (suc i) before

-- how many codes stand before the part that ends at the place hi
unfoldable pub part_start : (ℕ → Shape) → ℕ → ℕ
part_start at hi = scan_back at hi 1

-- The first hi codes spell trees. The last of them is the part that ends at hi, with the places and ranks that it has in the whole.
pub record PartAt (at : ℕ → Shape) (hi : ℕ) : Type 0 where
  pub tree : Tree
  pub below : List Tree
  pub spells : up_to at hi ≡ codes_of_trees (tree ∷ below)
  pub numbered : renumbered (place_after below) (rank_after below) tree ≡ tree

-- what waits after n codes from the place lo + 1 on, where nothing waited before them
unfoldable pub state_at : (ℕ → Shape) → ℕ → ℕ → ℕ → State
state_at at lo rank zero = fresh (lo + 1) rank
state_at at lo rank (suc n) = read (at (lo + suc n)) (state_at at lo rank n)
