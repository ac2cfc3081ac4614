-- What a part is built from, and what waits before and after each of its codes.
use Rattle.std.specs.Prelude.{ℕ, ◌≤◌, true, false, List, map, ◌≡◌, length}
use Rattle.std.specs.Prelude.{Some, None}
use Rattle.model.specs.declared.Code.{Code}
use Rattle.model.specs.declared.Code.TheVariants.{Phrase, Filter as Filtered, Occurs}
use Rattle.model.specs.declared.Filter.TheVariants.{Window}
use Rattle.model.specs.declared.Times.TheVariants.{FromTo}
use Rattle.model.specs.Accepted.{AcceptedSection, AcceptedFamilies, AcceptedSelection, max_phrases}
use Rattle.model.specs.AllMatches.{all_matches}
use Rattle.model.specs.AllStrings.{RanksUpTo}
use Rattle.model.specs.Checks.{occurs_over_other}
use Rattle.model.specs.Kinds.{Shape, shape_of, shape_at}
use Rattle.model.specs.Limits.{max_waiting, work_length}
use Rattle.model.specs.Lists.{Every}
use Rattle.model.specs.Parts.{PartAt, part_ended_by, part_start, rank_after}
use Rattle.model.specs.Families.{Searched, searched_of}
use Rattle.model.specs.Section.{size}
use Rattle.model.specs.Trees.{State, Tree, read}
use Rattle.model.specs.Waiting.{fits}
use Rattle.model.specs.Walk.{first_too_long}
use Rattle.selection.specs.Phrases.{phrase_words}
use Rattle.store.specs.Built.{Built, made, over}
use Rattle.store.specs.Stack.{Stack}
use Rattle.window.specs.Inside.{WindowSize}

-- the part of an accepted selection that ends at hi, and memory enough to build it
pub record Buildable (section families selection mem : List ℕ) (lo hi rank : ℕ) : Type 0 where
  pub in_section : AcceptedSection section
  pub in_families : AcceptedFamilies families
  pub in_selection : AcceptedSelection selection
  pub part : PartAt (shape_at selection) hi
  pub lo_is : lo ≡ part_start (shape_at selection) hi
  pub rank_is : rank ≡ rank_after part.below
  pub up_to : hi ≤ size selection
  pub room : work_length ≤ length mem

-- The lists of the trees that wait lie in memory, so many, and the next code, at the place and with the rank that come next, fits.
pub record Waits (section families mem : List ℕ) (shape : Shape) (s : State) (place rank lists : ℕ) : Type 0 where
  pub accepted : AcceptedSection section
  pub accepted_families : AcceptedFamilies families
  pub stack : Stack mem (map (all_matches (searched_of section families)) s.trees)
  pub count : lists ≡ length s.trees
  pub place_is : place ≡ s.place
  pub rank_is : rank ≡ s.rank
  pub here : fits shape (length s.trees) (length s.words) ≡ true
  pub few_trees : length s.trees ≤ max_waiting
  pub few_words : length s.words ≤ max_waiting
  pub ranks : Every (RanksUpTo max_phrases) (read shape s).trees
  pub over_phrases : Every (λ t. occurs_over_other t ≡ false) (read shape s).trees
  pub room : work_length ≤ length mem

-- a phrase's words are those that wait, a window's number is in range, and of an occurs from a to b, a is at most b
pub record WaitsAt (section families selection mem : List ℕ) (code : Code) (place rank lists : ℕ) : Type 0 where
  pub state : State
  pub waits : Waits section families mem (shape_of code) state place rank lists
  pub words : (k : ℕ) → code ≡ Phrase k → phrase_words selection place ≡ state.words
  pub window : (n : ℕ) → code ≡ Filtered (Window n) → WindowSize n
  pub times : (a b : ℕ) → code ≡ Occurs (FromTo a b) → a ≤ b

-- After the code: either the list of the part that it ends is too long, or the lists of the trees that then wait lie in memory.
pub record After (s : Searched) (new trees : List Tree) (place : ℕ) (mem : List ℕ) (built : Built) : Type 0 where
  pub long : built ≡ over → first_too_long s new ≡ Some place
  pub valid : (m n : ℕ) → built ≡ made m n → first_too_long s new ≡ None
  pub stack : (m n : ℕ) → built ≡ made m n → Stack mem (map (all_matches s) trees)

abbrev pub AfterCode : Searched → Shape → State → ℕ → List ℕ → Built → Type 0
AfterCode s shape before place mem built = After s (part_ended_by shape (read shape before).trees) (read shape before).trees place mem built
