-- What the steps of building require of the lists that wait, and what they leave: the rule's list in place of those that it takes.
use Rattle.std.specs.Prelude.{ℕ, ◌+◌, ◌≤◌, ◌<◌, List, ◌∷◌, map, ◌≡◌, length}
use Rattle.model.specs.AllStrings.{AllList}
use Rattle.model.specs.Limits.{max_waiting, work_length}
use Rattle.model.specs.Matches.{Str, Match}
use Rattle.store.specs.Built.{Built, made, built_of}
use Rattle.store.specs.ValidStr.{ValidStr}
use Rattle.store.specs.Layout.{scratch, slot_at}
use Rattle.store.specs.Outcome.{Outcome}
use Rattle.store.specs.Stack.{Stack}
use Rattle.occurs.specs.Finds.{find}

-- so many lists wait, and there is a slot for one more, the given one
pub record NoneTaken (new : List Match) (mem : List ℕ) (lists : ℕ) : Type 0 where
  pub rest : List (List Match)
  pub stack : Stack mem rest
  pub count : lists ≡ length rest
  pub few : lists < max_waiting
  pub room : work_length ≤ length mem
  pub valid : AllList ValidStr new

-- so many lists wait, and a rule takes the last
pub record OneTaken (rule : List Match → List Match) (mem : List ℕ) (lists : ℕ) : Type 0 where
  pub list : List Match
  pub rest : List (List Match)
  pub stack : Stack mem (list ∷ rest)
  pub count : lists ≡ 1 + length rest
  pub few : lists ≤ max_waiting
  pub room : work_length ≤ length mem
  pub valid : AllList ValidStr (rule list)

-- so many lists wait, and a rule takes the last, a phrase's
pub record FindsTaken (rule : List Match → List Match) (mem : List ℕ) (lists : ℕ) : Type 0 where
  pub taken : OneTaken rule mem lists
  pub finds : List Str
  pub finds_are : taken.list ≡ map find finds

-- so many lists wait, and a rule takes the last two
-- A clause, not a type: memory is lent to be written between the steps.
pub record TwoTaken (rule : List Match → List Match → List Match) (mem : List ℕ) (lists : ℕ) : Type 0 where
  pub lefts : List Match
  pub rights : List Match
  pub rest : List (List Match)
  pub stack : Stack mem (rights ∷ lefts ∷ rest)
  pub count : lists ≡ 2 + length rest
  pub few : lists ≤ max_waiting
  pub room : work_length ≤ length mem
  pub valid : AllList ValidStr (rule lefts rights)

-- a rule has answered for a list that it built in the slot for that; it is to wait at `at`, after the rest
pub record InScratch (mem : List ℕ) (at : ℕ) (built : Built) : Type 0 where
  pub list : List Match
  pub rest : List (List Match)
  pub before : List ℕ
  pub outcome : Outcome list before mem scratch built
  pub stack : Stack before rest
  pub place : at ≡ slot_at (length rest)
  pub few : length rest < max_waiting
  pub room : work_length ≤ length before
  pub valid : AllList ValidStr list

-- a list is answered for; where it is made, it waits after the rest
pub record Pushed (list : List Match) (rest : List (List Match)) (exit : List ℕ) (built : Built) : Type 0 where
  pub answered : built ≡ built_of list
  pub waits : (m s : ℕ) → built ≡ made m s → Stack exit (list ∷ rest)
