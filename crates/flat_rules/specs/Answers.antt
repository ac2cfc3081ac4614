-- What a rule's function says: it reads the text from a reader's position on as the grammar's rule does, and writes the codes after those before.
use Rattle.std.specs.Prelude.{ℕ, ◌+◌, ◌≤◌, ◌<◌, ◌≡◌, ◌^◌, List, [], ◌∷◌, Result, Ok, Err}
use Rattle.model.specs.declared.Code.{Code}
use Rattle.model.specs.declared.Code.TheVariants.{Word}
use Rattle.model.specs.declared.Refusal.{Refusal}
use Rattle.model.specs.Limits.{max_number, max_word}
use Rattle.model.specs.Selection.{operand_of}
use Rattle.grammar.specs.Grammar.{Outcome, failed, read, number, Rule}
use Rattle.lent_text.specs.State.{State, left, stream_of}
use Rattle.lent_text.specs.Written.{Written}

-- what a rule's function answers
abbrev pub Answer : Type 0
Answer = Result (Unit {0}) Refusal

-- a byte further at least, and no more codes than bytes read
pub record Further (s e : State) : Type 0 where
  pub fewer : left e < left s
  pub few : e.codes.count + left e ≤ s.codes.count + left s

-- .. or no further
pub record NoLess (s e : State) : Type 0 where
  pub fewer : left e ≤ left s
  pub few : e.codes.count + left e ≤ s.codes.count + left s

pub record ReadsTo (o : Outcome) (s e : State) : Type 0 where
  pub codes : List Code
  pub is : o ≡ read codes (stream_of e)
  pub written : Written codes s.codes e.codes

-- what an answer says of the outcome of a rule
unfoldable pub Says : Outcome → (s e : State) → Answer → Type 0
Says o s e (Ok u) = ReadsTo o s e
Says o s e (Err r) = o ≡ failed r.reason r.place

unfoldable pub Went : (s e : State) → Answer → Type 0
Went s e (Ok u) = Further s e
Went s e (Err r) = Unit {0}

-- The rule with any number of turns that is at least the bytes left.
pub record Answers (rule : ℕ → Rule) (s e : State) (r : Answer) : Type 0 where
  pub went : Went s e r
  pub says : (n : ℕ) → left s ≤ n → Says (rule n (stream_of s)) s e r

-- .. of a rule that may read nothing, with any number of turns above the bytes left
unfoldable pub WentMany : (s e : State) → Answer → Type 0
WentMany s e (Ok u) = NoLess s e
WentMany s e (Err r) = Unit {0}

pub record AnswersMany (rule : ℕ → Rule) (s e : State) (r : Answer) : Type 0 where
  pub went : WentMany s e r
  pub says : (n : ℕ) → left s < n → Says (rule n (stream_of s)) s e r

-- a closure makes the code that f makes of each number
abbrev pub Makes : (ℕ → Code → Type 0) → (ℕ → Code) → Type 0
Makes calls f = (n : ℕ) (c : Code) → n ≤ max_number → calls n c → c ≡ f n

-- .. and that of each two numbers
abbrev pub MakesBoth : (ℕ → ℕ → Code → Type 0) → (ℕ → ℕ → Code) → Type 0
MakesBoth calls f = (a b : ℕ) (c : Code) → a ≤ max_number → b ≤ max_number → calls a b c → c ≡ f a b

-- the codes that it makes have operands of 32 bits
abbrev pub Fit : (ℕ → Code → Type 0) → Type 0
Fit calls = (n : ℕ) (c : Code) → n ≤ max_number → calls n c → operand_of c < 2 ^ 32

abbrev pub FitBoth : (ℕ → ℕ → Code → Type 0) → Type 0
FitBoth calls = (a b : ℕ) (c : Code) → a ≤ max_number → b ≤ max_number → calls a b c → operand_of c < 2 ^ 32

-- a word of a phrase, as a rule
unfoldable pub one_word : Rule
one_word = number max_word (λ v rest. read (Word v ∷ []) rest)
