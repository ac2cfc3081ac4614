-- The answer of a text: the codes of the selection that its tokens are, or its first error. Document 02, F-1: "Errors, at the token's first byte counted
-- from 1, whichever token comes first: 10 where the grammar doesn't allow it (or length + 1), else 11 for a word number over 4,294,967,295 or another
-- number over 4,096; 11 at place 0, first of all, for too long a text".
use Rattle.std.specs.Prelude.{ℕ, suc, ◌≤◌, ◌<◌, List, [], ◌∷◌, ◌++◌, ◌⊎◌, ◌≡◌, length}
use Rattle.model.specs.declared.Code.{Code}
use Rattle.model.specs.declared.Reason.TheVariants.{UnexpectedToken, OverLimit}
use Rattle.model.specs.declared.Refusal.{Refusal}
use Rattle.model.specs.Checks.{refusal}
use Rattle.model.specs.Limits.{max_number, max_text, max_word}
use Rattle.model.specs.Productions.{Number, FTSelection}
use Rattle.model.specs.Tokens.{Token, Tokens, digit, value_of}

pub data TextAnswer : Type 0 where
  codes : List Code → TextAnswer
  error : Refusal → TextAnswer

-- Some selection begins with these tokens, of whatever length.
pub record Begins (ts : List Token) : Type 0 where
  pub more : List Token
  pub codes : List Code
  pub selection : FTSelection (ts ++ more) codes

-- A token like another: the same word or sign, or both are numbers.
pub record Alike (t u : Token) : Type 0 where
  pub sort : u.sort ≡ t.sort
  pub bytes : ¬ (t.sort ≡ digit) → u.bytes ≡ t.bytes

-- both end, or both go on with like tokens
pub data StartAlike : List Token → List Token → Type 0 where
  both_end : StartAlike [] []
  both_go_on : {t u : Token} {ts us : List Token} → Alike t u → StartAlike (t ∷ ts) (u ∷ us)

-- the place of the first of some tokens that stand last in a text, or of the text's end
abbrev pub first_place : ℕ → List Token → ℕ
first_place end [] = end
first_place end (t ∷ ts) = t.place

-- a point between the tokens of a text
pub record Point (tokens : List Token) (end place : ℕ) : Type 0 where
  pub before : List Token
  pub after : List Token
  pub parted : tokens ≡ before ++ after
  pub there : place ≡ first_place end after

-- "10 where the grammar doesn't allow it (or length + 1)": the tokens before the place begin a selection; none goes on with a token like the next one, or,
-- where the text ends, none ends there.
pub record NotAllowed (tokens : List Token) (end place : ℕ) : Type 0 where
  pub point : Point tokens end place
  pub begins : Begins point.before
  pub stops : (us : List Token) (cs : List Code) → StartAlike point.after us → ¬ FTSelection (point.before ++ us) cs

-- "else 11 for a word number over 4,294,967,295 or another number over 4,096": a selection goes on from there with every number within a limit, the text
-- with a number over it, and with that one no selection does. (Where a word number may stand, the lower limit is one of that sort too.)
pub record TooLarge (tokens : List Token) (end place : ℕ) : Type 0 where
  pub point : Point tokens end place
  pub most : ℕ
  pub limit : (most ≡ max_word) ⊎ (most ≡ max_number)
  pub large : Token
  pub later : List Token
  pub next : point.after ≡ large ∷ later
  pub digits : large.sort ≡ digit
  pub over : most < value_of large
  pub within : (n : Token) → Number most n → Begins (point.before ++ (n ∷ []))
  pub stops : ¬ Begins (point.before ++ (large ∷ []))

-- the answer of tokens, in a text whose end is at a place
pub data AnswerOfTokens (tokens : List Token) (end : ℕ) : TextAnswer → Type 0 where
  selects : {cs : List Code} → FTSelection tokens cs → AnswerOfTokens tokens end (codes cs)
  not_allowed : {place : ℕ} → NotAllowed tokens end place → AnswerOfTokens tokens end (error (refusal UnexpectedToken place))
  too_large : {place : ℕ} → TooLarge tokens end place → AnswerOfTokens tokens end (error (refusal OverLimit place))

-- `AnswerOf text a`: the answer of the text is a. Every text has exactly one (theorems/specs/Requests.antt).
pub data AnswerOf (text : List ℕ) : TextAnswer → Type 0 where
  too_long : max_text < length text → AnswerOf text (error (refusal OverLimit 0))
  by_tokens : {ts : List Token} {a : TextAnswer} → length text ≤ max_text → Tokens 1 text ts → AnswerOfTokens ts (suc (length text)) a → AnswerOf text a

-- the text's answer has P
pub record ForAnswer (text : List ℕ) (P : TextAnswer → Type 0) : Type 0 where
  pub answer : TextAnswer
  pub answers : AnswerOf text answer
  pub holds : P answer
