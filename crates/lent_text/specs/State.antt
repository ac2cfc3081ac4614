-- What a reader is to the rules, and what its methods say.
use Rattle.std.specs.Prelude.{ℕ, true, false, ◌+◌, ◌-◌, ◌≤◌, ◌<◌, ◌≡◌, ◌≢◌, List, [], ◌∷◌, length, eqb}
use Rattle.model.specs.declared.Code.{Code}
use Rattle.model.specs.declared.Refusal.{Refusal}
use Rattle.model.specs.declared.Reason.TheVariants.{UnexpectedToken}
use Rattle.model.specs.Limits.{max_text}
use Rattle.grammar.specs.Stream.{Stream, stream_at, rest_of, place_in}
use Rattle.grammar.specs.Grammar.{Rule, failed, number}
use Rattle.grammar.specs.Symbols.{no_more, symbol_in}
use Rattle.scanner.specs.declared.Token.{Token}
use Rattle.scanner.specs.declared.symbols.Symbol.{Symbol}
use Rattle.scanner.specs.Symbols.{number_of}
use Rattle.scanner.specs.Scanned.{Scanned}
use Rattle.lent_text.specs.declared.codes.Codes.{Codes}
use Rattle.lent_text.specs.Written.{Written, no_codes}

-- a text with a position in it, and the codes read before
pub record State : Type 0 where
  pub text : List ℕ
  pub at : ℕ
  pub codes : Codes

-- the tokens left
abbrev pub stream_of : State → Stream
stream_of s = stream_at s.text s.at

-- how many bytes are left
abbrev pub left : State → ℕ
left s = length s.text - s.at

-- What holds of every reader: the token is the first at the position, and there are no more codes than bytes read.
pub record Held (text : List ℕ) (token : Token) (count : ℕ) : Type 0 where
  pub short : length text ≤ max_text
  pub scanned : Scanned text token.start token
  pub few : count + (length text - token.start) ≤ max_text

-- a text is to be read on from a position, with the codes read before
pub record Resumed (text : List ℕ) (at : ℕ) (codes : Codes) (s : State) : Type 0 where
  pub stream_is : stream_of s ≡ stream_at text at
  pub left_is : left s ≤ length text - at
  pub codes_are : s.codes ≡ codes

-- a text is to be read
pub record Begins (text : List ℕ) (s : State) : Type 0 where
  pub stream_is : stream_of s ≡ stream_at text 0
  pub left_is : left s ≤ length text
  pub none : s.codes ≡ no_codes

-- a token was passed
pub record Passed (s e : State) : Type 0 where
  pub rest_is : stream_of e ≡ rest_of (stream_of s)
  pub left_is : left e ≤ left s
  pub fewer : symbol_in (stream_of s) ≢ no_more → left e < left s
  pub codes_are : e.codes ≡ s.codes

-- a token of a symbol was passed: a byte at least, so there is room for a code
pub record Took (symbol : Symbol) (s e : State) : Type 0 where
  pub is : eqb (symbol_in (stream_of s)) (number_of symbol) ≡ true
  pub rest_is : stream_of e ≡ rest_of (stream_of s)
  pub fewer : left e < left s
  pub room : e.codes.count + left e < max_text
  pub codes_are : e.codes ≡ s.codes

-- .. none is there
pub record Kept (symbol : Symbol) (s e : State) : Type 0 where
  pub is : eqb (symbol_in (stream_of s)) (number_of symbol) ≡ false
  pub same : e ≡ s

-- .. and it is asked for
pub record Missed (symbol : Symbol) (s : State) (r : Refusal) : Type 0 where
  pub is : eqb (symbol_in (stream_of s)) (number_of symbol) ≡ false
  pub refused : r ≡ record { reason = UnexpectedToken; place = place_in (stream_of s) }

-- a code was written
pub record Pushed (c : Code) (s e : State) : Type 0 where
  pub stream_is : stream_of e ≡ stream_of s
  pub left_is : left e ≡ left s
  pub written : Written (c ∷ []) s.codes e.codes

-- a number of at most `most` was read, and passed
pub record Numbered (most v : ℕ) (s e : State) : Type 0 where
  pub within : v ≤ most
  pub is : (next : ℕ → Rule) → number most next (stream_of s) ≡ next v (stream_of e)
  pub fewer : left e < left s
  pub room : e.codes.count + left e < max_text
  pub codes_are : e.codes ≡ s.codes

-- no such number is there
abbrev pub Unnumbered : ℕ → State → Refusal → Type 0
Unnumbered most s r = (next : ℕ → Rule) → number most next (stream_of s) ≡ failed r.reason r.place
