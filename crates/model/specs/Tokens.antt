-- Document 02, F-1: "A token is a quote, a parenthesis or a longest run of small letters or of digits; blanks (byte 32) part tokens; any other byte is a
-- token that the grammar doesn't allow."
use Rattle.std.specs.Prelude.{ℕ, suc, ◌+◌, ◌*◌, ◌-◌, ◌≤◌, ◌≡◌, List, [], ◌∷◌, ◌++◌, length}
use Rattle.model.specs.Lists.{Every}

abbrev pub blank : ℕ
blank = 32

abbrev pub quote : ℕ
quote = 34

abbrev pub opening : ℕ
opening = 40

abbrev pub closing : ℕ
closing = 41

-- The sort of a token is its byte; every digit counts as `0`, every small letter as `a`.
abbrev pub digit : ℕ
digit = 48

abbrev pub letter : ℕ
letter = 97

pub record Digit (b : ℕ) : Type 0 where
  pub low : 48 ≤ b
  pub high : b ≤ 57

pub record Letter (b : ℕ) : Type 0 where
  pub low : 97 ≤ b
  pub high : b ≤ 122

-- A token, with "the token's first byte counted from 1" as its place.
pub record Token : Type 0 where
  pub sort : ℕ
  pub place : ℕ
  pub bytes : List ℕ

-- "longest": nothing follows, or a byte of another sort
pub data Stops (T : ℕ → Type 0) : List ℕ → Type 0 where
  stops_end : Stops T []
  stops_other : {b : ℕ} {bs : List ℕ} → ¬ T b → Stops T (b ∷ bs)

-- `Tokens p bs ts`: the bytes bs, the first of them at place p, are the tokens ts.
pub data Tokens : ℕ → List ℕ → List Token → Type 0 where
  no_more : {p : ℕ} → Tokens p [] []
  a_blank : {p : ℕ} {bs : List ℕ} {ts : List Token} → Tokens (suc p) bs ts → Tokens p (blank ∷ bs) ts
  a_keyword : {p b : ℕ} {bs more : List ℕ} {ts : List Token} → Letter b → Every Letter bs → Stops Letter more → Tokens (suc p + length bs) more ts
      → Tokens p (b ∷ (bs ++ more)) (record { sort = letter; place = p; bytes = b ∷ bs } ∷ ts)
  a_number : {p b : ℕ} {bs more : List ℕ} {ts : List Token} → Digit b → Every Digit bs → Stops Digit more → Tokens (suc p + length bs) more ts
      → Tokens p (b ∷ (bs ++ more)) (record { sort = digit; place = p; bytes = b ∷ bs } ∷ ts)
  -- a quote, a parenthesis, any other byte
  a_sign : {p b : ℕ} {bs : List ℕ} {ts : List Token} → ¬ (b ≡ blank) → ¬ Letter b → ¬ Digit b → Tokens (suc p) bs ts
      → Tokens p (b ∷ bs) (record { sort = b; place = p; bytes = b ∷ [] } ∷ ts)

-- "Written numbers are base ten": the number that digits write, after a number already read
unfoldable pub number_from : ℕ → List ℕ → ℕ
number_from v [] = v
number_from v (b ∷ bs) = number_from (v * 10 + (b - digit)) bs

abbrev pub value_of : Token → ℕ
value_of t = number_from 0 t.bytes
