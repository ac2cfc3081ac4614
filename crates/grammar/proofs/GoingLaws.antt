-- How a rule goes: by the tokens that it reads and the one at which it stops, so from any rest that begins with the same symbol it does the same.
-- What it has read is derived; where it fails, what stands before that begins something derived.
use Prim.Native.Nat.{ℕ, ◌+◌, ◌≤◌, ◌<◌}
use Prim.Native.String.{String}
use native.Mathlib.Omega.{arith}
use mathlib.Core.Path.{◌≡◌, refl, sym, ap, ◌∙◌}
use mathlib.Core.Bool.{Bool, true, false, cond}
use mathlib.Core.List.{List, [], ◌∷◌, ◌++◌, append_assoc}
use mathlib.Core.Logic.{◌⊎◌}
use borrow.Author.Tests.{ne_eqb, eqb-true, leb-true, leb-false}
use lib.Dec.{eqb, leb}
use Rattle.model.specs.declared.Reason.{Reason}
use Rattle.model.specs.declared.Reason.TheVariants.{OverLimit, UnexpectedToken}
use Rattle.model.specs.declared.Code.{Code}
use Rattle.model.specs.Bytes.{bytes}
use Rattle.model.specs.Limits.{max_word, max_number}
use Rattle.model.specs.Productions.{Sign, Keyword, Number}
use Rattle.model.specs.Tokens.{Token, digit, letter, number_from, value_of}
use Rattle.grammar.specs.Stream.{Stream, ends, token, place_in, bytes_in, rest_of, value_in}
use Rattle.grammar.specs.Symbols.{no_more, s_number, symbol_of, symbol_in}
use Rattle.grammar.specs.Grammar.{Outcome, failed, read, Rule, prefixed, ◌then◌, refused, expect, number}
use Rattle.grammar.proofs.JoiningLaws.{◌⊕◌, join-append}
use Rattle.grammar.proofs.SymbolsLaws.{spelling, is_keyword, keyword_range, symbol_keyword, symbol_sort, number_symbol, number-within}

-- which tokens are derived, and with which codes
abbrev pub Production : Type 1
Production = List Token → List Code → Type 0

-- what P derives, Q does
abbrev pub Within : Production → Production → Type 0
Within P Q = (ts : List Token) (cs : List Code) → P ts cs → Q ts cs

-- a T, and after it what A derives, make what R derives
abbrev pub Joins : (Token → Type 0) → Production → Production → Type 0
Joins T A R = (t : Token) (vs : List Token) (ds : List Code) → T t → A vs ds → R (t ∷ vs) ds

-- so do a number, and after it what A derives with that number
abbrev pub NumberJoins : ℕ → (ℕ → Production) → Production → Type 0
NumberJoins most A R = (t : Token) (vs : List Token) (ds : List Code) → Number most t → A (value_of t) vs ds → R (t ∷ vs) ds

-- ---- rests that begin with the same symbol

pub record Near (a b : Stream) : Type 0 where
  pub symbol : symbol_in b ≡ symbol_in a

near_join : (pre : List Token) {a b : Stream} → Near a b → Near (pre ⊕ a) (pre ⊕ b)
unfolding ◌⊕◌
near_join [] n = n
near_join (t ∷ ts) n = record { symbol = refl }

-- ---- what is derived, and what begins it

pub record Viable (P : Production) (pre : List Token) : Type 0 where
  pub more : List Token
  pub codes : List Code
  pub holds : P (pre ++ more) codes

-- why a rule fails: the token is none that can stand there; or a number can, and this one is over its limit
pub data Why (P : Production) (pre : List Token) (rest : Stream) : Reason → Type 0 where
  ten : Viable P pre → Why P pre rest UnexpectedToken
  eleven : (most : ℕ) → (most ≡ max_word) ⊎ (most ≡ max_number) → symbol_in rest ≡ s_number → most < value_in rest
      → ((n : Token) → Number most n → Viable P (pre ++ (n ∷ []))) → Why P pre rest OverLimit

-- `r i` is the rule with i more fuel
pub data Went (P : Production) (r : ℕ → Rule) (ts : Stream) : Outcome → Type 0 where
  reads : {cs : List Code} {rest : Stream} (pre : List Token) → ts ≡ pre ⊕ rest → P pre cs
      → ((i : ℕ) (later : Stream) → Near rest later → r i (pre ⊕ later) ≡ read cs later) → Went P r ts (read cs rest)
  fails : {n : Reason} {place : ℕ} (pre : List Token) (rest : Stream) → ts ≡ pre ⊕ rest → place ≡ place_in rest → Why P pre rest n
      → ((i : ℕ) (later : Stream) → Near rest later → (n ≡ OverLimit → bytes_in later ≡ bytes_in rest) → r i (pre ⊕ later) ≡ failed n (place_in later))
      → Went P r ts (failed n place)

module _ {Q R : Production} where
  left_viable : (left : List Token) → ((ts : List Token) (cs : List Code) → Q ts cs → (ds : List Code) × R (left ++ ts) ds) → (pre : List Token)
      → Viable Q pre → Viable R (left ++ pre)
  left_viable left f pre v =
      let g = f (pre ++ v.more) v.codes v.holds in record { more = v.more; codes = g.0; holds = rw append_assoc g.1 }

  why_left : (left : List Token) → ((ts : List Token) (cs : List Code) → Q ts cs → (ds : List Code) × R (left ++ ts) ds)
      → {pre : List Token} {rest : Stream} {n : Reason} → Why Q pre rest n → Why R (left ++ pre) rest n
  why_left left f {pre} (ten v) = ten (left_viable left f pre v)
  why_left left f {pre} (eleven most l d o v) = eleven most l d o (λ n h. rw append_assoc (left_viable left f (pre ++ (n ∷ [])) (v n h)))

  right_viable : (right : List Token) → ((ts : List Token) (cs : List Code) → Q ts cs → (ds : List Code) × R (ts ++ right) ds) → (pre : List Token)
      → Viable Q pre → Viable R pre
  right_viable right f pre v =
      let g = f (pre ++ v.more) v.codes v.holds in record { more = v.more ++ right; codes = g.0; holds = rw append_assoc at g.1 }

  why_right : (right : List Token) → ((ts : List Token) (cs : List Code) → Q ts cs → (ds : List Code) × R (ts ++ right) ds)
      → {pre : List Token} {rest : Stream} {n : Reason} → Why Q pre rest n → Why R pre rest n
  why_right right f {pre} (ten v) = ten (right_viable right f pre v)
  why_right right f {pre} (eleven most l d o v) = eleven most l d o (λ n h. right_viable right f (pre ++ (n ∷ [])) (v n h))

  map_viable : Within Q R → (pre : List Token) → Viable Q pre → Viable R pre
  map_viable f pre v = record { more = v.more; codes = v.codes; holds = f _ _ v.holds }

  why_map : Within Q R → {pre : List Token} {rest : Stream} {n : Reason} → Why Q pre rest n → Why R pre rest n
  why_map f {pre} (ten v) = ten (map_viable f pre v)
  why_map f {pre} (eleven most l d o v) = eleven most l d o (λ n h. map_viable f (pre ++ (n ∷ [])) (v n h))

  pub went-map : {r : ℕ → Rule} {ts : Stream} {o : Outcome} → Within Q R → Went Q r ts o → Went R r ts o
  went-map f (reads pre e d a) = reads pre e (f _ _ d) a
  went-map f (fails pre rest e p y a) = fails pre rest e p (why_map f y) a

  -- one token before
  went_skip : {o : Outcome} (a : ℕ → Rule) (t : Token) (us : Stream) → ((vs : List Token) (ds : List Code) → Q vs ds → R (t ∷ vs) ds)
      → Went Q a us o → Went R (λ i vs. a i (rest_of vs)) (token t us) o
  unfolding ◌⊕◌
  went_skip a t us f (reads pre e d g) = reads (t ∷ pre) (ap (token t) e) (f _ _ d) g
  went_skip a t us f (fails pre rest e p y g) =
      fails (t ∷ pre) rest (ap (token t) e) p (why_left (t ∷ []) (λ vs ds q. (ds, f vs ds q)) y) g

-- ---- one rule and then another

pub data Seq (P Q : Production) : List Token → List Code → Type 0 where
  seq : {ts us : List Token} {cs ds : List Code} → P ts cs → Q us ds → Seq P Q (ts ++ us) (cs ++ ds)

module _ {P Q : Production} (r s : ℕ → Rule) (s₀ : Rule) (some : Viable Q []) (ts : Stream) where
  second : {cs : List Code} {rest : Stream} (pre : List Token) → ts ≡ pre ⊕ rest → P pre cs
      → ((i : ℕ) (later : Stream) → Near rest later → r i (pre ⊕ later) ≡ read cs later)
      → {o : Outcome} → Went Q s rest o → Went (Seq P Q) (λ i us. r i us then s i) ts (prefixed cs o)
  unfolding prefixed ◌then◌
  second {cs} pre e d g (reads next f h k) =
      reads (pre ++ next) (e ∙ ap (λ us. pre ⊕ us) f ∙ sym (join-append pre next _)) (seq d h)
      (λ i later n. rw (join-append pre next later, g i (next ⊕ later) (rw f (near_join next n)), k i later n))
  second {cs} pre e d g (fails next rest f p y k) =
      fails (pre ++ next) rest (e ∙ ap (λ us. pre ⊕ us) f ∙ sym (join-append pre next _)) p (why_left pre (λ us ds q. (cs ++ ds, seq d q)) y)
      (λ i later n b. rw (join-append pre next later, g i (next ⊕ later) (rw f (near_join next n)), k i later n b))

  pub went_then : {o : Outcome} → Went P r ts o
      → ((pre : List Token) (rest : Stream) (cs : List Code) → ts ≡ pre ⊕ rest → P pre cs → Went Q s rest (s₀ rest))
      → Went (Seq P Q) (λ i us. r i us then s i) ts (o then s₀)
  unfolding ◌then◌
  went_then (reads pre e d g) next = second pre e d g (next pre _ _ e d)
  went_then (fails pre rest e p y g) next =
      fails pre rest e p (why_right some.more (λ us cs d. (cs ++ some.codes, seq d some.holds)) y) (λ i later n b. rw (g i later n b))

pub went-both : {P Q : Production} (r s : Rule) → Viable Q [] → (ts : Stream) → Went P (λ i. r) ts (r ts)
    → ((rest : Stream) → Went Q (λ i. s) rest (s rest)) → Went (Seq P Q) (λ i us. r us then s) ts (r ts then s)
went-both r s some ts x y = went_then (λ i. r) (λ i. s) s some ts x (λ pre rest cs e d. y rest)

-- ---- tests of the first symbol

kept : (test : ℕ → Bool) (ts : Stream) (x : Bool) → test (symbol_in ts) ≡ x → (pre : List Token) (rest later : Stream) → ts ≡ pre ⊕ rest
    → Near rest later → test (symbol_in (pre ⊕ later)) ≡ x
kept test ts x h pre rest later e n = ap test ((near_join pre n).symbol ∙ sym (ap symbol_in e)) ∙ h

module _ {R : Production} (test : ℕ → Bool) (a : ℕ → Rule) (a₀ : Rule) (b : ℕ → Rule) (b₀ : Rule) (ts : Stream) where
  if_true : {o : Outcome} → test (symbol_in ts) ≡ true → Went R a ts o → Went R (λ i us. cond (test (symbol_in us)) (a i us) (b i us)) ts o
  if_true h (reads pre e d g) = reads pre e d (λ i later n. rw (kept test ts true h pre _ later e n) (g i later n))
  if_true h (fails pre rest e p y g) = fails pre rest e p y (λ i later n x. rw (kept test ts true h pre rest later e n) (g i later n x))

  if_false : {o : Outcome} → test (symbol_in ts) ≡ false → Went R b ts o → Went R (λ i us. cond (test (symbol_in us)) (a i us) (b i us)) ts o
  if_false h (reads pre e d g) = reads pre e d (λ i later n. rw (kept test ts false h pre _ later e n) (g i later n))
  if_false h (fails pre rest e p y g) = fails pre rest e p y (λ i later n x. rw (kept test ts false h pre rest later e n) (g i later n x))

  pub went_if : (test (symbol_in ts) ≡ true → Went R a ts (a₀ ts)) → (test (symbol_in ts) ≡ false → Went R b ts (b₀ ts))
      → Went R (λ i us. cond (test (symbol_in us)) (a i us) (b i us)) ts (cond (test (symbol_in ts)) (a₀ ts) (b₀ ts))
  went_if x y = at (test (symbol_in ts)) refl where
    at : (c : Bool) → test (symbol_in ts) ≡ c → Went R (λ i us. cond (test (symbol_in us)) (a i us) (b i us)) ts (cond c (a₀ ts) (b₀ ts))
    at true h = if_true h (x h)
    at false h = if_false h (y h)

-- ---- leaves

pub data Wrote (c : List Code) : List Token → List Code → Type 0 where
  wrote : Wrote c [] c

pub wrote-some : (c : List Code) → Viable (Wrote c) []
wrote-some c = record { more = []; codes = c; holds = wrote }

pub went-read : (c : List Code) (ts : Stream) → Went (Wrote c) (λ i us. read c us) ts (read c ts)
unfolding ◌⊕◌
went-read c ts = reads [] refl wrote (λ i later n. refl)

pub went-refused : {R : Production} → Viable R [] → (ts : Stream) → Went R (λ i us. refused us) ts (refused ts)
unfolding ◌⊕◌
went-refused v ts = fails [] ts refl refl (ten v) (λ i later n b. refl)

-- a token that a test takes
pub record Taken (test : ℕ → Bool) (T : Token → Type 0) : Type 0 where
  pub at_end : test no_more ≡ false
  pub is : (t : Token) → test (symbol_of t) ≡ true → T t

pub keyword_taken : (n : ℕ) → is_keyword n ≡ true → Taken (λ s. eqb s n) (Keyword (spelling n))
keyword_taken n k =
    record { at_end = ne_eqb no_more n (λ e. omega (arith, (keyword_range n k).1)); is = λ t h. symbol_keyword n k t (eqb-true _ _ h) }

pub sign_taken : (b : ℕ) → Taken (λ s. eqb s (100 + b)) (Sign b)
sign_taken b = record { at_end = ne_eqb no_more (100 + b) (λ e. omega arith); is = λ t h. record { is = symbol_sort t b (eqb-true _ _ h) } }

-- it takes the token and goes on after it, or does another thing
module _ {R A : Production} {T : Token → Type 0} (test : ℕ → Bool) (k : Taken test T) (a : ℕ → Rule) (a₀ : Rule) (b : ℕ → Rule) (b₀ : Rule)
    (f : Joins T A R) where
  pub went_case : (ts : Stream) → ((t : Token) (us : Stream) → ts ≡ token t us → T t → Went A a us (a₀ us))
      → (test (symbol_in ts) ≡ false → Went R b ts (b₀ ts))
      → Went R (λ i us. cond (test (symbol_in us)) (a i (rest_of us)) (b i us)) ts (cond (test (symbol_in ts)) (a₀ (rest_of ts)) (b₀ ts))
  went_case (ends p) x y = went_if test (λ i us. a i (rest_of us)) (λ us. a₀ (rest_of us)) b b₀ (ends p) (λ h. absurd (no h)) y where
    no : test no_more ≡ true → ⊥
    no h = let e : test no_more ≡ false = k.at_end in let z : ◌≡◌ {A = ℕ} 0 1 = cc in omega arith
  went_case (token t us) x y =
      went_if test (λ i vs. a i (rest_of vs)) (λ vs. a₀ (rest_of vs)) b b₀ (token t us)
      (λ h. went_skip a t us (λ vs ds q. f t vs ds (k.is t h) q) (x t us refl (k.is t h))) y

pub data One (T : Token → Type 0) : List Token → List Code → Type 0 where
  one : {t : Token} → T t → One T (t ∷ []) []

one-some : {T : Token → Type 0} (t : Token) → T t → Viable (One T) []
one-some t h = record { more = t ∷ []; codes = []; holds = one h }

one-wrote : {T : Token → Type 0} → Joins T (Wrote []) (One T)
one-wrote t vs ds h wrote = one h

went-one : {T : Token → Type 0} (x : Token) (s : ℕ) → Taken (λ r. eqb r s) T → T x → (ts : Stream) → Went (One T) (λ i. expect s) ts (expect s ts)
went-one x s k h ts =
    went_case (λ r. eqb r s) k (λ i us. read [] us) (λ us. read [] us) (λ i us. refused us) (λ us. refused us) one-wrote
    ts (λ t us e q. went-read [] us) (λ e. went-refused (one-some x h) ts)

-- rules that have no fuel, after a keyword
module _ {R A : Production} (n : ℕ) (k : is_keyword n ≡ true) (a b : Rule) (f : Joins (Keyword (spelling n)) A R) where
  pub went_keyword : (ts : Stream) → ((us : Stream) → Went A (λ i. a) us (a us)) → Went R (λ i. b) ts (b ts)
      → Went R (λ i us. cond (eqb (symbol_in us) n) (a (rest_of us)) (b us)) ts (cond (eqb (symbol_in ts) n) (a (rest_of ts)) (b ts))
  went_keyword ts x y = went_case (λ s. eqb s n) (keyword_taken n k) (λ i. a) a (λ i. b) b f ts (λ t us e h. x us) (λ e. y)

-- some token of each kind
abbrev pub a_word : String → Token
a_word w = record { sort = letter; place = 0; bytes = bytes w }

pub a_keyword : (w : String) → Keyword w (a_word w)
a_keyword w = record { letters = refl; spelled = refl }

abbrev pub a_sign_lem : ℕ → Token
a_sign_lem b = record { sort = b; place = 0; bytes = b ∷ [] }

pub a_sign : (b : ℕ) → Sign b (a_sign_lem b)
a_sign b = record { is = refl }

abbrev pub a_number_lem : Token
a_number_lem = record { sort = digit; place = 0; bytes = 48 ∷ [] }

pub a_number : (most : ℕ) → Number most a_number_lem
unfolding number_from
a_number most = record { digits = refl; within = omega arith }

pub went-word : (n : ℕ) → is_keyword n ≡ true → (ts : Stream) → Went (One (Keyword (spelling n))) (λ i. expect n) ts (expect n ts)
went-word n k ts = went-one (a_word (spelling n)) n (keyword_taken n k) (a_keyword (spelling n)) ts

pub word_some : (w : String) → Viable (One (Keyword w)) []
word_some w = one-some (a_word w) (a_keyword w)

pub went_sign : (b : ℕ) (ts : Stream) → Went (One (Sign b)) (λ i. expect (100 + b)) ts (expect (100 + b) ts)
went_sign b ts = went-one (a_sign_lem b) (100 + b) (sign_taken b) (a_sign b) ts

pub sign_some : (b : ℕ) → Viable (One (Sign b)) []
sign_some b = one-some (a_sign_lem b) (a_sign b)

-- a number, and what follows it
module _ {R : Production} (A : ℕ → Production) (most : ℕ) (limit : (most ≡ max_word) ⊎ (most ≡ max_number)) (a : ℕ → ℕ → Rule) (a₀ : ℕ → Rule)
    (f : NumberJoins most A R) (some : (v : ℕ) → v ≤ most → Viable (A v) []) where
  some_number : (n : Token) → Number most n → Viable R (n ∷ [])
  some_number n h = let v = some (value_of n) h.within in record { more = v.more; codes = v.codes; holds = f n _ _ h v.holds }

  some_first : Viable R []
  some_first = let v = some_number a_number_lem (a_number most) in record { more = a_number_lem ∷ v.more; codes = v.codes; holds = v.holds }

  number_skip : {o : Outcome} (t : Token) (us : Stream) → Number most t → Went (A (value_of t)) (λ i. a i (value_of t)) us o
      → Went R (λ i. number most (a i)) (token t us) o
  unfolding value_in ◌⊕◌
  number_skip t us h (reads pre e d g) =
      reads (t ∷ pre) (ap (token t) e) (f t _ _ h d) (λ i later n. rw (number_symbol h, number-within h) (g i later n))
  number_skip t us h (fails pre rest e p y g) =
      fails (t ∷ pre) rest (ap (token t) e) p (why_left (t ∷ []) (λ vs ds q. (ds, f t vs ds h q)) y)
      (λ i later n b. rw (number_symbol h, number-within h) (g i later n b))

  no_number : (ts : Stream) → eqb (symbol_in ts) s_number ≡ false → Went R (λ i. number most (a i)) ts (refused ts)
  unfolding ◌⊕◌
  no_number ts h = fails [] ts refl refl (ten some_first) (λ i later n b. rw (n.symbol, h))

  pub went-number : (ts : Stream)
      → ((t : Token) (us : Stream) → ts ≡ token t us → Number most t → Went (A (value_of t)) (λ i. a i (value_of t)) us (a₀ (value_of t) us))
      → Went R (λ i. number most (a i)) ts (number most a₀ ts)
  unfolding value_in ◌⊕◌
  went-number (ends p) x = no_number (ends p) refl
  went-number (token t us) x = at (eqb (symbol_of t) s_number) refl (leb (value_of t) most) refl where
    at : (c : Bool) → eqb (symbol_of t) s_number ≡ c → (d : Bool) → leb (value_of t) most ≡ d
        → Went R (λ i. number most (a i)) (token t us) (cond c (cond d (a₀ (value_of t) us) (failed OverLimit t.place)) (failed UnexpectedToken t.place))
    at false h d k = no_number (token t us) h
    at true h true k =
        let n : Number most t = record { digits = symbol_sort t digit (eqb-true _ _ h); within = leb-true _ _ k } in
        number_skip t us n (x t us refl n)
    at true h false k =
        fails [] (token t us) refl refl (eleven most limit (eqb-true _ _ h) (leb-false _ _ k) some_number)
        (λ i later n b. rw (n.symbol, h, b refl, k))
