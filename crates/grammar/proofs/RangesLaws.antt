-- The four ranges, whatever their last word and their codes: what they derive is read, and how their rules go.
use Prim.Native.Nat.{ℕ}
use Prim.Native.String.{String}
use mathlib.Core.Path.{◌≡◌, refl, ◌∙◌}
use mathlib.Core.Bool.{true, cond}
use mathlib.Core.List.{List, [], ◌∷◌, ◌++◌}
use mathlib.Core.Logic.{inr}
use borrow.Author.Tests.{eq-eqb}
use lib.Dec.{eqb}
use Rattle.model.specs.declared.Code.{Code}
use Rattle.model.specs.declared.Code.TheVariants.{Filter as Filtered, Occurs}
use Rattle.model.specs.declared.Filter.TheVariants.{Distance}
use Rattle.model.specs.declared.Times.TheVariants.{FromTo, AtLeast}
use Rattle.model.specs.Bytes.{bytes}
use Rattle.model.specs.Limits.{max_distance, max_number}
use Rattle.model.specs.Productions.{Keyword, Number, FTRange, range_exactly, range_least, range_most, range_from_to}
use Rattle.model.specs.Tokens.{Token, value_of}
use Rattle.grammar.specs.Stream.{Stream, rest_of, value_in}
use Rattle.grammar.specs.Symbols.{k_at, k_exactly, k_from, k_to, k_least, k_most, keywords, same_bytes, number_among, symbol_of, symbol_in}
use Rattle.grammar.specs.Grammar.{read, Rule, prefixed, ◌then◌, writes, expect, coded, measured, range_from, range_at, range}
use Rattle.grammar.proofs.GoingLaws.{Production, Within, Joins, NumberJoins, Viable, Went, went-map, Seq, seq, went-both, Wrote, wrote, wrote-some, went-read, went_keyword, One, one, a_word, a_keyword, a_number_lem, a_number, went-word, went-number}
use Rattle.grammar.proofs.JoiningLaws.{◌⊕◌}
use Rattle.grammar.proofs.SymbolsLaws.{spelling, is_keyword, keyword_symbol, number_symbol, number-within}

-- ---- what is derived

-- a token, and a code
pub data Coded (T : Token → Type 0) (c : Code) : List Token → List Code → Type 0 where
  coded_by : {t : Token} → T t → Coded T c (t ∷ []) (c ∷ [])

-- a number and a last word
pub data Measured (last : String) (f : ℕ → Code) : List Token → List Code → Type 0 where
  measured_by : {n z : Token} → Number max_number n → Keyword last z → Measured last f (n ∷ z ∷ []) (f (value_of n) ∷ [])

-- a range and a last word, and the code of what the range makes
pub data Range {A : Type 0} (last : String) (code : A → Code) (least : ℕ → A) (between : ℕ → ℕ → A) : List Token → List Code → Type 0 where
  range_by : {us : List Token} {x : A} {z : Token} → FTRange least between us x → Keyword last z
      → Range last code least between (us ++ (z ∷ [])) (code x ∷ [])

-- ---- it is read

-- z is the symbol of the last word
module _ {last : String} (z : ℕ) (is : number_among 1 keywords (bytes last) ≡ z) where
  last_symbol : {t : Token} → Keyword last t → eqb (symbol_of t) z ≡ true
  last_symbol e = eq-eqb _ _ (keyword_symbol e ∙ is)

  pub range_complete : {A : Type 0} (code : A → Code) {least : ℕ → A} {between : ℕ → ℕ → A} {us : List Token} {x : A} {t : Token} (rest : Stream)
      → FTRange least between us x → Keyword last t
      → range z (λ a. code (least a)) (λ a b. code (between a b)) ((us ++ (t ∷ [])) ⊕ rest) ≡ read (code x ∷ []) rest
  unfolding ◌⊕◌ range range_at range_from coded measured number_among same_bytes value_in ◌then◌ prefixed
  range_complete code rest (range_exactly b n) e = rw (keyword_symbol b, number_symbol n, number-within n, last_symbol e)
  range_complete code rest (range_least b c n) e = rw (keyword_symbol b, keyword_symbol c, number_symbol n, number-within n, last_symbol e)
  range_complete code rest (range_most b c n) e = rw (keyword_symbol b, keyword_symbol c, number_symbol n, number-within n, last_symbol e)
  range_complete code rest (range_from_to b m c n) e =
      rw (keyword_symbol b, number_symbol m, number-within m, keyword_symbol c, number_symbol n, number-within n, last_symbol e)

-- ---- how the rules go

coded-join : {T : Token → Type 0} (c : Code) → Within (Seq (One T) (Wrote (c ∷ []))) (Coded T c)
coded-join c vs ds (seq (one h) wrote) = coded_by h

pub went-coded : (n : ℕ) → is_keyword n ≡ true → (c : Code) (ts : Stream) → Went (Coded (Keyword (spelling n)) c) (λ i. coded n c) ts (coded n c ts)
unfolding coded
went-coded n k c ts = went-map (coded-join c) (went-both (expect n) (writes c) (wrote-some (c ∷ [])) ts (went-word n k ts) (went-read (c ∷ [])))

coded-some : (w : String) (c : Code) → Viable (Coded (Keyword w) c) []
coded-some w c = record { more = a_word w ∷ []; codes = c ∷ []; holds = coded_by (a_keyword w) }

module _ (w : String) (f : ℕ → Code) where
  measured-some : Viable (Measured w f) []
  measured-some = record { more = a_number_lem ∷ a_word w ∷ []; codes = _; holds = measured_by (a_number max_number) (a_keyword w) }

  measured-join : NumberJoins max_number (λ v. Coded (Keyword w) (f v)) (Measured w f)
  measured-join t vs ds n (coded_by e) = measured_by n e

module _ (last : ℕ) (k : is_keyword last ≡ true) where
  pub went-measured : (f : ℕ → Code) (ts : Stream) → Went (Measured (spelling last) f) (λ i. measured last f) ts (measured last f ts)
  unfolding measured
  went-measured f ts =
      went-number (λ v. Coded (Keyword (spelling last)) (f v)) max_number (inr refl) (λ i v. coded last (f v)) (λ v. coded last (f v))
      (measured-join (spelling last) f) (λ v l. coded-some (spelling last) (f v)) ts (λ t us e n. went-coded last k (f (value_of t)) us)

  -- after a word
  went_worded : (s : ℕ) → is_keyword s ≡ true → (f : ℕ → Code) (ts : Stream)
      → Went (Seq (One (Keyword (spelling s))) (Measured (spelling last) f)) (λ i us. expect s us then measured last f) ts
      (expect s ts then measured last f)
  went_worded s h f ts = went-both (expect s) (measured last f) (measured-some (spelling last) f) ts (went-word s h ts) (went-measured f)

-- what stands after the first number of `from .. to`
abbrev ToNumber : String → (ℕ → Code) → Production
ToNumber w f = Seq (One (Keyword "to")) (Measured w f)

-- what makes R after a word
abbrev After : String → Production → Production
After s R vs ds = (t : Token) → Keyword s t → R (t ∷ vs) ds

module _ {A : Type 0} (last : ℕ) (k : is_keyword last ≡ true) (code : A → Code) (least : ℕ → A) (between : ℕ → ℕ → A) where
  abbrev w : String
  w = spelling last

  abbrev R : Production
  R = Range w code least between

  abbrev least_code : ℕ → Code
  least_code a = code (least a)

  abbrev code_between : ℕ → ℕ → Code
  code_between a b = code (between a b)

  exactly_join : Joins (Keyword "exactly") (Measured w (λ n. code_between n n)) R
  exactly_join t vs ds b (measured_by n e) = range_by (range_exactly b n) e

  least_join : Joins (Keyword "least") (Measured w least_code) (After "at" R)
  least_join t vs ds c (measured_by n e) u b = range_by (range_least b c n) e

  most-join : Within (Seq (One (Keyword "most")) (Measured w (code_between 0))) (After "at" R)
  most-join vs ds (seq (one c) (measured_by n e)) u b = range_by (range_most b c n) e

  from-join : NumberJoins max_number (λ v. ToNumber w (code_between v)) (After "from" R)
  from-join t vs ds m (seq (one c) (measured_by n e)) u b = range_by (range_from_to b m c n) e

  at_join : Within (Seq (One (Keyword "at")) (After "at" R)) R
  at_join vs ds (seq (one b) d) = d _ b

  at_some : Viable (After "at" R) []
  at_some = record {
    more = a_word "most" ∷ a_number_lem ∷ a_word w ∷ [];
    codes = _;
    holds = λ t b. range_by (range_most b (a_keyword "most") (a_number max_number)) (a_keyword w);
  }

  went-from : (ts : Stream) → Went (After "from" R) (λ i. range_from last code_between) ts (range_from last code_between ts)
  unfolding range_from
  went-from ts =
      let next : ℕ → Rule = λ v us. expect k_to us then measured last (code_between v) in
      went-number (λ v. ToNumber w (code_between v)) max_number (inr refl) (λ i. next) next from-join
      (λ v l. record {
        more = a_word "to" ∷ (measured-some w (code_between v)).more;
        codes = _;
        holds = seq (one (a_keyword "to")) (measured-some w (code_between v)).holds;
      })
      ts (λ t us e n. went_worded last k k_to refl (code_between (value_of t)) us)

  went-at : (ts : Stream) → Went (After "at" R) (λ i. range_at last least_code code_between) ts (range_at last least_code code_between ts)
  unfolding range_at
  went-at ts =
      went_keyword k_least refl (measured last least_code) (λ us. expect k_most us then measured last (code_between 0)) least_join ts
      (went-measured last k least_code) (went-map most-join (went_worded last k k_most refl (code_between 0) ts))

  pub went-range : (ts : Stream) → Went R (λ i. range last least_code code_between) ts (range last least_code code_between ts)
  unfolding range
  went-range ts =
      let exact : Rule = measured last (λ n. code_between n n) in
      let past : Rule = λ us. expect k_at us then range_at last least_code code_between in
      let next : Rule = λ us. cond (eqb (symbol_in us) k_from) (range_from last code_between (rest_of us)) (past us) in
      went_keyword k_exactly refl exact next exactly_join ts (went-measured last k (λ n. code_between n n))
      (went_keyword k_from refl (range_from last code_between) past (λ t vs ds b d. d t b) ts went-from
      (went-map at_join (went-both (expect k_at) (range_at last least_code code_between) at_some ts (went-word k_at refl ts) went-at)))

-- ---- those of a distance, and of a phrase's times

abbrev pub Distances : Production
Distances = Range "words" Filtered (λ a. Distance a max_distance) Distance

abbrev pub Occurrences : Production
Occurrences = Range "times" Occurs AtLeast FromTo
