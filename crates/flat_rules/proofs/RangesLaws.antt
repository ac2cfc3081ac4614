-- A symbol with its code, one of two, a number with a last word, and the four ranges, by the first token.
use Rattle.std.proofs.Common.{◌≡◌, ℕ, true, false, eqb, [], ◌∷◌, sym, ap, ◌∙◌, refl, arith, Err}
use Rattle.model.specs.declared.Code.{Code}
use Rattle.model.specs.Limits.{max_number}
use Rattle.grammar.specs.Stream.{Stream, rest_of}
use Rattle.grammar.specs.Symbols.{k_at, k_to, k_least, k_most, symbol_in}
use Rattle.grammar.specs.Grammar.{failed, read, Rule, prefixed, ◌then◌, refused, expect, coded, either, measured, range_from, range_at, range}
use Rattle.model.specs.declared.Refusal.{Refusal}
use Rattle.scanner.specs.declared.symbols.Symbol.TheVariants.{At, Exactly, From, Least, Most, To}
use Rattle.lent_text.specs.State.{State, stream_of, Kept, Missed, Numbered, Took, Unnumbered}
use Rattle.lent_text.proofs.TokensLaws.{kept-kept, kept-missed, kept-took}
use Rattle.flat_rules.specs.Answers.{Answer, Answers}
use Rattle.flat_rules.proofs.AnswersLaws.{answers-failed, answers-on, answers-refused, answers-took, prefixed-none}

module _ (k : ℕ) (ts : Stream) where
  pub expect-yes : eqb (symbol_in ts) k ≡ true → expect k ts ≡ read [] (rest_of ts)
  expect-yes h = rw h refl

  pub expect-no : eqb (symbol_in ts) k ≡ false → expect k ts ≡ refused ts
  expect-no h = rw h refl

  pub coded-yes : (c : Code) → eqb (symbol_in ts) k ≡ true → coded k c ts ≡ read (c ∷ []) (rest_of ts)
  unfolding coded ◌then◌ prefixed
  coded-yes c h = rw h refl

  pub coded-no : (c : Code) → eqb (symbol_in ts) k ≡ false → coded k c ts ≡ refused ts
  unfolding coded ◌then◌
  coded-no c h = rw h refl

  module _ (c : Code) (j : ℕ) (d : Code) where
    pub either-first : eqb (symbol_in ts) k ≡ true → either k c j d ts ≡ read (c ∷ []) (rest_of ts)
    unfolding either
    either-first h = rw h refl

    pub either-second : eqb (symbol_in ts) k ≡ false → either k c j d ts ≡ coded j d ts
    unfolding either
    either-second h = rw h refl

-- a token and then a rule
pub then-yes : (k : ℕ) (ts : Stream) (r : Rule) → eqb (symbol_in ts) k ≡ true → (expect k ts then r) ≡ r (rest_of ts)
unfolding ◌then◌
then-yes k ts r h = rw h (prefixed-none _)

pub then-no : (k : ℕ) (ts : Stream) (r : Rule) → eqb (symbol_in ts) k ≡ false → (expect k ts then r) ≡ refused ts
unfolding ◌then◌
then-no k ts r h = rw h refl

-- ---- by a number

module _ (last : ℕ) (s m : State) {v : ℕ} (n : Numbered max_number v s m) where
  -- f makes the code c of the number
  pub measured-read : (f : ℕ → Code) {c : Code} → c ≡ f v → measured last f (stream_of s) ≡ coded last c (stream_of m)
  unfolding measured
  measured-read f e = n.is (λ k rest. coded last (f k) rest) ∙ ap (λ c. coded last c (stream_of m)) (sym e)

  from-read : (g : ℕ → ℕ → Code) → range_from last g (stream_of s) ≡ (expect k_to (stream_of m) then measured last (g v))
  unfolding range_from
  from-read g = n.is (λ a rest. expect k_to rest then measured last (g a))

  pub from_to : (g : ℕ → ℕ → Code) {q e : State} {r : Answer} → Took To m q → Answers (λ _. measured last (g v)) q e r → Answers (λ _. range_from last g) s e r
  from_to g {q} t a =
      answers-on {rest = λ ts. expect k_to ts then measured last (g v)} s m (from-read g) (omega (arith, n.fewer)) n.codes_are
      (answers-took {rest = measured last (g v)} m q t (then-yes k_to (stream_of m) (measured last (g v)) t.is) a)

  pub from-missed : (g : ℕ → ℕ → Code) {e : State} (r : Refusal) → Missed To m r → Answers (λ _. range_from last g) s e (Err r)
  from-missed g r t = answers-failed s r (λ _ _. from-read g ∙ then-no k_to (stream_of m) (measured last (g v)) t.is ∙ rw t.refused refl)

module _ (last : ℕ) (s : State) {r : Refusal} (n : Unnumbered max_number s r) where
  pub measured-none : (f : ℕ → Code) → measured last f (stream_of s) ≡ failed r.reason r.place
  unfolding measured
  measured-none f = n (λ k rest. coded last (f k) rest)

  pub from-none : (g : ℕ → ℕ → Code) → range_from last g (stream_of s) ≡ failed r.reason r.place
  unfolding range_from
  from-none g = n (λ a rest. expect k_to rest then measured last (g a))

-- ---- by a symbol

module _ (last : ℕ) (f : ℕ → Code) (g : ℕ → ℕ → Code) (s : State) where
  at_other : eqb (symbol_in (stream_of s)) k_least ≡ false → range_at last f g (stream_of s) ≡ (expect k_most (stream_of s) then measured last (g 0))
  unfolding range_at
  at_other h = rw h refl

  pub at_least : {m e : State} {r : Answer} → Took Least s m → Answers (λ _. measured last f) m e r → Answers (λ _. range_at last f g) s e r
  unfolding range_at
  at_least {m} t a = answers-took {rest = measured last f} s m t (rw t.is refl) a

  pub at_most : {m q e : State} {r : Answer} → Kept Least s m → Took Most m q → Answers (λ _. measured last (g 0)) q e r → Answers (λ _. range_at last f g) s e r
  at_most {q = q} k t' a =
      let t = kept-took k t' in
      answers-took {rest = measured last (g 0)} s q t (at_other k.is ∙ then-yes k_most (stream_of s) (measured last (g 0)) t.is) a

  pub at-missed : {m e : State} (r : Refusal) → Kept Least s m → Missed Most m r → Answers (λ _. range_at last f g) s e (Err r)
  at-missed r k t' =
      let t = kept-missed k t' in
      answers-refused s r t.refused (λ _. at_other k.is ∙ then-no k_most (stream_of s) (measured last (g 0)) t.is)

  pub range_exactly : {m e : State} {r : Answer} → Took Exactly s m → Answers (λ _. measured last (λ n. g n n)) m e r → Answers (λ _. range last f g) s e r
  unfolding range
  range_exactly {m} t a = answers-took {rest = measured last (λ n. g n n)} s m t (rw t.is refl) a

  pub range_from_to : {m q e : State} {r : Answer} → Kept Exactly s m → Took From m q → Answers (λ _. range_from last g) q e r → Answers (λ _. range last f g) s e r
  unfolding range
  range_from_to {q = q} k t' a =
      let t = kept-took k t' in
      answers-took {rest = range_from last g} s q t (rw (k.is, t.is) refl) a

  module _ {m p : State} (k : Kept Exactly s m) (l' : Kept From m p) where
    l : Kept From s p
    l = kept-kept k l'

    range_other : range last f g (stream_of s) ≡ (expect k_at (stream_of s) then range_at last f g)
    unfolding range
    range_other = rw (k.is, l.is) refl

    pub range_bound : {q e : State} {r : Answer} → Took At p q → Answers (λ _. range_at last f g) q e r → Answers (λ _. range last f g) s e r
    range_bound {q} t' a =
        let t = kept-took l t' in
        answers-took {rest = range_at last f g} s q t (range_other ∙ then-yes k_at (stream_of s) (range_at last f g) t.is) a

    pub range-missed : {e : State} (r : Refusal) → Missed At p r → Answers (λ _. range last f g) s e (Err r)
    range-missed r t' =
        let t = kept-missed l t' in
        answers-refused s r t.refused (λ _. range_other ∙ then-no k_at (stream_of s) (range_at last f g) t.is)
