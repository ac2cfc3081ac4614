-- The words of a phrase: how their rule goes by the first token, and the loop over them. Then its times, by the token after them.
use Rattle.std.proofs.Common.{◌≡◌, ℕ, zero, suc, ◌+◌, ◌-◌, ◌<◌, ◌≤◌, Bool, true, false, ◌&&◌, not, cond, eqb, leb, [], ◌∷◌, sym, ap, ◌∙◌, refl, arith, Ok, Err}
use borrow.Author.Tests.{ne_eqb}
use Rattle.model.specs.declared.Code.TheVariants.{Word, Phrase}
use Rattle.model.specs.declared.Refusal.{Refusal}
use Rattle.model.specs.declared.Reason.TheVariants.{OverLimit}
use Rattle.model.specs.Limits.{max_words, max_word}
use Rattle.grammar.specs.Stream.{Stream, place_in, rest_of, value_in}
use Rattle.grammar.specs.Symbols.{s_number, s_quote, symbol_in}
use Rattle.grammar.specs.Grammar.{failed, read, Rule, prefixed, ◌then◌, refused, number, coded, times, words, any_times, phrase}
use Rattle.scanner.specs.declared.symbols.Symbol.TheVariants.{Occurs, Quote}
use Rattle.lent_text.specs.State.{State, left, stream_of, Kept, Numbered, Pushed, Took, Unnumbered}
use Rattle.flat_rules.specs.Answers.{Answer, Answers, one_word}
use Rattle.flat_rules.proofs.AnswersLaws.{Front, answers-code, answers-failed, answers-number, answers-front, answers-on, answers-took, front-on, front-then, then-ends, then-fails, then-front}

-- ---- the rule by its first token

number-then : (most : ℕ) (f : ℕ → Rule) (r : Rule) (ts : Stream) → number most (λ v rest. f v rest then r) ts ≡ (number most f ts then r)
unfolding ◌then◌
number-then most f r ts = at (eqb (symbol_in ts) s_number) (leb (value_in ts) most) where
  at : (a b : Bool) → cond a (cond b (f (value_in ts) (rest_of ts) then r) (failed OverLimit (place_in ts))) (refused ts)
      ≡ (cond a (cond b (f (value_in ts) (rest_of ts)) (failed OverLimit (place_in ts))) (refused ts) then r)
  at true true = refl
  at true false = refl
  at false b = refl

-- no quote closes the phrase: there is none, or it has no words yet
words-more : (more k : ℕ) (ts : Stream) → (eqb (symbol_in ts) s_quote && not (eqb k 0)) ≡ false → words (suc more) k ts ≡ (one_word ts then words more (k + 1))
unfolding words one_word
words-more more k ts h = rw h (number-then max_word (λ v rest. read (Word v ∷ []) rest) (words more (k + 1)) ts)

words-closed : (more k : ℕ) (ts : Stream) → eqb (symbol_in ts) s_quote ≡ true → ¬ (k ≡ 0) → words more k ts ≡ read (Phrase k ∷ []) (rest_of ts)
unfolding words
words-closed zero k ts h n = rw (h, ne_eqb k 0 n) refl
words-closed (suc more) k ts h n = rw (h, ne_eqb k 0 n) refl

words-full : (ts : Stream) → words 0 max_words ts ≡ coded s_quote (Phrase max_words) ts
unfolding words coded ◌then◌ prefixed
words-full ts = at (eqb (symbol_in ts) s_quote) where
  at : (b : Bool) → cond (b && true) (read (Phrase max_words ∷ []) (rest_of ts)) (refused ts) ≡ (cond b (read [] (rest_of ts)) (refused ts) then (λ us. read (Phrase max_words ∷ []) us))
  at true = refl
  at false = refl

-- ---- one word, and the loop over them

pub word-read : (s m : State) {e : State} {v : ℕ} {u : Unit {0}} → Numbered max_word v s m → Pushed (Word v) m e → Answers (λ _. one_word) s e (Ok u)
unfolding one_word
word-read s m {v = v} n p = answers-number s m (Word v) n (λ _. n.is (λ v rest. read (Word v ∷ []) rest)) p

pub word-none : (s : State) {e : State} (r : Refusal) → Unnumbered max_word s r → Answers (λ _. one_word) s e (Err r)
unfolding one_word
word-none s r n = answers-failed s r (λ _ _. n (λ v rest. read (Word v ∷ []) rest))

-- k words were read from s to m
abbrev pub Worded : (s m : State) → ℕ → Type 0
Worded s m k = Front (λ _. words max_words 0) s m (λ _. words (max_words - k) k)

not_yet : (b : Bool) → (b && false) ≡ false
not_yet true = refl
not_yet false = refl

first-more : (ts : Stream) → words max_words 0 ts ≡ (one_word ts then words (max_words - 1) 1)
first-more ts = words-more 7 0 ts (not_yet (eqb (symbol_in ts) s_quote))

pub words_first : (s m : State) {u : Unit {0}} → Answers (λ _. one_word) s m (Ok u) → Worded s m 1
words_first s m a =
    front-then (front-on {rule = λ _. words max_words 0} s s {rest = λ _ ts. one_word ts then words (max_words - 1) 1} (λ _. first-more (stream_of s)) (omega arith) refl)
    (then-front (λ _. one_word) (λ _. words (max_words - 1) 1) a)

pub words-none : (s : State) {e : State} (r : Refusal) → Answers (λ _. one_word) s e (Err r) → Answers (λ _. words max_words 0) s e (Err r)
words-none s r a =
    answers-on {rest = λ ts. one_word ts then words (max_words - 1) 1} s s (first-more (stream_of s)) (omega arith) refl (then-fails (λ _. one_word) (λ _. words (max_words - 1) 1) a)

module _ (s m : State) (k : ℕ) (w : Worded s m k) (some : 1 ≤ k) where
  pub words_closed : {q e : State} {u : Unit {0}} → Took Quote m q → Pushed (Phrase k) q e → Answers (λ _. words max_words 0) s e (Ok u)
  words_closed {q} {u = u} t p =
      answers-front w (Ok u) (answers-code m q (Phrase k) t (λ _. words-closed (max_words - k) k (stream_of m) t.is (λ z. omega arith)) p)

  module _ (few : k < max_words) {p : State} (no : Kept Quote m p) where
    more-here : words (max_words - k) k (stream_of m) ≡ (one_word (stream_of m) then words (max_words - (k + 1)) (k + 1))
    more-here =
        let one : max_words - k ≡ suc (max_words - (k + 1)) = omega arith in
        rw one (words-more (max_words - (k + 1)) k (stream_of m) (rw no.is refl))

    more : Front (λ _. words max_words 0) s p (λ _ ts. one_word ts then words (max_words - (k + 1)) (k + 1))
    more =
        front-then w (front-on {rule = λ _. words (max_words - k) k} m p {rest = λ _ ts. one_word ts then words (max_words - (k + 1)) (k + 1)}
        (λ _. more-here ∙ ap (λ (x : State). one_word (stream_of x) then words (max_words - (k + 1)) (k + 1)) (sym no.same))
        (omega (arith, ap left no.same)) (ap (λ (x : State). x.codes) no.same))

    pub words_next : {q : State} {u : Unit {0}} → Answers (λ _. one_word) p q (Ok u) → Worded s q (k + 1)
    words_next a = front-then more (then-front (λ _. one_word) (λ _. words (max_words - (k + 1)) (k + 1)) a)

    pub words-fail : {e : State} (r : Refusal) → Answers (λ _. one_word) p e (Err r) → Answers (λ _. words max_words 0) s e (Err r)
    words-fail r a = answers-front more (Err r) (then-fails (λ _. one_word) (λ _. words (max_words - (k + 1)) (k + 1)) a)

pub words_full : (s m : State) (k : ℕ) {e : State} {r : Answer} → Worded s m k → k ≡ max_words → Answers (λ _. coded s_quote (Phrase max_words)) m e r → Answers (λ _. words max_words 0) s e r
words_full s m k {r = r} w h a =
    answers-front w r (answers-on {rest = coded s_quote (Phrase max_words)} m m (rw h (words-full (stream_of m))) (omega arith) refl a)

-- ---- the times after the words

module _ (s m : State) {u : Unit {0}} (w : Answers (λ _. words max_words 0) s m (Ok u)) where
  pub phrase_alone : {p : State} → Kept Occurs m p → Answers (λ _. phrase) s p (Ok u)
  unfolding phrase any_times
  phrase_alone k = rw k.same (then-ends (λ _. words max_words 0) (λ _. any_times) w (λ _. rw k.is refl))

  pub phrase_times : {q e : State} {r : Answer} → Took Occurs m q → Answers (λ _. times) q e r → Answers (λ _. phrase) s e r
  unfolding phrase any_times
  phrase_times {q} {r = r} t a =
      answers-front (then-front (λ _. words max_words 0) (λ _. any_times) w) r (answers-took {rest = times} m q t (rw t.is refl) a)

pub phrase-fails : {s e : State} {r : Refusal} → Answers (λ _. words max_words 0) s e (Err r) → Answers (λ _. phrase) s e (Err r)
unfolding phrase
phrase-fails a = then-fails (λ _. words max_words 0) (λ _. any_times) a
