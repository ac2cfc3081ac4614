-- How the rules go in which no parenthesis stands, filters and a phrase with its times: a production derives what each reads, and it fails at the first
-- token that can't go on.
use Prim.Native.Nat.{ℕ, zero, suc, ◌+◌, ◌≤◌}
use native.Mathlib.Omega.{arith}
use mathlib.Core.Path.{◌≡◌, refl}
use mathlib.Core.Bool.{Bool, true, false, ◌&&◌, not, cond}
use mathlib.Core.List.{List, [], ◌∷◌, ◌++◌}
use mathlib.Core.Logic.{inl}
use borrow.Author.Tests.{eqb-true, eqb-false}
use lib.Dec.{eqb}
use Rattle.model.specs.declared.Code.{Code}
use Rattle.model.specs.declared.Code.TheVariants.{Word, Phrase, Filter as Filtered, Occurs}
use Rattle.model.specs.declared.Filter.{Filter}
use Rattle.model.specs.declared.Filter.TheVariants.{Ordered, Window, SameSentence, SameParagraph, DifferentSentence, DifferentParagraph, AtStart, AtEnd, EntireContent}
use Rattle.model.specs.declared.Times.{Times}
use Rattle.model.specs.Limits.{max_words, max_word}
use Rattle.model.specs.Productions.{Sign, Keyword, Words, no_word, word_more, FTTimes, times, FTPosFilter, ordered, window, distance, same_sentence, same_paragraph, different_sentence, different_paragraph, at_start, at_end, entire_content}
use Rattle.model.specs.Tokens.{Token, quote, value_of}
use Rattle.grammar.specs.Stream.{Stream, rest_of}
use Rattle.grammar.specs.Symbols.{k_ordered, k_window, k_distance, k_same, k_different, k_at, k_entire, k_start, k_end, k_sentence, k_paragraph, k_content, k_occurs, k_words, k_times, s_quote, symbol_of, symbol_in}
use Rattle.grammar.specs.Grammar.{read, Rule, ◌then◌, refused, expect, number, coded, measured, distance as distanceRule, times as timesRule, words, any_times, phrase, either, filter}
use Rattle.grammar.proofs.GoingLaws.{Production, Within, Joins, NumberJoins, Viable, Went, went-map, Seq, seq, went-both, Wrote, wrote, went-read, went-refused, Taken, went_case, went_keyword, One, one, a_word, a_keyword, a_sign_lem, a_sign, went-word, went-number}
use Rattle.grammar.proofs.RangesLaws.{Coded, coded_by, Measured, measured_by, range_by, went-coded, went-measured, went-range, Distances, Occurrences}
use Rattle.grammar.proofs.SymbolsLaws.{spelling, is_keyword, symbol_sort}

-- ---- filters

data Either (T U : Token → Type 0) (c d : Code) : List Token → List Code → Type 0 where
  first : {t : Token} → T t → Either T U c d (t ∷ []) (c ∷ [])
  other : {t : Token} → U t → Either T U c d (t ∷ []) (d ∷ [])

module _ {T U : Token → Type 0} (c d : Code) where
  first-join : Joins T (Wrote (c ∷ [])) (Either T U c d)
  first-join t vs ds h wrote = first h

  other-join : Within (Coded U d) (Either T U c d)
  other-join vs ds (coded_by h) = other h

went-either : (n : ℕ) → is_keyword n ≡ true → (c : Code) (m : ℕ) → is_keyword m ≡ true → (d : Code) (ts : Stream)
    → Went (Either (Keyword (spelling n)) (Keyword (spelling m)) c d) (λ i. either n c m d) ts (either n c m d ts)
unfolding either
went-either n k c m l d ts =
    went_keyword n k (λ us. read (c ∷ []) us) (coded m d) (first-join c d) ts (went-read (c ∷ [])) (went-map (other-join c d) (went-coded m l d ts))

-- a filter's one code
pub data FilterCodes : List Token → List Code → Type 0 where
  filter-codes : {us : List Token} {f : Filter} → FTPosFilter us f → FilterCodes us (Filtered f ∷ [])

ordered-join : Joins (Keyword "ordered") (Wrote (Filtered Ordered ∷ [])) FilterCodes
ordered-join t vs ds a wrote = filter-codes (ordered a)

abbrev window_code : ℕ → Code
window_code n = Filtered (Window n)

window-join : Joins (Keyword "window") (Measured "words" window_code) FilterCodes
window-join t vs ds a (measured_by n z) = filter-codes (window a n z)

distance-join : Joins (Keyword "distance") Distances FilterCodes
distance-join t vs ds a (range_by r z) = filter-codes (distance a r z)

abbrev UnitFilter : Filter → Filter → Production
UnitFilter f g = Either (Keyword "sentence") (Keyword "paragraph") (Filtered f) (Filtered g)

same-join : Joins (Keyword "same") (UnitFilter SameSentence SameParagraph) FilterCodes
same-join t vs ds a (first b) = filter-codes (same_sentence a b)
same-join t vs ds a (other b) = filter-codes (same_paragraph a b)

different-join : Joins (Keyword "different") (UnitFilter DifferentSentence DifferentParagraph) FilterCodes
different-join t vs ds a (first b) = filter-codes (different_sentence a b)
different-join t vs ds a (other b) = filter-codes (different_paragraph a b)

at_join : Joins (Keyword "at") (Either (Keyword "start") (Keyword "end") (Filtered AtStart) (Filtered AtEnd)) FilterCodes
at_join t vs ds a (first b) = filter-codes (at_start a b)
at_join t vs ds a (other b) = filter-codes (at_end a b)

entire_join : Within (Seq (One (Keyword "entire")) (Coded (Keyword "content") (Filtered EntireContent))) FilterCodes
entire_join vs ds (seq (one a) (coded_by b)) = filter-codes (entire_content a b)

pub went-filter : (ts : Stream) → Went FilterCodes (λ i. filter) ts (filter ts)
unfolding filter
went-filter ts =
    let same : Rule = either k_sentence (Filtered SameSentence) k_paragraph (Filtered SameParagraph) in
    let different : Rule = either k_sentence (Filtered DifferentSentence) k_paragraph (Filtered DifferentParagraph) in
    let at : Rule = either k_start (Filtered AtStart) k_end (Filtered AtEnd) in
    let content : Rule = coded k_content (Filtered EntireContent) in
    let f6 : Rule = λ us. expect k_entire us then content in
    let f5 : Rule = λ us. cond (eqb (symbol_in us) k_at) (at (rest_of us)) (f6 us) in
    let f4 : Rule = λ us. cond (eqb (symbol_in us) k_different) (different (rest_of us)) (f5 us) in
    let f3 : Rule = λ us. cond (eqb (symbol_in us) k_same) (same (rest_of us)) (f4 us) in
    let f2 : Rule = λ us. cond (eqb (symbol_in us) k_distance) (distanceRule (rest_of us)) (f3 us) in
    let f1 : Rule = λ us. cond (eqb (symbol_in us) k_window) (measured k_words window_code (rest_of us)) (f2 us) in
    went_keyword k_ordered refl (λ us. read (Filtered Ordered ∷ []) us) f1 ordered-join ts (went-read (Filtered Ordered ∷ []))
    (went_keyword k_window refl (measured k_words window_code) f2 window-join ts (went-measured k_words refl window_code)
    (went_keyword k_distance refl distanceRule f3 distance-join ts (went-range k_words refl _ _ _)
    (went_keyword k_same refl same f4 same-join ts (went-either k_sentence refl _ k_paragraph refl _)
    (went_keyword k_different refl different f5 different-join ts (went-either k_sentence refl _ k_paragraph refl _)
    (went_keyword k_at refl at f6 at_join ts (went-either k_start refl _ k_end refl _)
    (went-map entire_join (went-both (expect k_entire) content
    (record { more = a_word "content" ∷ []; codes = Filtered EntireContent ∷ []; holds = coded_by (a_keyword "content") })
    ts (went-word k_entire refl ts) (went-coded k_content refl _))))))))

-- ---- phrases

-- what can follow k words of a phrase, of which `left` more may come
pub data Tail (left k : ℕ) : List Token → List Code → Type 0 where
  tail : {j m : ℕ} {ts : List Token} {cs : List Code} {u : Token} → Words j ts cs → m ≡ k + j → 1 ≤ m → j ≤ left → Sign quote u
      → Tail left k (ts ++ (u ∷ [])) (cs ++ (Phrase m ∷ []))

tail_some : (left k : ℕ) → 1 ≤ k → Viable (Tail left k) []
tail_some left k h =
    record { more = a_sign_lem quote ∷ []; codes = _; holds = tail {m = k} no_word (omega arith) h (omega arith) (a_sign quote) }

record Quote (k : ℕ) (t : Token) : Type 0 where
  quoted : Sign quote t
  counted : 1 ≤ k

abbrev is_quote : ℕ → ℕ → Bool
is_quote k s = eqb s s_quote && not (eqb k 0)

quote-taken : (k : ℕ) → Taken (is_quote k) (Quote k)
quote-taken k = record { at_end = refl; is = λ t h. is-quote t (eqb (symbol_of t) s_quote) refl (eqb k 0) refl h } where
  is-quote : (t : Token) (x : Bool) → eqb (symbol_of t) s_quote ≡ x → (y : Bool) → eqb k 0 ≡ y → (x && not y) ≡ true → Quote k t
  is-quote t true e false f h =
      record { quoted = record { is = symbol_sort t quote (eqb-true _ _ e) }; counted = omega (arith, eqb-false k 0 f) }
  is-quote t true e true f h = let z : ◌≡◌ {A = ℕ} 0 1 = cc in absurd (omega arith)
  is-quote t false e y f h = let z : ◌≡◌ {A = ℕ} 0 1 = cc in absurd (omega arith)

quote-join : (left k : ℕ) → Joins (Quote k) (Wrote (Phrase k ∷ [])) (Tail left k)
quote-join left k t vs ds q wrote = tail {m = k} no_word (omega arith) q.counted (omega arith) q.quoted

more-join : (left k : ℕ) → NumberJoins max_word (λ v. Seq (Wrote (Word v ∷ [])) (Tail left (k + 1))) (Tail (suc left) k)
more-join left k t vs ds n (seq wrote (tail {m = m} d e l h q)) = tail {m = m} (word_more n d) (omega arith) l (omega arith) q

more-some : (left k v : ℕ) → Viable (Seq (Wrote (Word v ∷ [])) (Tail left (k + 1))) []
more-some left k v = let t = tail_some left (k + 1) (omega arith) in record { more = t.more; codes = _; holds = seq wrote t.holds }

went-words : (left k : ℕ) → 1 ≤ left + k → (ts : Stream) → Went (Tail left k) (λ i. words left k) ts (words left k ts)
unfolding words
went-words zero k h ts =
    let end : Rule = λ us. read (Phrase k ∷ []) us in
    went_case (is_quote k) (quote-taken k) (λ i. end) end (λ i us. refused us) (λ us. refused us) (quote-join zero k)
    ts (λ t us e q. went-read _ us) (λ e. went-refused (tail_some zero k (omega arith)) ts)
went-words (suc left) k h ts =
    let end : Rule = λ us. read (Phrase k ∷ []) us in
    let next : ℕ → Rule = λ v rest. read (Word v ∷ []) rest then words left (k + 1) in
    went_case (is_quote k) (quote-taken k) (λ i. end) end (λ i. number max_word next) (number max_word next) (quote-join (suc left) k)
    ts (λ t us e q. went-read _ us)
    (λ e. went-number (λ v. Seq (Wrote (Word v ∷ [])) (Tail left (k + 1))) max_word (inl refl) (λ i. next) next (more-join left k)
    (λ v l. more-some left k v) ts
    (λ t us f n.
    went-both (λ vs. read (Word (value_of t) ∷ []) vs) (words left (k + 1)) (tail_some left (k + 1) (omega arith)) us (went-read _ us)
    (went-words left (k + 1) (omega arith))))

-- the times of a phrase, or none
pub data AnyTimes : List Token → List Code → Type 0 where
  no_times : AnyTimes [] []
  some-times : {us : List Token} {k : Times} → FTTimes us k → AnyTimes us (Occurs k ∷ [])

times-join : Joins (Keyword "occurs") Occurrences AnyTimes
times-join t vs ds a (range_by r z) = some-times (times a r z)

none-join : Within (Wrote []) AnyTimes
none-join vs ds wrote = no_times

went-times : (ts : Stream) → Went AnyTimes (λ i. any_times) ts (any_times ts)
unfolding any_times
went-times ts = went_keyword k_occurs refl timesRule (λ us. read [] us) times-join ts (went-range k_times refl _ _ _) (went-map none-join (went-read [] ts))

pub went-phrase : (ts : Stream) → Went (Seq (Tail max_words 0) AnyTimes) (λ i. phrase) ts (phrase ts)
unfolding phrase
went-phrase ts =
    went-both (words max_words 0) any_times (record { more = []; codes = []; holds = no_times }) ts (went-words max_words 0 (omega arith) ts) went-times
