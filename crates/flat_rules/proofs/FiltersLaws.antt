-- The rules of a filter by the first symbol, and the loop over filters.
use Rattle.std.proofs.Common.{◌≡◌, ℕ, zero, suc, ◌-◌, ◌<◌, Bool, true, false, ◌&&◌, not, eqb, leb, [], append-nil, sym, ap, ◌∙◌, refl, arith, Ok, Err}
use Rattle.std.proofs.lemmas.Bool.{false≢true}
use borrow.Author.Tests.{eqb-true, ne_eqb, leb-true}
use Rattle.model.specs.declared.Code.TheVariants.{Filter as Filtered}
use Rattle.model.specs.declared.Filter.TheVariants as filters_of
use Rattle.model.specs.declared.Refusal.{Refusal}
use Rattle.model.specs.declared.Reason.TheVariants.{UnexpectedToken}
use Rattle.grammar.specs.Stream.{Stream, place_in}
use Rattle.grammar.specs.Symbols.{k_ordered, k_window, k_distance, k_same, k_different, k_at, k_entire, k_start, k_end, k_sentence, k_paragraph, k_content, k_words, symbol_in}
use Rattle.grammar.specs.Grammar.{read, prefixed, ◌then◌, refused, coded, measured, distance, either, starts_filter, filter, filters}
use Rattle.scanner.specs.declared.symbols.Symbol.{Symbol}
use Rattle.scanner.specs.declared.symbols.Symbol.TheVariants as symbols
use Rattle.scanner.specs.Symbols.{is_asked, named, number_of}
use Rattle.scanner.proofs.SymbolsLaws.{named-number, number-named}
use Rattle.lent_text.specs.State.{State, left, stream_of, Pushed, Took}
use Rattle.flat_rules.specs.Answers.{Answer, Answers, AnswersMany, NoLess, Says, WentMany}
use Rattle.flat_rules.proofs.AnswersLaws.{Going, answers-code, answers-refused, answers-took, failed-is, going-on, going-then, prefixed-none, read-codes, read_further, then_failed, then_read}

-- ---- by a symbol

module _ (s m : State) {e : State} where
  pub filter-ordered : {u : Unit {0}} → Took symbols.Ordered s m → Pushed (Filtered filters_of.Ordered) m e → Answers (λ _. filter) s e (Ok u)
  unfolding filter
  filter-ordered t p = answers-code s m (Filtered filters_of.Ordered) t (λ _. rw (eqb-true _ _ t.is) refl) p

  module _ {r : Answer} where
    pub filter-window : Took symbols.Window s m → Answers (λ _. measured k_words (λ n. Filtered (filters_of.Window n))) m e r → Answers (λ _. filter) s e r
    unfolding filter
    filter-window t a = answers-took {rest = measured k_words (λ n. Filtered (filters_of.Window n))} s m t (rw (eqb-true _ _ t.is) refl) a

    pub filter-distance : Took symbols.Distance s m → Answers (λ _. distance) m e r → Answers (λ _. filter) s e r
    unfolding filter
    filter-distance t a = answers-took {rest = distance} s m t (rw (eqb-true _ _ t.is) refl) a

    pub filter_same : Took symbols.Same s m → Answers (λ _. either k_sentence (Filtered filters_of.SameSentence) k_paragraph (Filtered filters_of.SameParagraph)) m e r → Answers (λ _. filter) s e r
    unfolding filter
    filter_same t a = answers-took {rest = either k_sentence (Filtered filters_of.SameSentence) k_paragraph (Filtered filters_of.SameParagraph)} s m t (rw (eqb-true _ _ t.is) refl) a

    pub filter-different : Took symbols.Different s m → Answers (λ _. either k_sentence (Filtered filters_of.DifferentSentence) k_paragraph (Filtered filters_of.DifferentParagraph)) m e r
        → Answers (λ _. filter) s e r
    unfolding filter
    filter-different t a = answers-took {rest = either k_sentence (Filtered filters_of.DifferentSentence) k_paragraph (Filtered filters_of.DifferentParagraph)} s m t (rw (eqb-true _ _ t.is) refl) a

    pub filter-at : Took symbols.At s m → Answers (λ _. either k_start (Filtered filters_of.AtStart) k_end (Filtered filters_of.AtEnd)) m e r → Answers (λ _. filter) s e r
    unfolding filter
    filter-at t a = answers-took {rest = either k_start (Filtered filters_of.AtStart) k_end (Filtered filters_of.AtEnd)} s m t (rw (eqb-true _ _ t.is) refl) a

    pub filter_entire : Took symbols.Entire s m → Answers (λ _. coded k_content (Filtered filters_of.EntireContent)) m e r → Answers (λ _. filter) s e r
    unfolding filter ◌then◌
    filter_entire t a = answers-took {rest = coded k_content (Filtered filters_of.EntireContent)} s m t (rw (eqb-true _ _ t.is) (prefixed-none _)) a

-- ---- no filter

zero-of : (n : ℕ) → not (eqb n 0) ≡ false → n ≡ 0
zero-of n h = at (eqb n 0) refl h where
  at : (b : Bool) → eqb n 0 ≡ b → not b ≡ false → n ≡ 0
  at true e h = eqb-true n 0 e
  at false e h = absurd (false≢true (sym h))

outside : (n : ℕ) → ¬ (n ≡ 6) → ¬ (n ≡ 7) → ¬ (n ≡ 8) → ¬ (n ≡ 9) → ¬ (n ≡ 10) → ¬ (n ≡ 11) → ¬ (n ≡ 12) → (leb k_ordered n && leb n k_entire) ≡ false
outside n a b c d e f g = at (leb k_ordered n) (leb n k_entire) refl refl where
  at : (x y : Bool) → leb k_ordered n ≡ x → leb n k_entire ≡ y → (x && y) ≡ false
  at false y h k = refl
  at true false h k = refl
  at true true h k = absurd (omega (arith, leb-true k_ordered n h, leb-true n k_entire k))

module _ (ts : Stream) {r : Symbol} (is : r ≡ named (symbol_in ts)) where
  -- is it between those that begin a filter?
  pub starts-here : {b : Bool} → b ≡ (leb k_ordered (number_of r) && leb (number_of r) k_entire) → starts_filter ts ≡ b
  unfolding starts_filter
  starts-here e = sym (e ∙ at (is_asked r) refl) where
    at : (t : Bool) → is_asked r ≡ t → (leb k_ordered (number_of r) && leb (number_of r) k_entire) ≡ (leb k_ordered (symbol_in ts) && leb (symbol_in ts) k_entire)
    at true h = ap (λ n. leb k_ordered n && leb n k_entire) (sym (named-number _ r is h))
    at false h =
        let none : number_of r ≡ 0 = zero-of _ h in
        let apart : (s : Symbol) → is_asked s ≡ true → ¬ (symbol_in ts ≡ number_of s) = λ s known e. false≢true (sym h ∙ ap is_asked (is ∙ ap named e ∙ number-named s known) ∙ known) in
        rw none (sym (outside (symbol_in ts) (apart symbols.Ordered refl) (apart symbols.Window refl) (apart symbols.Distance refl) (apart symbols.Same refl) (apart symbols.Different refl) (apart symbols.At refl) (apart symbols.Entire refl)))

-- a symbol that begins a filter, and isn't one of the six others
pub entire_left : (s : Symbol) → (leb k_ordered (number_of s) && leb (number_of s) k_entire) ≡ true → ¬ (s ≡ symbols.Ordered) → ¬ (s ≡ symbols.Window) → ¬ (s ≡ symbols.Distance) → ¬ (s ≡ symbols.Same) → ¬ (s ≡ symbols.Different) → ¬ (s ≡ symbols.At) → s ≡ symbols.Entire
entire_left symbols.Ftor h a b c d e f = absurd (false≢true h)
entire_left symbols.Ftand h a b c d e f = absurd (false≢true h)
entire_left symbols.Ftnot h a b c d e f = absurd (false≢true h)
entire_left symbols.Not h a b c d e f = absurd (false≢true h)
entire_left symbols.In h a b c d e f = absurd (false≢true h)
entire_left symbols.Ordered h a b c d e f = absurd (a refl)
entire_left symbols.Window h a b c d e f = absurd (b refl)
entire_left symbols.Distance h a b c d e f = absurd (c refl)
entire_left symbols.Same h a b c d e f = absurd (d refl)
entire_left symbols.Different h a b c d e f = absurd (e refl)
entire_left symbols.At h a b c d e f = absurd (f refl)
entire_left symbols.Entire h a b c d e f = refl
entire_left symbols.Start h a b c d e f = absurd (false≢true h)
entire_left symbols.End h a b c d e f = absurd (false≢true h)
entire_left symbols.Sentence h a b c d e f = absurd (false≢true h)
entire_left symbols.Paragraph h a b c d e f = absurd (false≢true h)
entire_left symbols.Content h a b c d e f = absurd (false≢true h)
entire_left symbols.Occurs h a b c d e f = absurd (false≢true h)
entire_left symbols.Exactly h a b c d e f = absurd (false≢true h)
entire_left symbols.From h a b c d e f = absurd (false≢true h)
entire_left symbols.To h a b c d e f = absurd (false≢true h)
entire_left symbols.Least h a b c d e f = absurd (false≢true h)
entire_left symbols.Most h a b c d e f = absurd (false≢true h)
entire_left symbols.Words h a b c d e f = absurd (false≢true h)
entire_left symbols.Times h a b c d e f = absurd (false≢true h)
entire_left symbols.OtherWord h a b c d e f = absurd (false≢true h)
entire_left symbols.NoMore h a b c d e f = absurd (false≢true h)
entire_left symbols.Quote h a b c d e f = absurd (false≢true h)
entire_left symbols.Opening h a b c d e f = absurd (false≢true h)
entire_left symbols.Closing h a b c d e f = absurd (false≢true h)
entire_left symbols.Number h a b c d e f = absurd (false≢true h)
entire_left symbols.OtherSign h a b c d e f = absurd (false≢true h)

filter_other : (ts : Stream) → starts_filter ts ≡ false → filter ts ≡ refused ts
unfolding starts_filter filter ◌then◌
filter_other ts h =
    let apart : (k : ℕ) → (leb k_ordered k && leb k k_entire) ≡ true → eqb (symbol_in ts) k ≡ false
    = λ k t. ne_eqb _ _ (λ e. false≢true (sym h ∙ ap (λ n. leb k_ordered n && leb n k_entire) e ∙ t)) in
    rw (apart k_ordered refl, apart k_window refl, apart k_distance refl, apart k_same refl, apart k_different refl, apart k_at refl, apart k_entire refl) refl

pub filter_none : (s : State) {e : State} {r : Symbol} (x : Refusal) → r ≡ named (symbol_in (stream_of s)) → {b : Bool} → b ≡ (leb k_ordered (number_of r) && leb (number_of r) k_entire) → b ≡ false
    → x ≡ record { reason = UnexpectedToken; place = place_in (stream_of s) } → Answers (λ _. filter) s e (Err x)
filter_none s x is t none q = answers-refused s x q (λ _. filter_other (stream_of s) (starts-here (stream_of s) is t ∙ none))

-- ---- filters: a loop, from where it begins to where it is

pub record Filtering (s m : State) (k : ℕ) : Type 0 where
  pub fuel : ℕ
  pub enough : left m < fuel
  pub going : Going (filters k (stream_of s)) (filters fuel (stream_of m)) s m

pub record Filters (s m : State) : Type 0 where
  pub passed : NoLess s m
  pub going : (k : ℕ) → left s < k → Filtering s m k

pub filters_start : (s : State) → Filters s s
filters_start s = record {
  passed = record { fewer = omega arith; few = omega arith };
  going = λ k h. record { fuel = k; enough = h; going = going-on s s refl refl };
}

filters-none : (f : ℕ) (ts : Stream) → starts_filter ts ≡ false → filters f ts ≡ read [] ts
unfolding filters
filters-none zero ts h = refl
filters-none (suc f) ts h = rw h refl

filters-more : (f : ℕ) (ts : Stream) → starts_filter ts ≡ true → filters (suc f) ts ≡ (filter ts then filters f)
unfolding filters
filters-more f ts h = rw h refl

filters-some : (f : ℕ) (ts : Stream) → starts_filter ts ≡ true → 0 < f → filters f ts ≡ (filter ts then filters (f - 1))
filters-some f ts h l = let one : f ≡ suc (f - 1) = omega arith in ap (λ k. filters k ts) one ∙ filters-more (f - 1) ts h

module _ {s m : State} (t : Filters s m) where
  pub filters_stop : {u : Unit {0}} → starts_filter (stream_of m) ≡ false → AnswersMany filters s m (Ok u)
  unfolding WentMany Says prefixed
  filters_stop h = record {
    went = t.passed;
    says = λ k l. let f = t.going k l in let g = f.going in record {
      codes = g.codes;
      written = g.written;
      is = g.is ∙ ap (prefixed g.codes) (filters-none f.fuel (stream_of m) h) ∙ ap (λ c. read c (stream_of m)) (append-nil g.codes);
    };
  }

  module _ (h : starts_filter (stream_of m) ≡ true) where
    pub filters_fail : {e : State} {r : Refusal} → Answers (λ _. filter) m e (Err r) → AnswersMany filters s e (Err r)
    unfolding WentMany Says prefixed
    filters_fail a = record {
      went = tt;
      says = λ k l. let f = t.going k l in let g = f.going in
          g.is ∙ ap (prefixed g.codes) (filters-some f.fuel (stream_of m) h (omega (arith, f.enough)) ∙ then_failed (filters (f.fuel - 1)) (failed-is a (left m) (omega arith)));
    }

    pub filters_step : {q : State} {u : Unit {0}} → Answers (λ _. filter) m q (Ok u) → Filters s q
    filters_step {q} a =
        let b = read_further a in
        record {
          passed = record { fewer = omega (arith, t.passed.fewer, b.fewer); few = omega (arith, t.passed.few, b.few) };
          going = λ k l.
              let f = t.going k l in
              let x = read-codes a (left m) (omega arith) in
              let step : Going (filters f.fuel (stream_of m)) (filters (f.fuel - 1) (stream_of q)) m q = record {
                codes = x.codes;
                is = filters-some f.fuel (stream_of m) h (omega (arith, f.enough)) ∙ then_read (filters (f.fuel - 1)) x.is;
                written = x.written;
              } in
              record {
                fuel = f.fuel - 1;
                enough = omega (arith, f.enough, b.fewer);
                going = going-then f.going step;
              };
        }
