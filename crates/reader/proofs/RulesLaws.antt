-- The levels by their operators; and the rules without a loop: a selection with its filters, `ftnot`, and what stands in quotes or in parentheses.
use Rattle.std.proofs.Common.{◌≡◌, ℕ, suc, ◌+◌, ◌-◌, ◌<◌, ◌≤◌, Bool, true, false, [], ◌∷◌, ◌++◌, sym, ap, ◌∙◌, refl, subst, arith, Ok, Err}
use Rattle.std.specs.Bool.{MatchBool}
use Rattle.std.specs.Result.{MatchResult}
use Rattle.model.specs.declared.Code.TheVariants.{Not as NotCode}
use Rattle.model.specs.declared.Pair.TheVariants.{Or, And, MildNot}
use Rattle.model.specs.declared.Refusal.{Refusal}
use Rattle.model.specs.Limits.{max_text}
use Rattle.grammar.specs.Stream.{Stream, rest_of}
use Rattle.grammar.specs.Symbols.{s_closing}
use Rattle.grammar.specs.Grammar.{failed, read, Rule, prefixed, ◌then◌, writes, expect, phrase, filters, ft_primary, ft_unary_not, ft_mild_not, ft_and, ft_or, ft_selection}
use Rattle.scanner.specs.declared.symbols.Symbol.TheVariants.{Closing, Ftnot, Opening, Quote}
use Rattle.lent_text.specs.declared.codes.Codes.{Codes}
use Rattle.lent_text.specs.Written.{Written}
use Rattle.lent_text.specs.State.{State, left, stream_of, Kept, Missed, Pushed, Took}
use Rattle.lent_text.proofs.TokensLaws.{kept-missed, kept-took}
use Rattle.lent_text.proofs.WrittenLaws.{written-append}
use Rattle.flat_rules.specs.Answers.{Answer, Says, Went, Answers, WentMany, AnswersMany}
use Rattle.flat_rules.proofs.AnswersLaws.{Front, answers-failed, answers-front, answers-refused, failed-is, front-on, read-codes, read_further, then_failed, then_none, then_read, then_writes, then-fails}
use Rattle.flat_rules.proofs.RangesLaws.{expect-yes}
use Rattle.reader.specs.Levels.{level_rule}

-- the rules with the whole in parentheses
abbrev pub or_rule : ℕ → Rule
or_rule n = ft_or n (ft_selection n)

abbrev pub and_rule : ℕ → Rule
and_rule n = ft_and n (ft_selection n)

abbrev pub mild_rule : ℕ → Rule
mild_rule n = ft_mild_not n (ft_selection n)

abbrev pub not_rule : ℕ → Rule
not_rule n = ft_unary_not n (ft_selection n)

abbrev pub primary_rule : ℕ → Rule
primary_rule n = ft_primary n (ft_selection n)

abbrev pub whole_rule : ℕ → Rule
whole_rule n = ft_selection (suc n)

-- one rule is another
answers-as : {rule rule' : ℕ → Rule} {s e : State} (r : Answer) → ((n : ℕ) (ts : Stream) → rule n ts ≡ rule' n ts) → Answers rule' s e r → Answers rule s e r
answers-as {rule} {rule'} {s} r e a = answers-front (front-on {rule = rule} s s {rest = rule'} (λ n. e n (stream_of s)) (omega arith) refl) r a

-- ---- the three levels

pub or_level : {s e : State} (r : Answer) → Answers (level_rule Or and_rule) s e r → Answers or_rule s e r
unfolding level_rule ft_or
or_level r a = answers-as {rule' = level_rule Or and_rule} r (λ n ts. refl) a

pub and_level : {s e : State} (r : Answer) → Answers (level_rule And mild_rule) s e r → Answers and_rule s e r
unfolding level_rule ft_and
and_level r a = answers-as {rule' = level_rule And mild_rule} r (λ n ts. refl) a

pub mild_level : {s e : State} (r : Answer) → Answers (level_rule MildNot not_rule) s e r → Answers mild_rule s e r
unfolding level_rule ft_mild_not
mild_level r a = answers-as {rule' = level_rule MildNot not_rule} r (λ n ts. refl) a

-- ---- a selection and its filters

pub whole_fails : {s e : State} {r : Refusal} → Answers or_rule s e (Err r) → Answers whole_rule s e (Err r)
unfolding ft_selection
whole_fails a = then-fails or_rule filters a

pub whole_is : {s m e : State} {u : Unit {0}} (r : Answer) → Answers or_rule s m (Ok u) → AnswersMany filters m e r → Answers whole_rule s e r
unfolding Went Says WentMany ft_selection prefixed
whole_is (Ok v) a b =
    let f = read_further a in
    record {
      went = record { fewer = omega (arith, f.fewer, b.went.fewer); few = omega (arith, f.few, b.went.few) };
      says = λ n l.
          let x = read-codes a n l in
          let t = b.says n (omega (arith, f.fewer)) in
          record { codes = x.codes ++ t.codes; is = then_read (filters n) x.is ∙ ap (prefixed x.codes) t.is; written = written-append x.written t.written };
    }
whole_is {s} (Err r) a b = answers-failed s r (λ n l. let x = read-codes a n l in
    then_read (filters n) x.is ∙ ap (prefixed x.codes) (b.says n (omega (arith, (read_further a).fewer))))

-- ---- ftnot

module _ {s m : State} where
  pub not_plain : {e : State} {r : Answer} → Kept Ftnot s m → Answers primary_rule m e r → Answers not_rule s e r
  unfolding ft_unary_not
  not_plain {r = r} k a =
      answers-front (front-on {rule = not_rule} s m {rest = primary_rule} (λ n. rw (k.is, k.same) refl) (omega (arith, ap left k.same)) (ap (λ (x : State). x.codes) k.same)) r a

  module _ (t : Took Ftnot s m) where
    pub not-front : Front not_rule s m (λ n ts. primary_rule n ts then writes NotCode)
    unfolding ft_unary_not
    not-front = front-on s m (λ n. rw (t.is, t.rest_is) refl) (omega (arith, t.fewer)) t.codes_are

    pub not_is : {q e : State} {u : Unit {0}} → Answers primary_rule m q (Ok u) → Pushed NotCode q e → Answers not_rule s e (Ok u)
    unfolding Went Says prefixed
    not_is {q} a p =
        let f = read_further a in
        record {
          went = record { fewer = omega (arith, t.fewer, f.fewer, p.left_is); few = omega (arith, not-front.few, t.fewer, ap (λ (x : Codes). x.count) t.codes_are, f.few, p.left_is, p.written.counted) };
          says = λ n l.
              let g = not-front.going n l in
              let x = read-codes a n (omega (arith, t.fewer)) in
              record {
                codes = g.codes ++ (x.codes ++ NotCode ∷ []);
                is = g.is ∙ ap (prefixed g.codes) (then_writes NotCode x.is ∙ ap (read (x.codes ++ NotCode ∷ [])) (sym p.stream_is));
                written = written-append g.written (written-append x.written p.written);
              };
        }

    pub not_room : {q : State} {u : Unit {0}} → Answers primary_rule m q (Ok u) → q.codes.count + left q < max_text
    not_room a = omega (arith, t.room, (read_further a).few)

  pub not-fails : (b : Bool) {e : State} {r : Refusal} → MatchBool b (Took Ftnot s m) (Kept Ftnot s m) → Answers primary_rule m e (Err r) → Answers not_rule s e (Err r)
  not-fails true {r = r} t a = answers-front (not-front t) (Err r) (then-fails primary_rule (λ _. writes NotCode) a)
  not-fails false k a = not_plain k a

-- ---- a phrase, or a selection in parentheses

pub primary_phrase : {s m e : State} {r : Answer} → Took Quote s m → Answers (λ _. phrase) m e r → Answers primary_rule s e r
unfolding ft_primary
primary_phrase {s} {m} {r = r} t a =
    answers-front (front-on {rule = primary_rule} s m {rest = λ _. phrase} (λ n. rw (t.is, t.rest_is) refl) (omega (arith, t.fewer)) t.codes_are) r a

module _ {s m : State} (k : Kept Quote s m) where
  pub primary_not : {e : State} (r : Refusal) → Missed Opening m r → Answers primary_rule s e (Err r)
  unfolding ft_primary
  primary_not r x = let y = kept-missed k x in answers-refused s r y.refused (λ n. rw (k.is, y.is) refl)

  module _ {p : State} (o : Took Opening m p) where
    open_here : Took Opening s p
    open_here = kept-took k o

    -- the turns of the selection in parentheses, which begins a byte further at least
    inner_is : (n : ℕ) → left s ≤ n → primary_rule n (stream_of s) ≡ (whole_rule (n - 1) (stream_of p) then expect s_closing)
    unfolding ft_primary
    inner_is n l =
        let t = open_here in
        let one : n ≡ suc (n - 1) = omega (arith, t.fewer) in
        rw (k.is, t.is, t.rest_is) (ap (λ j. ft_selection j (rest_of (stream_of s)) then expect s_closing) one)

    pub primary_fails : {e : State} {r : Refusal} → Answers whole_rule p e (Err r) → Answers primary_rule s e (Err r)
    primary_fails {r = r} a = answers-failed s r (λ n l. inner_is n l ∙ then_failed (expect s_closing) (failed-is a (n - 1) (omega (arith, open_here.fewer))))

    pub primary_ends : {q e : State} {u : Unit {0}} → Answers whole_rule p q (Ok u) → (r : Answer) → MatchResult r (λ _. Took Closing q e) (Missed Closing q) → Answers primary_rule s e r
    unfolding Went Says prefixed
    primary_ends {q} {e} a (Ok u) c =
        let f = read_further a in
        let t = open_here in
        record {
          went = record {
            fewer = omega (arith, t.fewer, f.fewer, c.fewer);
            few = omega (arith, t.fewer, ap (λ (x : Codes). x.count) t.codes_are, f.few, c.fewer, ap (λ (x : Codes). x.count) c.codes_are);
          };
          says = λ n l.
              let x = read-codes a (n - 1) (omega (arith, t.fewer)) in
              let closed : expect s_closing (stream_of q) ≡ read [] (stream_of e) = expect-yes s_closing (stream_of q) c.is ∙ ap (read []) (sym c.rest_is) in
              record {
                codes = x.codes;
                is = inner_is n l ∙ then_none (expect s_closing) x.is closed;
                written = subst (λ (y : Codes). Written x.codes s.codes y) (sym c.codes_are) (subst (λ (y : Codes). Written x.codes y q.codes) t.codes_are x.written);
              };
        }
    primary_ends {q} a (Err r) c = answers-failed s r (λ n l.
        let x = read-codes a (n - 1) (omega (arith, open_here.fewer)) in
        let missed : expect s_closing (stream_of q) ≡ failed r.reason r.place = rw (c.is, c.refused) refl in
        inner_is n l ∙ then_read (expect s_closing) x.is ∙ ap (prefixed x.codes) missed)
