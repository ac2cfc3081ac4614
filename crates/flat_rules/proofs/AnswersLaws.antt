-- How answers go together: codes after codes, one rule after another, and what a token's symbol says of the rule that asks for it.
use Rattle.std.proofs.Common.{◌≡◌, ℕ, ◌+◌, ◌<◌, ◌≤◌, List, [], ◌∷◌, ◌++◌, append-nil, sym, ap, ◌∙◌, refl, subst, arith, Ok, Err}
use Rattle.model.specs.declared.Code.{Code}
use Rattle.model.specs.declared.Refusal.{Refusal}
use Rattle.model.specs.declared.Reason.{Reason}
use Rattle.model.specs.declared.Reason.TheVariants.{UnexpectedToken}
use Rattle.grammar.specs.Stream.{Stream, place_in, rest_of}
use Rattle.grammar.specs.Grammar.{Outcome, failed, read, Rule, prefixed, ◌then◌, refused, writes}
use Rattle.grammar.proofs.JoiningLaws.{prefixed-prefixed}
use Rattle.scanner.specs.declared.symbols.Symbol.{Symbol}
use Rattle.lent_text.specs.declared.codes.Codes.{Codes}
use Rattle.lent_text.specs.State.{State, left, stream_of, Numbered, Pushed, Took}
use Rattle.lent_text.specs.Written.{Written}
use Rattle.lent_text.proofs.WrittenLaws.{written-append, written-none}
use Rattle.flat_rules.specs.Answers.{Answer, Further, ReadsTo, Says, Went, Answers}

-- ---- outcomes

pub prefixed-none : (o : Outcome) → prefixed [] o ≡ o
unfolding prefixed
prefixed-none (failed n p) = refl
prefixed-none (read es ts) = refl

pub then_read : {o : Outcome} {cs : List Code} {us : Stream} (r : Rule) → o ≡ read cs us → (o then r) ≡ prefixed cs (r us)
unfolding ◌then◌
then_read r e = ap (λ x. x then r) e

pub then_failed : {o : Outcome} {x : Reason} {y : ℕ} (r : Rule) → o ≡ failed x y → (o then r) ≡ failed x y
unfolding ◌then◌
then_failed r e = ap (λ z. z then r) e

-- after a rule that writes nothing
pub then_goes : {o : Outcome} {us : Stream} (r : Rule) → o ≡ read [] us → (o then r) ≡ r us
then_goes {us = us} r e = then_read r e ∙ prefixed-none (r us)

-- a code after what was read
pub then_writes : {o : Outcome} {cs : List Code} {us : Stream} (c : Code) → o ≡ read cs us → (o then writes c) ≡ read (cs ++ c ∷ []) us
unfolding prefixed
then_writes c e = then_read (writes c) e

-- nothing after what was read
pub then_none : {o : Outcome} {cs : List Code} {us vs : Stream} (r : Rule) → o ≡ read cs us → r us ≡ read [] vs → (o then r) ≡ read cs vs
unfolding prefixed
then_none {cs = cs} {vs = vs} r e f = then_read r e ∙ ap (prefixed cs) f ∙ ap (λ l. read l vs) (append-nil cs)

-- ---- how far a rule has come

-- what is read from s on is some codes, and then what is read from m on
pub record Going (o o' : Outcome) (s m : State) : Type 0 where
  pub codes : List Code
  pub is : o ≡ prefixed codes o'
  pub written : Written codes s.codes m.codes

-- from s on a rule is some codes, and then `rest` from m on
pub record Front (rule : ℕ → Rule) (s m : State) (rest : ℕ → Rule) : Type 0 where
  pub going : (n : ℕ) → left s ≤ n → Going (rule n (stream_of s)) (rest n (stream_of m)) s m
  pub fewer : left m ≤ left s
  pub few : m.codes.count + left m ≤ s.codes.count + left s

-- .. no codes
pub going-on : {o o' : Outcome} (s m : State) → o ≡ o' → m.codes ≡ s.codes → Going o o' s m
going-on s m e q = record { codes = []; is = e ∙ sym (prefixed-none _); written = written-none q }

pub going-then : {o o' o'' : Outcome} {s m q : State} → Going o o' s m → Going o' o'' m q → Going o o'' s q
going-then a b = record {
  codes = a.codes ++ b.codes;
  is = a.is ∙ ap (prefixed a.codes) b.is ∙ prefixed-prefixed a.codes b.codes _;
  written = written-append a.written b.written;
}

pub front-on : {rule : ℕ → Rule} (s m : State) {rest : ℕ → Rule} → ((n : ℕ) → rule n (stream_of s) ≡ rest n (stream_of m)) → left m ≤ left s → m.codes ≡ s.codes → Front rule s m rest
front-on s m e h q = record {
  going = λ n l. going-on s m (e n) q;
  fewer = h;
  few = omega (arith, ap (λ (x : Codes). x.count) q);
}

pub answers-front : {rule rest : ℕ → Rule} {s m e : State} → Front rule s m rest → (r : Answer) → Answers rest m e r → Answers rule s e r
unfolding Went Says prefixed
answers-front f (Ok u) a = record {
  went = record { fewer = omega (arith, a.went.fewer, f.fewer); few = omega (arith, a.went.few, f.few) };
  says = λ n l. let g = f.going n l in let t = a.says n (omega (arith, f.fewer)) in
      record { codes = g.codes ++ t.codes; is = g.is ∙ ap (prefixed g.codes) t.is; written = written-append g.written t.written };
}
answers-front f (Err x) a = record { went = tt; says = λ n l. let g = f.going n l in g.is ∙ ap (prefixed g.codes) (a.says n (omega (arith, f.fewer))) }

-- ---- answers

pub answers-on : {rule rest : Rule} (s m : State) {e : State} {r : Answer} → rule (stream_of s) ≡ rest (stream_of m) → left m ≤ left s → m.codes ≡ s.codes
    → Answers (λ _. rest) m e r → Answers (λ _. rule) s e r
answers-on {rule} {rest} s m {r = r} e h q a = answers-front (front-on {rule = λ _. rule} s m {rest = λ _. rest} (λ n. e) h q) r a

-- .. where nothing was passed
pub answers-same : {rule rest : Rule} (s m : State) {e : State} {r : Answer} → m ≡ s → rule (stream_of s) ≡ rest (stream_of s) → Answers (λ _. rest) m e r → Answers (λ _. rule) s e r
answers-same {rest = rest} s m q e a = answers-on s m (e ∙ ap (λ (x : State). rest (stream_of x)) (sym q)) (omega (arith, ap left q)) (ap (λ (x : State). x.codes) q) a

module _ {rule : ℕ → Rule} (s : State) {e : State} where
  pub answers-failed : (r : Refusal) → ((n : ℕ) → left s ≤ n → rule n (stream_of s) ≡ failed r.reason r.place) → Answers rule s e (Err r)
  unfolding Went Says
  answers-failed r h = record { went = tt; says = h }

  -- "10 where the grammar doesn't allow it"
  pub answers-refused : (r : Refusal) → r ≡ record { reason = UnexpectedToken; place = place_in (stream_of s) } → ((n : ℕ) → rule n (stream_of s) ≡ refused (stream_of s))
      → Answers rule s e (Err r)
  answers-refused r q h = answers-failed r (λ n l. h n ∙ rw q refl)

  -- a code after what was passed
  code-after : (m : State) (c : Code) {u : Unit {0}} → left m < left s → m.codes ≡ s.codes → ((n : ℕ) → rule n (stream_of s) ≡ read (c ∷ []) (stream_of m)) → Pushed c m e
      → Answers rule s e (Ok u)
  unfolding Went Says
  code-after m c f q h p =
      let written : Written (c ∷ []) s.codes e.codes = subst (λ (x : Codes). Written (c ∷ []) x e.codes) q p.written in
      record {
        went = record { fewer = omega (arith, p.left_is); few = omega (arith, p.left_is, written.counted) };
        says = λ n l. record { codes = c ∷ []; is = h n ∙ ap (read (c ∷ [])) (sym p.stream_is); written = written };
      }

  -- .. a token
  pub answers-code : {symbol : Symbol} (m : State) (c : Code) {u : Unit {0}} → Took symbol s m → ((n : ℕ) → rule n (stream_of s) ≡ read (c ∷ []) (rest_of (stream_of s))) → Pushed c m e
      → Answers rule s e (Ok u)
  answers-code m c t h p = code-after m c t.fewer t.codes_are (λ n. h n ∙ ap (read (c ∷ [])) (sym t.rest_is)) p

  -- .. a number
  pub answers-number : {most v : ℕ} (m : State) (c : Code) {u : Unit {0}} → Numbered most v s m → ((n : ℕ) → rule n (stream_of s) ≡ read (c ∷ []) (stream_of m)) → Pushed c m e
      → Answers rule s e (Ok u)
  answers-number m c t h p = code-after m c t.fewer t.codes_are h p

-- .. another rule after it
pub answers-took : {rule rest : Rule} {symbol : Symbol} (s m : State) {e : State} {r : Answer} → Took symbol s m → rule (stream_of s) ≡ rest (rest_of (stream_of s))
    → Answers (λ _. rest) m e r → Answers (λ _. rule) s e r
answers-took {rest = rest} s m t e a = answers-on s m (e ∙ ap rest (sym t.rest_is)) (omega (arith, t.fewer)) t.codes_are a

-- and back: how far a rule read, what it read, and the error
module _ {rule : ℕ → Rule} {s e : State} where
  pub read_further : {u : Unit {0}} → Answers rule s e (Ok u) → Further s e
  unfolding Went
  read_further a = a.went

  pub read-codes : {u : Unit {0}} → Answers rule s e (Ok u) → (n : ℕ) → left s ≤ n → ReadsTo (rule n (stream_of s)) s e
  unfolding Says
  read-codes a = a.says

  pub failed-is : {r : Refusal} → Answers rule s e (Err r) → (n : ℕ) → left s ≤ n → rule n (stream_of s) ≡ failed r.reason r.place
  unfolding Says
  failed-is a = a.says

-- ---- one rule, then another

pub front-then : {a b c : ℕ → Rule} {s m q : State} → Front a s m b → Front b m q c → Front a s q c
front-then f g = record {
  going = λ n l. going-then (f.going n l) (g.going n (omega (arith, f.fewer)));
  fewer = omega (arith, f.fewer, g.fewer);
  few = omega (arith, f.few, g.few);
}

module _ (first next : ℕ → Rule) where
  -- what was read goes on with the other
  pub then-front : {s m : State} {u : Unit {0}} → Answers first s m (Ok u) → Front (λ n ts. first n ts then next n) s m next
  then-front a =
      let f = read_further a in
      record {
        going = λ n l. let t = read-codes a n l in record { codes = t.codes; is = then_read (next n) t.is; written = t.written };
        fewer = omega (arith, f.fewer);
        few = f.few;
      }

  -- .. which may read nothing
  pub then-ends : {s m : State} {u : Unit {0}} → Answers first s m (Ok u) → ((n : ℕ) → next n (stream_of m) ≡ read [] (stream_of m))
      → Answers (λ n ts. first n ts then next n) s m (Ok u)
  unfolding Went Says
  then-ends a e = record {
    went = read_further a;
    says = λ n l. let t = read-codes a n l in record { codes = t.codes; is = then_none (next n) t.is (e n); written = t.written };
  }

  pub then-fails : {s e : State} {r : Refusal} → Answers first s e (Err r) → Answers (λ n ts. first n ts then next n) s e (Err r)
  then-fails {s = s} {r = r} a = answers-failed s r (λ n l. then_failed (next n) (failed-is a n l))
