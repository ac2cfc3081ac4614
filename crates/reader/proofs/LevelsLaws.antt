-- A loop reads a level of the grammar: before each operand, the level is the codes written and then the operand, the code of its operator, and a row.
use Rattle.std.proofs.Common.{◌≡◌, ℕ, zero, suc, ◌+◌, ◌-◌, ◌<◌, ◌≤◌, Bool, true, false, cond, eqb, List, [], ◌∷◌, ◌++◌, append-nil, length, sym, ap, ◌∙◌, refl, arith, Ok, Err}
use Rattle.model.specs.declared.Code.{Code}
use Rattle.model.specs.declared.Code.TheVariants.{Combine}
use Rattle.model.specs.declared.Pair.{Pair}
use Rattle.model.specs.declared.Pair.TheVariants.{MildNot}
use Rattle.model.specs.declared.Reason.{Reason}
use Rattle.model.specs.declared.Refusal.{Refusal}
use Rattle.grammar.specs.Stream.{Stream}
use Rattle.grammar.specs.Symbols.{k_not, k_in, symbol_in}
use Rattle.grammar.specs.Grammar.{Outcome, failed, read, Rule, prefixed, ◌then◌, writes, expect, row}
use Rattle.scanner.specs.declared.symbols.Symbol.TheVariants.{In, Not}
use Rattle.lent_text.specs.declared.codes.Codes.{Codes}
use Rattle.lent_text.specs.State.{State, left, stream_of, Missed, Pushed, Took}
use Rattle.lent_text.specs.Written.{Written}
use Rattle.lent_text.proofs.WrittenLaws.{written-append, written-none}
use Rattle.flat_rules.specs.Answers.{Further, Says, Went, Answers}
use Rattle.flat_rules.proofs.AnswersLaws.{Going, answers-failed, failed-is, going-on, going-then, read-codes, read_further, then_failed, then_goes, then_read, then_writes}
use Rattle.flat_rules.proofs.RangesLaws.{expect-yes, then-yes}
use Rattle.reader.specs.Levels.{begins_with, operator_rule, level_rule, Broken, Ended, Operated}

-- ---- `not in`

pub not_in_read : {s m e : State} → Took Not s m → Took In m e → Operated MildNot s e
not_in_read {s} {m} {e} t u = record {
  first = t.is;
  is = then-yes k_not (stream_of s) (expect k_in) t.is ∙ ap (expect k_in) (sym t.rest_is) ∙ expect-yes k_in (stream_of m) u.is ∙ ap (read []) (sym u.rest_is);
  fewer = omega (arith, t.fewer, u.fewer);
  room = u.room;
  codes_are = u.codes_are ∙ t.codes_are;
}

pub not_in_broken : {s m : State} {r : Refusal} → Took Not s m → Missed In m r → Broken MildNot s r
not_in_broken {s} {m} t u = record {
  first = t.is;
  is = then-yes k_not (stream_of s) (expect k_in) t.is ∙ ap (expect k_in) (sym t.rest_is) ∙ rw (u.is, u.refused) refl;
}

-- ---- a row

module _ (pair : Pair) (operand : ℕ → Rule) where
  -- with k, f turns more at most
  abbrev pub row_of : (k f : ℕ) → Rule
  row_of k f = row f (begins_with pair) (operator_rule pair) (Combine pair) (operand k)

  row-none : (k f : ℕ) (ts : Stream) → eqb (symbol_in ts) (begins_with pair) ≡ false → row_of k f ts ≡ read [] ts
  unfolding row
  row-none k zero ts h = refl
  row-none k (suc f) ts h = rw h refl

  row-some : (k f : ℕ) (ts : Stream) → eqb (symbol_in ts) (begins_with pair) ≡ true
      → row_of k (suc f) ts ≡ (operator_rule pair ts then operand k then writes (Combine pair) then row_of k f)
  unfolding row
  row-some k f ts h = rw h refl

  -- the code of an operator, where there is one
  abbrev pub code_if : Bool → List Code
  code_if more = cond more (Combine pair ∷ []) []

  -- an operand, the code of the operator before it, and the row after it
  unfoldable pub turn : (more : Bool) (k f : ℕ) → Rule
  turn more k f ts = cond more (operand k ts then writes (Combine pair)) (operand k ts) then row_of k f

  turn_failed : (more : Bool) (k f : ℕ) (ts : Stream) {x : Reason} {y : ℕ} → operand k ts ≡ failed x y → turn more k f ts ≡ failed x y
  unfolding turn
  turn_failed true k f ts e = then_failed (row_of k f) (then_failed (writes (Combine pair)) e)
  turn_failed false k f ts e = then_failed (row_of k f) e

  turn_read : (more : Bool) (k f : ℕ) (ts us : Stream) (cs : List Code) → operand k ts ≡ read cs us → turn more k f ts ≡ prefixed (cs ++ code_if more) (row_of k f us)
  unfolding turn
  turn_read true k f ts us cs e = then_read (row_of k f) (then_writes (Combine pair) e)
  turn_read false k f ts us cs e = then_read (row_of k f) e ∙ ap (λ l. prefixed l (row_of k f us)) (sym (append-nil cs))

  turn_some : (k f : ℕ) (ts us : Stream) → eqb (symbol_in ts) (begins_with pair) ≡ true → operator_rule pair ts ≡ read [] us → row_of k (suc f) ts ≡ turn true k f us
  unfolding turn
  turn_some k f ts us h e = row-some k f ts h ∙ ap (λ o. o then writes (Combine pair) then row_of k f) (then_goes (operand k) e)

-- ---- the loop

-- what the level reads is some codes and then what is left, with turns enough
pub record Left (o : Outcome) (rest : ℕ → Outcome) (s m : State) : Type 0 where
  pub fuel : ℕ
  pub enough : left m ≤ fuel
  pub going : Going o (rest fuel) s m

-- before an operand at m: `more` says whether an operator was read before it
pub record Turns (pair : Pair) (operand : ℕ → Rule) (s m : State) (more : Bool) : Type 0 where
  pub fewer : left m ≤ left s
  pub few : m.codes.count + length (code_if pair operand more) + left m ≤ s.codes.count + left s
  pub going : (k : ℕ) → left s ≤ k → Left (level_rule pair operand k (stream_of s)) (λ f. turn pair operand more k f (stream_of m)) s m

-- after that operand and its code, at q
pub record Rows (pair : Pair) (operand : ℕ → Rule) (s m q : State) : Type 0 where
  pub past : left q < left m
  pub further : Further s q
  pub going : (k : ℕ) → left s ≤ k → Left (level_rule pair operand k (stream_of s)) (λ f. row_of pair operand k (suc f) (stream_of q)) s q

module _ (pair : Pair) (operand : ℕ → Rule) where
  pub turns_start : (s : State) → Turns pair operand s s false
  unfolding turn level_rule
  turns_start s = record {
    fewer = omega arith;
    few = omega arith;
    going = λ k h. record { fuel = k; enough = h; going = going-on s s refl refl };
  }

  module _ {s m : State} {more : Bool} (t : Turns pair operand s m more) where
    -- the operand fails
    pub turns_fails : {e : State} {r : Refusal} → Answers operand m e (Err r) → Answers (level_rule pair operand) s e (Err r)
    unfolding prefixed
    turns_fails {r = r} a = answers-failed s r (λ k h. let g = t.going k h in
        g.going.is ∙ ap (prefixed g.going.codes) (turn_failed pair operand more k g.fuel (stream_of m) (failed-is a k (omega (arith, t.fewer)))))

    -- the operand is read, and the code of its operator written
    rows : {q p : State} {u : Unit {0}} → Answers operand m q (Ok u) → stream_of p ≡ stream_of q → left p ≡ left q → Written (code_if pair operand more) q.codes p.codes
        → Rows pair operand s m p
    rows {q} {p} a e l w =
        let f = read_further a in
        record {
          past = omega (arith, f.fewer, l);
          further = record { fewer = omega (arith, t.fewer, f.fewer, l); few = omega (arith, t.few, f.few, w.counted, l) };
          going = λ k h.
              let g = t.going k h in
              let x = read-codes a k (omega (arith, t.fewer)) in
              let one : g.fuel ≡ suc (g.fuel - 1) = omega (arith, g.enough, f.fewer) in
              let step : Going (turn pair operand more k g.fuel (stream_of m)) (row_of pair operand k (suc (g.fuel - 1)) (stream_of p)) m p = record {
                codes = x.codes ++ code_if pair operand more;
                is = turn_read pair operand more k g.fuel (stream_of m) (stream_of q) x.codes x.is
                    ∙ ap (λ n. prefixed (x.codes ++ code_if pair operand more) (row_of pair operand k n (stream_of q))) one
                    ∙ ap (λ us. prefixed (x.codes ++ code_if pair operand more) (row_of pair operand k (suc (g.fuel - 1)) us)) (sym e);
                written = written-append x.written w;
              } in
              record { fuel = g.fuel - 1; enough = omega (arith, g.enough, f.fewer, l); going = going-then g.going step };
        }

    pub rows_first : {q z : State} {u : Unit {0}} → Answers operand m q (Ok u) → more ≡ false → z ≡ q → Rows pair operand s m z
    rows_first a h z = rows a (ap stream_of z) (ap left z) (rw h (written-none (ap (λ (x : State). x.codes) z)))

    pub rows_more : {q p z : State} {u : Unit {0}} → Answers operand m q (Ok u) → more ≡ true → Pushed (Combine pair) q p → z ≡ p → Rows pair operand s m z
    rows_more a h p z = rw z (rows a p.stream_is p.left_is (rw h p.written))

  module _ {s m q : State} (r : Rows pair operand s m q) where
    -- no operator begins at q
    pub row_stop : {e : State} {u : Unit {0}} → Ended pair q e → Answers (level_rule pair operand) s e (Ok u)
    unfolding Went Says prefixed
    row_stop {e} end = rw end.same (record {
      went = r.further;
      says = λ k l. let g = r.going k l in record {
        codes = g.going.codes;
        is = g.going.is ∙ ap (prefixed g.going.codes) (row-none pair operand k (suc g.fuel) (stream_of q) end.first)
            ∙ ap (λ cs. read cs (stream_of q)) (append-nil g.going.codes);
        written = g.going.written;
      };
    })

    -- an operator begins, and is not whole
    pub row_broken : {e : State} {x : Refusal} → Broken pair q x → Answers (level_rule pair operand) s e (Err x)
    unfolding prefixed
    row_broken {x = x} b = answers-failed s x (λ k l. let g = r.going k l in
        g.going.is ∙ ap (prefixed g.going.codes) (row-some pair operand k g.fuel (stream_of q) b.first
        ∙ then_failed (row_of pair operand k g.fuel) (then_failed (writes (Combine pair)) (then_failed (operand k) b.is))))

    -- an operator is read
    pub row_step : {e : State} → Operated pair q e → Turns pair operand s e true
    row_step {e} o = record {
      fewer = omega (arith, r.further.fewer, o.fewer);
      few = omega (arith, r.further.few, o.fewer, ap (λ (x : Codes). x.count) o.codes_are);
      going = λ k l.
          let g = r.going k l in
          let step : Going (row_of pair operand k (suc g.fuel) (stream_of q)) (turn pair operand true k g.fuel (stream_of e)) q e =
          going-on q e (turn_some pair operand k g.fuel (stream_of q) (stream_of e) o.first o.is) o.codes_are in
          record { fuel = g.fuel; enough = omega (arith, g.enough, o.fewer); going = going-then g.going step };
    }
