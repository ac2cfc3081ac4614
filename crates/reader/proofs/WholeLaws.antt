-- The whole text: a selection and the end, as the grammar's functions say it, and so the text's answer.
use Rattle.std.proofs.Common.{◌≡◌, ℕ, suc, ◌<◌, ◌≤◌, Bool, true, false, not, eqb, List, [], length, sym, ap, ◌∙◌, refl, subst, Ok, Err}
use borrow.Author.Tests.{eqb-true, le-leb, lt-leb}
use Rattle.model.specs.declared.Code.{Code}
use Rattle.model.specs.declared.Reason.TheVariants.{OverLimit, UnexpectedToken}
use Rattle.model.specs.declared.Refusal.{Refusal}
use Rattle.model.specs.Checks.{refusal}
use Rattle.model.specs.Limits.{max_text}
use Rattle.model.specs.TextAnswer.{codes, error}
use Rattle.grammar.specs.Stream.{Stream, ends, token, place_in, rest_of}
use Rattle.grammar.specs.Symbols.{symbol_in, no_more}
use Rattle.grammar.specs.Grammar.{failed, read, prefixed, ◌then◌, expect, ft_selection, answer_in, outcome_of, read_text}
use Rattle.grammar.proofs.SymbolsLaws.{symbol_more}
use Rattle.lent_text.specs.declared.codes.Codes.{Codes}
use Rattle.lent_text.specs.State.{State, left, stream_of, Begins}
use Rattle.lent_text.specs.Written.{Written, no_codes}
use Rattle.flat_rules.specs.Answers.{Answers, ReadsTo, Says}
use Rattle.flat_rules.proofs.AnswersLaws.{failed-is, read-codes, then_failed, then_none, then_read}
use Rattle.flat_rules.proofs.RangesLaws.{expect-no, expect-yes}
use Rattle.reader.proofs.RulesLaws.{whole_rule}

-- nothing follows the end
rest_end : (ts : Stream) → symbol_in ts ≡ no_more → rest_of ts ≡ ts
rest_end (ends p) e = refl
rest_end (token t ts) e = absurd (symbol_more t e)

module _ {s m : State} where
  pub whole_fails : {r : Refusal} → Answers whole_rule s m (Err r) → (n : ℕ) → left s ≤ n → Says (whole_rule n (stream_of s) then expect no_more) s m (Err r)
  unfolding Says
  whole_fails a n l = then_failed (expect no_more) (failed-is a n l)

  module _ {u : Unit {0}} (a : Answers whole_rule s m (Ok u)) {b : Bool} (test : b ≡ not (eqb (symbol_in (stream_of m)) no_more)) where
    pub whole_goes_on : b ≡ true → (r : Refusal) → r ≡ record { reason = UnexpectedToken; place = place_in (stream_of m) } → (n : ℕ) → left s ≤ n
        → Says (whole_rule n (stream_of s) then expect no_more) s m (Err r)
    unfolding Says prefixed
    whole_goes_on h r q n l =
        let x = read-codes a n l in
        let more : eqb (symbol_in (stream_of m)) no_more ≡ false = unset _ (sym test ∙ h) in
        let missed : expect no_more (stream_of m) ≡ failed r.reason r.place = expect-no no_more (stream_of m) more ∙ rw q refl in
        then_read (expect no_more) x.is ∙ ap (prefixed x.codes) missed where
          unset : (t : Bool) → not t ≡ true → t ≡ false
          unset true e = sym e
          unset false e = refl

    pub whole_ends : b ≡ false → (n : ℕ) → left s ≤ n → Says (whole_rule n (stream_of s) then expect no_more) s m (Ok u)
    unfolding Says
    whole_ends h n l =
        let x = read-codes a n l in
        let at_end : eqb (symbol_in (stream_of m)) no_more ≡ true = set _ (sym test ∙ h) in
        let ending : expect no_more (stream_of m) ≡ read [] (stream_of m) = expect-yes no_more (stream_of m) at_end ∙ ap (read []) (rest_end (stream_of m) (eqb-true _ _ at_end)) in
        record { codes = x.codes; is = then_none (expect no_more) x.is ending; written = x.written } where
          set : (t : Bool) → not t ≡ false → t ≡ true
          set true e = refl
          set false e = sym e

-- ---- the text's answer

pub text-too_long : (text : List ℕ) → max_text < length text → read_text text ≡ error (refusal OverLimit 0)
unfolding read_text
text-too_long text h = rw (lt-leb (length text) max_text h) refl

whole_answer : (text : List ℕ) → length text ≤ max_text → read_text text ≡ answer_in (outcome_of text)
unfolding read_text
whole_answer text h = rw (le-leb (length text) max_text h) refl

module _ (text : List ℕ) (short : length text ≤ max_text) (s : State) (b : Begins text s) where
  outcome-is : outcome_of text ≡ (whole_rule (length text) (stream_of s) then expect no_more)
  unfolding outcome_of
  outcome-is = ap (λ ts. ft_selection (suc (length text)) ts then expect no_more) (sym b.stream_is)

  pub text-fails : (e : State) {r : Refusal} → ((n : ℕ) → left s ≤ n → Says (whole_rule n (stream_of s) then expect no_more) s e (Err r)) → read_text text ≡ error r
  unfolding Says
  text-fails e w = whole_answer text short ∙ ap answer_in (outcome-is ∙ w (length text) b.left_is)

  pub text-reads : (e : State) {u : Unit {0}} → ((n : ℕ) → left s ≤ n → Says (whole_rule n (stream_of s) then expect no_more) s e (Ok u))
      → (cs : List Code) × (read_text text ≡ codes cs) × Written cs no_codes e.codes
  unfolding Says
  text-reads e w =
      let v : ReadsTo (whole_rule (length text) (stream_of s) then expect no_more) s e = w (length text) b.left_is in
      (v.codes, whole_answer text short ∙ ap answer_in (outcome-is ∙ v.is), subst (λ (x : Codes). Written v.codes x e.codes) b.none v.written)
