-- The grammar's rule for a number, by what the first token is.
use Rattle.std.proofs.Common.{◌≡◌, ℕ, ◌+◌, ◌<◌, ◌≤◌, Bool, true, false, not, eqb, sym, ap, ◌∙◌, refl, arith}
use borrow.Author.Tests.{eqb-true, le-leb, lt-leb}
use Rattle.model.specs.declared.Refusal.{Refusal}
use Rattle.model.specs.declared.Reason.TheVariants.{OverLimit, UnexpectedToken}
use Rattle.grammar.specs.Stream.{place_in, value_in}
use Rattle.grammar.specs.Symbols.{s_number, symbol_in}
use Rattle.scanner.specs.Scanned.{capped, ceiling}
use Rattle.model.specs.Limits.{max_text}
use Rattle.lent_text.specs.declared.codes.Codes.{Codes}
use Rattle.lent_text.specs.State.{State, stream_of, left, Passed, Numbered, Unnumbered}

module _ (most : ℕ) (s : State) where
  pub number-none : {b : Bool} {r : Refusal} → b ≡ not (eqb (symbol_in (stream_of s)) s_number) → b ≡ true → r ≡ record { reason = UnexpectedToken; place = place_in (stream_of s) } → Unnumbered most s r
  number-none e h f next = rw (f, unset _ (sym e ∙ h)) refl where
    unset : (b : Bool) → not b ≡ true → b ≡ false
    unset true h = sym h
    unset false h = refl

  module _ {b : Bool} (is : b ≡ not (eqb (symbol_in (stream_of s)) s_number)) (no : b ≡ false) {v : ℕ} (value : v ≡ capped (value_in (stream_of s))) (few : most < ceiling) where
    is_number : eqb (symbol_in (stream_of s)) s_number ≡ true
    is_number = set _ (sym is ∙ no) where
      set : (b : Bool) → not b ≡ false → b ≡ true
      set true h = refl
      set false h = sym h

    pub number-over : most < v → (r : Refusal) → r.reason ≡ OverLimit → r.place ≡ place_in (stream_of s) → Unnumbered most s r
    number-over h r e f next =
        let over : most < value_in (stream_of s) = omega (arith, value) in
        rw (e, f, is_number, lt-leb (value_in (stream_of s)) most over) refl

    pub number-some : {e : State} → v ≤ most → Passed s e → s.codes.count + left s ≤ max_text → Numbered most v s e
    number-some h p room =
        let same : v ≡ value_in (stream_of s) = omega (arith, value) in
        let fewer = p.fewer (λ e. omega (arith, eqb-true _ _ is_number)) in
        record {
          within = h;
          is = λ next. rw (is_number, sym same, le-leb v most h, p.rest_is) refl;
          fewer = fewer;
          room = omega (arith, room, fewer, ap (λ (x : Codes). x.count) p.codes_are);
          codes_are = p.codes_are;
        }
