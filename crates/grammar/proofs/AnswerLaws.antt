-- Every text has exactly one answer by the productions, and the grammar as functions computes it.
use Prim.Native.Nat.{ℕ}
use native.Mathlib.Omega.{arith}
use mathlib.Core.Path.{◌≡◌, refl, sym, ap, ◌∙◌}
use mathlib.Core.Bool.{Bool, true, false, cond}
use mathlib.Core.List.{List, [], ◌∷◌, ◌++◌, append_assoc}
use mathlib.Core.Logic.{◌↔◌}
use borrow.Author.Tests.{leb-true, leb-false}
use lib.Dec.{leb}
use lib.ListN.{length}
use Rattle.model.specs.declared.Reason.TheVariants.{OverLimit, UnexpectedToken}
use Rattle.model.specs.declared.Code.{Code}
use Rattle.model.specs.Checks.{refusal}
use Rattle.model.specs.Limits.{max_text}
use Rattle.model.specs.Productions.{FTSelection}
use Rattle.model.specs.TextAnswer.{TextAnswer, codes, error, Begins, Alike, StartAlike, both_end, both_go_on, first_place, Point, NotAllowed, TooLarge, AnswerOfTokens, selects, not_allowed, too_large, AnswerOf, too_long, by_tokens}
use Rattle.model.specs.Tokens.{Token}
use Rattle.grammar.specs.Grammar.{answer_in, outcome_of, read_text}
use Rattle.grammar.proofs.GoingLaws.{a_number_lem, a_number}
use Rattle.grammar.proofs.JoiningLaws.{tokens_of}
use Rattle.grammar.proofs.PartingLaws.{tokens_exactly}
use Rattle.grammar.proofs.WholeLaws.{whole_complete, outcome-answer}

-- ---- two ways to part a list

data Compared (a b c d : List Token) : Type 0 where
  same : a ≡ c → b ≡ d → Compared a b c d
  shorter : (t : Token) (ms : List Token) → c ≡ a ++ (t ∷ ms) → b ≡ t ∷ (ms ++ d) → Compared a b c d
  longer : (t : Token) (ms : List Token) → a ≡ c ++ (t ∷ ms) → d ≡ t ∷ (ms ++ b) → Compared a b c d

compared_more : (x y : Token) {a b c d : List Token} → x ≡ y → Compared a b c d → Compared (x ∷ a) b (y ∷ c) d
compared_more x y e (same f g) = same (cc) g
compared_more x y e (shorter t ms f g) = shorter t ms (rw (e, f)) g
compared_more x y e (longer t ms f g) = longer t ms (rw (e, f)) g

compared : (a b c d : List Token) → a ++ b ≡ c ++ d → Compared a b c d
compared [] b [] d e = same refl e
compared [] b (t ∷ c) d e = shorter t c refl e
compared (t ∷ a) b [] d e = longer t a refl (sym e)
compared (x ∷ a) b (y ∷ c) d e = let f : a ++ b ≡ c ++ d = cc in compared_more x y (cc) (compared a b c d f)

-- ---- faults

-- what both errors say: the tokens before begin a selection, with the one there they don't
record Fault (tokens : List Token) (end place : ℕ) : Type 0 where
  point : Point tokens end place
  begins : Begins point.before
  halts : (t : Token) (ms rest : List Token) → point.after ≡ t ∷ rest → ¬ Begins (point.before ++ (t ∷ ms))

fewer : (ts us : List Token) → Begins (ts ++ us) → Begins ts
fewer ts us b = record { more = us ++ b.more; codes = b.codes; selection = rw append_assoc at b.selection }

alike_self : (t : Token) → Alike t t
alike_self t = record { sort = refl; bytes = λ h. refl }

start_self : (ts : List Token) → StartAlike ts ts
start_self [] = both_end
start_self (t ∷ ts) = both_go_on (alike_self t)

-- The grammar has one reading: tokens are a selection with one list of codes at most.
pub codes_unique : {ts : List Token} {cs ds : List Code} → FTSelection ts cs → FTSelection ts ds → cs ≡ ds
codes_unique {ts} {cs} {ds} d e =
    let a = whole_complete (length ts) 0 (omega arith) d in let b = whole_complete (length ts) 0 (omega arith) e in cc

module _ (tokens : List Token) (end : ℕ) where
  not_fault : {place : ℕ} → NotAllowed tokens end place → Fault tokens end place
  not_fault n = record {
    point = n.point;
    begins = n.begins;
    halts = λ t ms rest e b.
        n.stops ((t ∷ ms) ++ b.more) b.codes (rw e (both_go_on (alike_self t))) (rw append_assoc at b.selection);
  }

  large_fault : {place : ℕ} → TooLarge tokens end place → Fault tokens end place
  large_fault n = record {
    point = n.point;
    begins = fewer _ _ (n.within a_number_lem (a_number n.most));
    halts = λ t ms rest e b.
        let f : t ≡ n.large = cc n.next in n.stops (fewer (n.point.before ++ (n.large ∷ [])) ms (rw append_assoc (rw f at b)));
  }

  same_point : {p q : ℕ} (f : Fault tokens end p) (g : Fault tokens end q)
      → (f.point.before ≡ g.point.before) × (f.point.after ≡ g.point.after)
  same_point f g = at (compared _ _ _ _ (sym f.point.parted ∙ g.point.parted)) where
    at : Compared f.point.before f.point.after g.point.before g.point.after
        → (f.point.before ≡ g.point.before) × (f.point.after ≡ g.point.after)
    at (same a b) = (a, b)
    at (shorter t ms a b) = absurd (f.halts t ms _ b (rw a at g.begins))
    at (longer t ms a b) = absurd (g.halts t ms _ b (rw a at f.begins))

  same_place : {p q : ℕ} (f : Fault tokens end p) (g : Fault tokens end q) → p ≡ q
  same_place f g = f.point.there ∙ ap (first_place end) (same_point f g).1 ∙ sym g.point.there

  no_fault : {cs : List Code} {p : ℕ} → FTSelection tokens cs → ¬ NotAllowed tokens end p
  no_fault {cs} d n = n.stops n.point.after cs (start_self _) (rw n.point.parted at d)

  no_large : {cs : List Code} {p : ℕ} → FTSelection tokens cs → ¬ TooLarge tokens end p
  no_large {cs} d n =
      let e : tokens ≡ (n.point.before ++ (n.large ∷ [])) ++ n.later
      = n.point.parted ∙ ap (λ l. n.point.before ++ l) n.next ∙ sym (append_assoc n.point.before (n.large ∷ []) n.later) in
      n.stops (record { more = n.later; codes = cs; selection = rw e at d })

  not-both : {p q : ℕ} → NotAllowed tokens end p → ¬ TooLarge tokens end q
  unfolding not_fault large_fault
  not-both n l =
      let s = same_point (not_fault n) (large_fault l) in
      let b : Begins (n.point.before ++ (a_number_lem ∷ [])) = rw s.0 (l.within a_number_lem (a_number l.most)) in
      let e : n.point.after ≡ l.large ∷ l.later = s.1 ∙ l.next in
      n.stops (a_number_lem ∷ b.more) b.codes (rw e (both_go_on (record { sort = sym l.digits; bytes = λ h. absurd (h l.digits) })))
      (rw append_assoc at b.selection)

  tokens-answer : {a b : TextAnswer} → AnswerOfTokens tokens end a → AnswerOfTokens tokens end b → a ≡ b
  tokens-answer (selects d) (selects e) = ap codes (codes_unique d e)
  tokens-answer (selects d) (not_allowed n) = absurd (no_fault d n)
  tokens-answer (selects d) (too_large n) = absurd (no_large d n)
  tokens-answer (not_allowed n) (selects d) = absurd (no_fault d n)
  tokens-answer (not_allowed n) (not_allowed m) = ap (λ p. error (refusal UnexpectedToken p)) (same_place (not_fault n) (not_fault m))
  tokens-answer (not_allowed n) (too_large m) = absurd (not-both n m)
  tokens-answer (too_large n) (selects d) = absurd (no_large d n)
  tokens-answer (too_large n) (not_allowed m) = absurd (not-both m n)
  tokens-answer (too_large n) (too_large m) = ap (λ p. error (refusal OverLimit p)) (same_place (large_fault n) (large_fault m))

-- ---- the theorems

-- Every text has an answer by the productions, ..
pub some_answer : (text : List ℕ) → AnswerOf text (read_text text)
unfolding read_text
some_answer text = at (leb (length text) max_text) refl where
  at : (x : Bool) → leb (length text) max_text ≡ x → AnswerOf text (cond x (answer_in (outcome_of text)) (error (refusal OverLimit 0)))
  at true h = by_tokens (leb-true _ _ h) ((tokens_exactly text (tokens_of text)).0 refl) (outcome-answer text)
  at false h = too_long (leb-false _ _ h)

-- .. no more than one, ..
pub one_answer : {text : List ℕ} {a b : TextAnswer} → AnswerOf text a → AnswerOf text b → a ≡ b
one_answer (too_long h) (too_long k) = refl
one_answer (too_long h) (by_tokens k q e) = absurd (omega arith)
one_answer (by_tokens h p d) (too_long k) = absurd (omega arith)
one_answer {text} (by_tokens {ts = ts} h p d) (by_tokens {ts = us} k q e) =
    let f : ts ≡ us = sym ((tokens_exactly text ts).1 p) ∙ (tokens_exactly text us).1 q in tokens-answer us _ (rw f at d) e

-- .. and it is what the grammar as functions computes.
pub reads_exactly : (text : List ℕ) (a : TextAnswer) → (read_text text ≡ a) ↔ AnswerOf text a
reads_exactly text a = (λ e. rw e at (some_answer text), λ d. one_answer (some_answer text) d)
