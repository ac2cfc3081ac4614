-- The rule of a whole text: it reads what the productions derive, and where it stops no selection goes on. So it gives an answer of the tokens.
use Prim.Native.Nat.{ℕ, suc, ◌≤◌, ◌<◌}
use native.Mathlib.Omega.{arith}
use mathlib.Core.Path.{◌≡◌, refl, sym, ap, ◌∙◌}
use mathlib.Core.Bool.{false}
use mathlib.Core.List.{List, [], ◌∷◌, ◌++◌, append_assoc, append-nil}
use borrow.Author.Tests.{ne_eqb}
use lib.Dec.{eqb}
use lib.ListN.{length}
use Rattle.model.specs.declared.Reason.{Reason}
use Rattle.model.specs.declared.Reason.TheVariants.{OverLimit, UnexpectedToken}
use Rattle.model.specs.declared.Code.{Code}
use Rattle.model.specs.Productions.{FTSelection}
use Rattle.model.specs.TextAnswer.{Begins, StartAlike, both_end, both_go_on, Point, AnswerOfTokens, selects, not_allowed, too_large}
use Rattle.model.specs.Tokens.{Token, digit}
use Rattle.grammar.specs.Stream.{Stream, ends, token, place_in, bytes_in, value_in, stream_at}
use Rattle.grammar.specs.Symbols.{no_more, symbol_of, symbol_in}
use Rattle.grammar.specs.Grammar.{Outcome, failed, read, Rule, prefixed, ◌then◌, expect, ft_selection, answer_in, outcome_of}
use Rattle.grammar.proofs.CompletingLaws.{no_filter, filtered, closes_end, selection_complete}
use Rattle.grammar.proofs.GoingLaws.{Within, Near, Viable, ten, eleven, Went, reads, fails, went-map, Seq, seq, went_then, Wrote, wrote, wrote-some}
use Rattle.grammar.proofs.JoiningLaws.{list_of, tokens_of, ◌⊕◌, size, plus, plus_sum, join-append}
use Rattle.grammar.proofs.RulesLaws.{went-selection}
use Rattle.grammar.proofs.SymbolsLaws.{symbol_sort, symbol_more, alike_symbol}
use Rattle.grammar.proofs.TextsLaws.{size-text, text-parted, rest-place, list-end}

abbrev pub whole : ℕ → Rule
whole n ts = ft_selection n ts then expect no_more

-- ---- what the productions derive is read

pub whole_complete : {ts : List Token} {cs : List Code} (n p : ℕ) → length ts ≤ n → FTSelection ts cs → whole (suc n) (ts ⊕ ends p) ≡ read cs (ends p)
unfolding size ◌then◌ prefixed
whole_complete {cs = cs} n p l d =
    rw (filtered (no_filter p) (selection_complete d n (ends p) (omega arith) (closes_end p))) (ap (λ k. read k (ends p)) (append-nil cs))

-- ---- how the whole goes

at_end : (ts : Stream) → symbol_in ts ≡ no_more → expect no_more ts ≡ read [] ts
at_end (ends p) h = refl
at_end (token t ts) h = absurd (symbol_more t h)

not_end : (t : Token) → eqb (symbol_of t) no_more ≡ false
not_end t = ne_eqb (symbol_of t) no_more (symbol_more t)

went-end : (ts : Stream) → Went (Wrote []) (λ i. expect no_more) ts (expect no_more ts)
unfolding ◌⊕◌
went-end (ends p) = reads [] refl wrote (λ i later n. at_end later n.symbol)
went-end (token t ts) = rw (not_end t) (fails [] (token t ts) refl refl (ten (wrote-some [])) (λ i later n b. rw (n.symbol, not_end t)))

whole_join : Within (Seq FTSelection (Wrote [])) FTSelection
whole_join us ds (seq {ts = ts} {cs = cs} d wrote) = rw (append-nil ts, append-nil cs) d

went_whole : (n : ℕ) (ts : Stream) → size ts < n → Went FTSelection (λ i. whole (plus n i)) ts (whole n ts)
went_whole n ts h =
    went-map whole_join (went_then (λ i. ft_selection (plus n i)) (λ i. expect no_more) (expect no_more) (wrote-some []) ts (went-selection n ts h)
    (λ pre rest cs x d. went-end rest))

-- it leaves nothing
whole_end : (o : Outcome) (cs : List Code) (rest : Stream) → (o then expect no_more) ≡ read cs rest → symbol_in rest ≡ no_more
unfolding ◌then◌ prefixed
whole_end (failed n p) cs rest e = let z : ◌≡◌ {A = ℕ} 0 1 = cc in absurd (omega arith)
whole_end (read ds (ends p)) cs rest e = let f : ends p ≡ rest = cc in sym (ap symbol_in f)
whole_end (read ds (token t ts)) cs rest e =
    let f : failed UnexpectedToken t.place ≡ read cs rest = rw (not_end t) at e in let z : ◌≡◌ {A = ℕ} 0 1 = cc in absurd (omega arith)

-- ---- where it stops, no selection goes on

stops : {cs : List Code} (n : ℕ) (reason : Reason) (place : ℕ) (pre us : List Token)
    → ((i : ℕ) → whole (plus (suc n) i) (pre ⊕ (us ⊕ ends 0)) ≡ failed reason place) → ¬ FTSelection (pre ++ us) cs
unfolding plus
stops {cs} n reason place pre us g d =
    let k = length (pre ++ us) in
    let a = whole_complete (plus n k) 0 (omega (arith, plus_sum n k)) d in
    let b : whole (suc (plus n k)) ((pre ++ us) ⊕ ends 0) ≡ failed reason place = rw (join-append pre us (ends 0)) (g k) in
    let z : ◌≡◌ {A = ℕ} 0 1 = cc in omega arith

near_start : (rest : Stream) {l us : List Token} → list_of rest ≡ l → StartAlike l us → Near rest (us ⊕ ends 0)
unfolding ◌⊕◌ list_of
near_start (ends p) e both_end = record { symbol = refl }
near_start (token t ts) e both_end = let z : ◌≡◌ {A = ℕ} 0 1 = cc in absurd (omega arith)
near_start (ends p) e (both_go_on a) = let z : ◌≡◌ {A = ℕ} 0 1 = cc in absurd (omega arith)
near_start (token t ts) e (both_go_on {t = v} a) = let f : t ≡ v = cc in rw f (record { symbol = alike_symbol a })

-- ---- the answer

begins_viable : {ts : List Token} → Viable FTSelection ts → Begins ts
begins_viable v = record { more = v.more; codes = v.codes; selection = v.holds }

module _ (text : List ℕ) where
  point_at : (place : ℕ) (pre : List Token) (rest : Stream) → stream_at text 0 ≡ pre ⊕ rest → place ≡ place_in rest
      → Point (tokens_of text) (suc (length text)) place
  point_at place pre rest e p =
      record { before = pre; after = list_of rest; parted = text-parted text pre rest e; there = p ∙ rest-place text pre rest e }

  large-stops : (n : ℕ) (pre : List Token) (t : Token) (us : Stream)
      → ((i : ℕ) (later : Stream) → Near (token t us) later → (◌≡◌ {A = Reason} OverLimit OverLimit → bytes_in later ≡ bytes_in (token t us))
      → whole (plus (suc n) i) (pre ⊕ later) ≡ failed OverLimit (place_in later))
      → ¬ Begins (pre ++ (t ∷ []))
  unfolding ◌⊕◌
  large-stops n pre t us g b =
      let d : FTSelection (pre ++ (t ∷ b.more)) b.codes = rw append_assoc at b.selection in
      stops n OverLimit t.place pre (t ∷ b.more) (λ i. g i _ (record { symbol = refl }) (λ h. refl)) d

  read_answer : {cs : List Code} (pre : List Token) (rest : Stream) → stream_at text 0 ≡ pre ⊕ rest → symbol_in rest ≡ no_more → FTSelection pre cs
      → FTSelection (tokens_of text) cs
  read_answer pre rest e f d =
      let g : tokens_of text ≡ pre = text-parted text pre rest e ∙ ap (λ l. pre ++ l) (list-end rest f) ∙ append-nil pre in rw g d

  answer_of : {o : Outcome} → Went FTSelection (λ i. whole (plus (suc (length text)) i)) (stream_at text 0) o
      → ((cs : List Code) (rest : Stream) → o ≡ read cs rest → symbol_in rest ≡ no_more) → AnswerOfTokens (tokens_of text) (suc (length text)) (answer_in o)
  unfolding point_at list_of value_in
  answer_of (reads {cs = cs} {rest = rest} pre e d g) k = selects (read_answer pre rest e (k cs rest refl) d)
  answer_of (fails {place = place} pre rest e p (ten v) g) k =
      not_allowed (record {
        point = point_at place pre rest e p;
        begins = begins_viable v;
        stops = λ us cs a d. stops (length text) UnexpectedToken _ pre us (λ i. g i (us ⊕ ends 0) (near_start rest refl a) (λ q. cc)) d;
      })
  answer_of (fails {place = place} pre (ends q) e p (eleven most lim dig over v) g) k = absurd (omega arith)
  answer_of (fails {place = place} pre (token t us) e p (eleven most lim dig over v) g) k =
      too_large (record {
        point = point_at place pre (token t us) e p;
        most = most;
        limit = lim;
        large = t;
        later = list_of us;
        next = refl;
        digits = symbol_sort t digit dig;
        over = over;
        within = λ n q. begins_viable (v n q);
        stops = large-stops (length text) pre t us g;
      })

  -- What the grammar as functions answers is an answer by the productions.
  pub outcome-answer : AnswerOfTokens (tokens_of text) (suc (length text)) (answer_in (outcome_of text))
  unfolding outcome_of
  outcome-answer =
      let n = suc (length text) in
      answer_of (went_whole n (stream_at text 0) (omega (arith, size-text text))) (λ cs rest e. whole_end (ft_selection n (stream_at text 0)) cs rest e)
