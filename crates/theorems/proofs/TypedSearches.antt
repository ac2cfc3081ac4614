-- The reader: a text's answer by the productions is what the grammar's functions compute, so there is one and no other. The typed calls: by that answer,
-- codes or an error, each definition says itself what it answers; a refusal of a selection has another number than a text's.
use Prim.Native.Nat.{ℕ, ◌≤◌, ◌<◌}
use native.Mathlib.Omega.{arith}
use mathlib.Core.Bool.{Bool, true, false}
use mathlib.Core.List.{List, [], ◌++◌}
use mathlib.Core.Logic.{◌⊎◌, inl, inr}
use Rattle.std.specs.Prelude.{Option, Some, None}
use mathlib.Core.Path.{◌≡◌, refl, sym, ap, ◌∙◌}
use lib.Dec.{leb}
use lib.ListN.{length, drop}
use borrow.Author.Tests.{le-leb, lt-leb, leb-true, leb-false}
use Rattle.model.specs.declared.Reason.{Reason}
use Rattle.model.specs.declared.Reason.TheVariants.{OverLimit, ShortMemory, UnexpectedToken, WrongSelection}
use Rattle.model.specs.declared.Code.{Code}
use Rattle.std.specs.Prelude.{Ok, Err}
use Rattle.model.specs.declared.Refusal.{Refusal}
use Rattle.model.specs.Answers.{buffer_unless, listing_answer, quick_answer}
use Rattle.model.specs.Checks.{number_of, refusal}
use Rattle.model.specs.Limits.{max_codes, selection_length}
use Rattle.model.specs.Section.{size}
use Rattle.model.specs.TextAnswer.{TextAnswer, codes, error, AnswerOf, too_long, by_tokens, selects, not_allowed, too_large}
use Rattle.model.specs.Typed.{selection_of, typed_listing, typed_quick, codes_refusal, read_unless, read_answer, read_selection}
use Rattle.model.proofs.ChecksLaws.{number-injective}
use Rattle.model.proofs.TypedLaws.{length-selection, selection-over}
use Rattle.grammar.specs.Grammar.{read_text}
use Rattle.grammar.proofs.AnswerLaws as grammar
use Rattle.grammar.proofs.ExamplesLaws.{examples_hold}
use Rattle.grammar.proofs.PartingLaws.{tokens_exactly}
use Rattle.theorems.specs.Demands.{ListingGiven, ListingRefuses, QuickGiven, QuickRefuses, Numbered}
use Rattle.theorems.specs.Requests.{Derives, HasCodes, HasError, OfText, TextOf, TypedOf, TypedSearches}
use Rattle.theorems.proofs.Demand1.{demand_1}
use Rattle.theorems.proofs.SpelledLaws.{derived_spelled}

-- ---- texts

derives : {text : List ℕ} {cs : List Code} → AnswerOf text (codes cs) → HasCodes text cs
derives (by_tokens h t (selects d)) = (h, (_, t, d))

derived : {text : List ℕ} {cs : List Code} → HasCodes text cs → AnswerOf text (codes cs)
derived h = by_tokens h.0 h.1.1 (selects h.1.2)

fails : {text : List ℕ} {r : Refusal} → AnswerOf text (error r) → HasError text r
fails (too_long h) = inl (h, refl)
fails (by_tokens h t (not_allowed n)) = inr (h, (_, t, inl (refl, n)))
fails (by_tokens h t (too_large n)) = inr (h, (_, t, inr (refl, n)))

module _ {text : List ℕ} (r : Refusal) where
  numbered : (reason : Reason) → number_of r.reason ≡ number_of reason → AnswerOf text (error (refusal reason r.place)) → AnswerOf text (error r)
  numbered reason e h = rw (← number-injective r.reason reason e) at h

  failing : HasError text r → AnswerOf text (error r)
  failing (inl (h, e)) = rw e (too_long h)
  failing (inr (h, (ts, t, inl (e, n)))) = numbered UnexpectedToken e (by_tokens h t (not_allowed n))
  failing (inr (h, (ts, t, inr (e, n)))) = numbered OverLimit e (by_tokens h t (too_large n))

  of_text : HasError text r → OfText r
  of_text (inl (h, e)) = rw e (inr refl)
  of_text (inr (h, (ts, t, inl (e, n)))) = inl e
  of_text (inr (h, (ts, t, inr (e, n)))) = inr e

same_codes : {text : List ℕ} (cs ds : List Code) → Derives text cs → Derives text ds → cs ≡ ds
same_codes {text} cs ds (ts, t, d) (us, u, e) =
    let same : us ≡ ts = sym ((tokens_exactly text us).1 u) ∙ (tokens_exactly text ts).1 t in
    grammar.codes_unique d (rw same at e)

size-codes : (cs : List Code) → size (selection_of cs) ≡ length cs
unfolding selection_of
size-codes cs = refl

texts : (text : List ℕ) → TextOf text
texts text = record {
  some_answer = (read_text text, grammar.some_answer text);
  one_answer = λ a b h k. grammar.one_answer h k;
  codes_exactly = λ cs. (derives, derived);
  codes_unique = same_codes;
  error_exactly = λ r. (fails, failing r);
  codes_kept = λ cs d. (size-codes cs, derived_spelled d.2);
}

-- ---- what document 01's calls refuse

listing_number : (section families selection : List ℕ) (work : ℕ) (buffer : List ℕ) (r : Refusal) → ListingRefuses (listing_answer section families selection work (length buffer)) r → Numbered r
listing_number section families selection work buffer r e = at (demand_1 section families selection work buffer 0 0).listing_answers where
  at : (ListingGiven (listing_answer section families selection work (length buffer))
      ⊎ ((q : Refusal) × ListingRefuses (listing_answer section families selection work (length buffer)) q × Numbered q)) → Numbered r
  at (inl (m, s, y, f)) = let z : ◌≡◌ {A = ℕ} 0 1 = cc in absurd (omega arith)
  at (inr (q, f, n)) = let same : q ≡ r = cc in rw same at n

quick_number : (section families selection : List ℕ) (work : ℕ) (r : Refusal) → QuickRefuses (quick_answer section families selection work) r → Numbered r
quick_number section families selection work r e = at (demand_1 section families selection work [] 0 0).quick_answers where
  at : (QuickGiven (quick_answer section families selection work)
      ⊎ ((q : Refusal) × QuickRefuses (quick_answer section families selection work) q × Numbered q)) → Numbered r
  at (inl (y, (n, f))) = let z : ◌≡◌ {A = ℕ} 0 1 = cc in absurd (omega arith)
  at (inr (q, f, n)) = let same : q ≡ r = cc in rw same at n

-- ---- the calls

-- the number of a call's own refusal is no text's
not-text : {A : Type 0} (r : Refusal) → Numbered r → OfText r → A
not-text r (inl h) (inl e) = absurd (omega arith)
not-text r (inl h) (inr e) = absurd (omega arith)
not-text r (inr (inl h)) (inl e) = absurd (omega arith)
not-text r (inr (inl h)) (inr e) = absurd (omega arith)
not-text r (inr (inr h)) (inl e) = absurd (omega arith)
not-text r (inr (inr h)) (inr e) = absurd (omega arith)

module _ (section families text : List ℕ) (work : ℕ) (buffer selection : List ℕ) where
  listing_error : (a : TextAnswer) → AnswerOf text a → (r : Refusal) → ListingRefuses (typed_listing section families a work (length buffer)) r → OfText r → HasError text r
  listing_error (codes cs) h r e n = not-text r (listing_number section families (selection_of cs) work buffer r e) n
  listing_error (error s) h r e n = let same : s ≡ r = cc in fails (rw same at h)

  quick_error : (a : TextAnswer) → AnswerOf text a → (r : Refusal) → QuickRefuses (typed_quick section families a work) r → OfText r → HasError text r
  quick_error (codes cs) h r e n = not-text r (quick_number section families (selection_of cs) work r e) n
  quick_error (error s) h r e n = let same : s ≡ r = cc in fails (rw same at h)

  -- the reader alone, for codes: by whether they are at most 64, and whether 129 numbers are lent
  abbrev Given : ℕ → Type 0
  Given m = (cs : List Code) × HasCodes text cs × (length cs ≡ m) × (m ≤ max_codes) × (selection_length ≤ length selection)

  abbrev Over : List Code → Refusal → Type 0
  Over cs r = ((max_codes < length cs) × (r ≡ refusal WrongSelection 0)) ⊎ ((length cs ≤ max_codes) × (length selection < selection_length) × (r ≡ refusal ShortMemory 0))

  abbrev Refuses : Refusal → Type 0
  Refuses r = HasError text r ⊎ ((cs : List Code) × HasCodes text cs × Over cs r)

  given : (a : TextAnswer) → AnswerOf text a → (m : ℕ) → read_answer a (length selection) ≡ Ok m → Given m
  given (codes cs) h m e = at (leb (length cs) max_codes) refl (leb selection_length (length selection)) refl e where
    at : (x : Bool) → leb (length cs) max_codes ≡ x → (y : Bool) → leb selection_length (length selection) ≡ y → read_answer (codes cs) (length selection) ≡ Ok m → Given m
    at true p true q f =
        let g = rw (p, q) at f in
        let same : length cs ≡ m = cc in
        (cs, derives h, same, omega (arith, same, leb-true (length cs) max_codes p), leb-true selection_length (length selection) q)
    at true p false q f = let g = rw (p, q) at f in let z : ◌≡◌ {A = ℕ} 0 1 = cc in absurd (omega arith)
    at false p y q f = let g = rw p at f in let z : ◌≡◌ {A = ℕ} 0 1 = cc in absurd (omega arith)
  given (error r) h m e = let z : ◌≡◌ {A = ℕ} 0 1 = cc in absurd (omega arith)

  refuses : (a : TextAnswer) → AnswerOf text a → (r : Refusal) → read_answer a (length selection) ≡ Err r → Refuses r
  refuses (codes cs) h r e = at (leb (length cs) max_codes) refl (leb selection_length (length selection)) refl e where
    at : (x : Bool) → leb (length cs) max_codes ≡ x → (y : Bool) → leb selection_length (length selection) ≡ y → read_answer (codes cs) (length selection) ≡ Err r
        → Refuses r
    at true p true q f = let g = rw (p, q) at f in let z : ◌≡◌ {A = ℕ} 0 1 = cc in absurd (omega arith)
    at true p false q f =
        let g = rw (p, q) at f in
        let same : r ≡ refusal ShortMemory 0 = cc in
        inr (cs, derives h, inr (leb-true (length cs) max_codes p, leb-false selection_length (length selection) q, same))
    at false p y q f =
        let g = rw p at f in
        let same : r ≡ refusal WrongSelection 0 = cc in
        inr (cs, derives h, inl (leb-false (length cs) max_codes p, same))
  refuses (error s) h r e = let same : s ≡ r = cc in inl (fails (rw same at h))

  few : (cs : List Code) → length cs ≤ max_codes → selection_length ≤ length selection
      → (read_answer (codes cs) (length selection) ≡ Ok (length cs))
      × (read_selection (codes cs) selection ≡ selection_of cs ++ drop (length (selection_of cs)) selection)
  few cs h k = (rw (le-leb _ _ h, le-leb _ _ k), rw (le-leb _ _ h, le-leb _ _ k))

  over : (cs : List Code) (r : Refusal) → Over cs r → read_answer (codes cs) (length selection) ≡ Err r
  over cs r (inl (h, e)) = rw (lt-leb _ _ h) (ap Err (sym e))
  over cs r (inr (h, k, e)) = rw (le-leb _ _ h, lt-leb _ _ k) (ap Err (sym e))

  unchanged : (a : TextAnswer) (r : Refusal) → read_answer a (length selection) ≡ Err r → read_selection a selection ≡ selection
  unchanged (codes cs) r e = at (codes_refusal cs (length selection)) e where
    at : (o : Option Refusal) → read_unless o cs ≡ Err r → buffer_unless o (selection_of cs) selection ≡ selection
    at (Some q) f = refl
    at None f = let z : ◌≡◌ {A = ℕ} 0 1 = cc in absurd (omega arith)
  unchanged (error q) r e = refl

  calls : (a : TextAnswer) → AnswerOf text a → TypedOf section families text a work buffer selection
  calls a h = record {
    listing_of_codes = λ cs k. rw (are cs k) (refl, refl);
    quick_of_codes = λ cs k. rw (are cs k);
    over_64 = selection-over;
    error_first = λ r k. rw (is r k) (refl, refl, refl, refl, refl);
    listing_error_exactly = λ r. (λ f. listing_error a h r f.0 f.1, λ k. (rw (is r k), of_text r k));
    quick_error_exactly = λ r. (λ f. quick_error a h r f.0 f.1, λ k. (rw (is r k), of_text r k));
    read_exactly = λ m. (given a h m, λ f. rw (are f.0 f.1) ((few f.0 (omega (arith, f.2, f.3)) f.4).0 ∙ ap Ok f.2));
    read_refused_exactly = λ r. (refuses a h r, refused r);
    read_holds = λ cs m k e. holds cs m k (given a h m e);
    read_unchanged = unchanged a;
  } where
    are : (cs : List Code) → HasCodes text cs → a ≡ codes cs
    are cs k = grammar.one_answer h (derived k)

    is : (r : Refusal) → HasError text r → a ≡ error r
    is r k = grammar.one_answer h (failing r k)

    refused : (r : Refusal) → Refuses r → read_answer a (length selection) ≡ Err r
    refused r (inl k) = rw (is r k)
    refused r (inr (cs, k, o)) = rw (are cs k) (over cs r o)

    holds : (cs : List Code) (m : ℕ) → HasCodes text cs → Given m
        → (length (selection_of cs) ≤ length selection) × (read_selection a selection ≡ selection_of cs ++ drop (length (selection_of cs)) selection)
    holds cs m k f =
        let same : cs ≡ f.0 = same_codes cs f.0 k.1 f.1.1 in
        let number : length cs ≡ m = ap length same ∙ f.2 in
        (omega (arith, length-selection cs, number, f.3, f.4), rw (are cs k) (few cs (omega (arith, number, f.3)) f.4).1)

pub typed_searches : TypedSearches
typed_searches = record { texts = texts; calls = λ section families text a work buffer selection h. calls section families text work buffer selection a h; examples = examples_hold }
