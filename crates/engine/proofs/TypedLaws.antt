-- A typed call: what the reader puts down of a text's codes is their selection to the checks, and so to the calls.
use Prim.Native.Nat.{ℕ, ◌+◌, ◌*◌, ◌≤◌, ◌<◌}
use native.Mathlib.Omega.{arith}
use mathlib.Core.Bool.{Bool, true, false, cond}
use mathlib.Core.List.{List, [], ◌∷◌, ◌++◌}
use Rattle.std.specs.Prelude.{Option, Some, None, Ok, Err}
use mathlib.Core.Path.{◌≡◌, refl, sym, ap, ◌∙◌}
use borrow.Author.Tests.{le-leb, lt-leb, leb-true, leb-false}
use lib.Dec.{leb}
use lib.ListN.{length, take, drop}
use lib.Seq.{sets, sets-eq, length-sets}
use Rattle.model.specs.declared.Code.{Code}
use Rattle.model.specs.declared.Listing.{Listing}
use Rattle.model.specs.declared.Listing.TheVariants.{Refused}
use Rattle.model.specs.declared.Reason.TheVariants.{ShortMemory, WrongSelection}
use Rattle.model.specs.Walk.{Quick}
use Rattle.model.specs.Typed.{Reading}
use Rattle.model.specs.declared.Refusal.{Refusal}
use Rattle.model.specs.Answers.{listing_refusal, listing_answer, listing_buffer, listing_values, quick_answer, quick_values}
use Rattle.model.specs.Checks.{refusal, otherwise, tried, wrong_selection, section_refusal, families_refusal, selection_refusal, input_refusal, listing_checks, quick_checks}
use Rattle.model.specs.Limits.{max_codes, selection_length}
use Rattle.model.specs.Section.{size}
use Rattle.model.specs.TextAnswer.{TextAnswer, codes, error, ForAnswer}
use Rattle.model.specs.Typed.{selection_of, typed_listing, typed_buffer, typed_quick, read_answer, read_selection, reading_values}
use Rattle.model.proofs.SetsLaws.{take-written}
use Rattle.model.proofs.TypedLaws.{length-selection, selection-over, wrong_over}
use Rattle.grammar.specs.Grammar.{read_text}
use Rattle.grammar.proofs.AnswerLaws.{some_answer}
use Rattle.reader.specs.Selections.{typed_numbers, typed_size}

-- what holds of the answer that the reader computes holds of the text's
for_answer : (text : List ℕ) (P : TextAnswer → Type 0) → P (read_text text) → ForAnswer text P
for_answer text P p = record { answer = read_text text; answers = some_answer text; holds = p }

-- ---- the same to the calls

-- the same selection, or both are refused alike
pub data SameToCalls (s t : List ℕ) : Type 0 where
  same : s ≡ t → SameToCalls s t
  both-refused : (r : Refusal) → selection_refusal s ≡ Some r → selection_refusal t ≡ Some r → SameToCalls s t

-- whatever the refusal before it is, one comes first
first-refused : (o : Option Refusal) (r : Refusal) → (q : Refusal) × (otherwise o (Some r) ≡ Some q)
first-refused (Some q) r = (q, refl)
first-refused None r = (r, refl)

module _ (section families : List ℕ) (r : Refusal) where
  abbrev later : (q : Refusal) × (otherwise (families_refusal families) (Some r) ≡ Some q)
  later = first-refused (families_refusal families) r

  abbrev first_of : Refusal
  first_of = (first-refused (section_refusal section) later.0).0

  input_refused : (s : List ℕ) → selection_refusal s ≡ Some r → input_refusal section families s ≡ Some first_of
  unfolding input_refusal
  input_refused s e = rw (e, later.1) (first-refused (section_refusal section) later.0).1

  module _ (s t : List ℕ) (e : selection_refusal s ≡ Some r) (f : selection_refusal t ≡ Some r) where
    refused_listing : (work buffer : ℕ) → listing_answer section families s work buffer ≡ listing_answer section families t work buffer
    unfolding listing_answer listing_refusal listing_checks
    refused_listing work buffer = rw (input_refused s e, input_refused t f)

    refused_buffer : (work : ℕ) (buffer : List ℕ) → listing_buffer section families s work buffer ≡ listing_buffer section families t work buffer
    unfolding listing_buffer listing_refusal listing_checks
    refused_buffer work buffer = rw (input_refused s e, input_refused t f)

    refused_quick : (work : ℕ) → quick_answer section families s work ≡ quick_answer section families t work
    unfolding quick_answer quick_checks
    refused_quick work = rw (input_refused s e, input_refused t f)

module _ (section families : List ℕ) {s t : List ℕ} where
  pub same_listing : SameToCalls s t → (work buffer : ℕ) → listing_answer section families s work buffer ≡ listing_answer section families t work buffer
  same_listing (same e) work buffer = ap (λ l. listing_answer section families l work buffer) e
  same_listing (both-refused r e f) work buffer = refused_listing section families r s t e f work buffer

  pub same_buffer : SameToCalls s t → (work : ℕ) (buffer : List ℕ) → listing_buffer section families s work buffer ≡ listing_buffer section families t work buffer
  same_buffer (same e) work buffer = ap (λ l. listing_buffer section families l work buffer) e
  same_buffer (both-refused r e f) work buffer = refused_buffer section families r s t e f work buffer

  pub same_quick : SameToCalls s t → (work : ℕ) → quick_answer section families s work ≡ quick_answer section families t work
  same_quick (same e) work = ap (λ l. quick_answer section families l work) e
  same_quick (both-refused r e f) work = refused_quick section families r s t e f work

-- ---- what the reader puts down

-- what the calls see of it has room in the array
pub typed_room : (m : ℕ) → typed_size m ≤ 129
typed_room m = at (leb m max_codes) refl where
  at : (x : Bool) → leb m max_codes ≡ x → cond x (1 + 2 * m) 1 ≤ 129
  at true h = omega (arith, leb-true m max_codes h)
  at false h = omega arith

-- "3, place 0" is the first of a selection's refusals
three_refused : (s : List ℕ) → wrong_selection s ≡ Some 0 → selection_refusal s ≡ Some (refusal WrongSelection 0)
unfolding selection_refusal tried
three_refused s e = rw e

-- up to 64 codes are put down as their selection
put-few : (cs : List Code) (entry exit : List ℕ) (m : ℕ) → length entry ≡ 129 → exit ≡ sets entry 0 (typed_numbers (codes cs)) → m ≡ length cs → length cs ≤ max_codes
    → take (typed_size m) exit ≡ selection_of cs
put-few cs entry exit m l e f few =
    let h : leb (length cs) max_codes ≡ true = le-leb (length cs) max_codes few in
    let long : typed_size m ≡ length (selection_of cs) = rw (f, h) (sym (length-selection cs)) in
    let put : exit ≡ sets entry 0 (selection_of cs) = rw h at e in
    let room : length exit ≡ 129 = ap length put ∙ length-sets entry 0 (selection_of cs) ∙ l in
    take-written entry (selection_of cs) (typed_size m) put long (omega (arith, long, room, length-selection cs, few))

-- of more their number is, on which refusal 3 falls as on their selection
put_many : (cs : List Code) (entry exit : List ℕ) (m : ℕ) → length entry ≡ 129 → exit ≡ sets entry 0 (typed_numbers (codes cs)) → m ≡ length cs → max_codes < length cs
    → selection_refusal (take (typed_size m) exit) ≡ Some (refusal WrongSelection 0)
put_many cs entry exit m l e f many =
    let h : leb (length cs) max_codes ≡ false = lt-leb (length cs) max_codes many in
    let one : typed_size m ≡ 1 = rw (f, h) in
    let put : exit ≡ sets entry 0 (length cs ∷ []) = rw h at e in
    let room : length exit ≡ 129 = ap length put ∙ length-sets entry 0 (length cs ∷ []) ∙ l in
    ap selection_refusal (take-written entry (length cs ∷ []) (typed_size m) put one (omega (arith, one, room))) ∙ three_refused (length cs ∷ []) (wrong_over (length cs) [] many)

put_down : (cs : List Code) (entry exit : List ℕ) (m : ℕ) → length entry ≡ 129 → exit ≡ sets entry 0 (typed_numbers (codes cs)) → m ≡ length cs
    → SameToCalls (take (typed_size m) exit) (selection_of cs)
put_down cs entry exit m l e f = at (leb (length cs) max_codes) refl where
  at : (x : Bool) → leb (length cs) max_codes ≡ x → SameToCalls (take (typed_size m) exit) (selection_of cs)
  at true h = same (put-few cs entry exit m l e f (leb-true (length cs) max_codes h))
  at false h =
      let many = leb-false (length cs) max_codes h in
      both-refused (refusal WrongSelection 0) (put_many cs entry exit m l e f many) (three_refused (selection_of cs) (selection-over cs many))

-- ---- the reader alone

module _ (cs : List Code) (m : ℕ) (f : m ≡ length cs) (lent : List ℕ) where
  pub read_many : max_codes < m → (Err (refusal WrongSelection 0) ≡ read_answer (codes cs) (length lent)) × (lent ≡ read_selection (codes cs) lent)
  read_many h = let e = lt-leb (length cs) max_codes (omega arith) in (rw e, rw e)

  module _ (few : m ≤ max_codes) where
    abbrev within : leb (length cs) max_codes ≡ true
    within = le-leb (length cs) max_codes (omega arith)

    pub read_short : length lent < selection_length → (Err (refusal ShortMemory 0) ≡ read_answer (codes cs) (length lent)) × (lent ≡ read_selection (codes cs) lent)
    read_short h = let e = lt-leb selection_length (length lent) h in (rw (within, e), rw (within, e))

    pub read_given : (exit : List ℕ) → selection_length ≤ length lent → exit ≡ sets lent 0 (selection_of cs)
        → (Ok m ≡ read_answer (codes cs) (length lent)) × (exit ≡ read_selection (codes cs) lent)
    read_given exit h e =
        let room = le-leb selection_length (length lent) h in
        let zero : 0 + length (selection_of cs) ≡ length (selection_of cs) = omega arith in
        (rw (within, room) (ap Ok f), e ∙ sets-eq (selection_of cs) lent 0 (omega (arith, length-selection cs)) ∙ rw (within, room) (ap (λ k. selection_of cs ++ drop k lent) zero))

-- the same for a text that has these codes
pub text-put_down : (text : List ℕ) (cs : List Code) (entry exit : List ℕ) (m : ℕ) (size : ℕ) → length entry ≡ 129 → exit ≡ sets entry 0 (typed_numbers (read_text text)) → read_text text ≡ codes cs
    → m ≡ length cs → size ≡ typed_size m → SameToCalls (take size exit) (selection_of cs)
text-put_down text cs entry exit m size l e h f g = rw g (put_down cs entry exit m l (e ∙ ap (λ a. sets entry 0 (typed_numbers a)) h) f)

pub text-put-few : (text : List ℕ) (cs : List Code) (entry exit : List ℕ) (m : ℕ) (size : ℕ) → length entry ≡ 129 → exit ≡ sets entry 0 (typed_numbers (read_text text)) → read_text text ≡ codes cs
    → m ≡ length cs → size ≡ typed_size m → m ≤ max_codes → (lent : List ℕ) → sets lent 0 (take size exit) ≡ sets lent 0 (selection_of cs)
text-put-few text cs entry exit m size l e h f g few lent =
    let put = put-few cs entry exit m l (e ∙ ap (λ a. sets entry 0 (typed_numbers a)) h) f (omega (arith, f, few)) in
    ap (sets lent 0) (ap (λ k. take k exit) g ∙ put)

-- ---- the contracts, from what holds of the answer that the reader computes

module _ (text section families : List ℕ) (work : ℕ) where
  module _ (buffer : List ℕ) where
    pub listing_typed : {r : Listing} {exit : List ℕ} → r ≡ typed_listing section families (read_text text) work (length buffer) → exit ≡ typed_buffer section families (read_text text) work buffer
        → ForAnswer text (λ a. r ≡ typed_listing section families a work (length buffer))
        × (ForAnswer text (λ a. listing_values r ≡ listing_values (typed_listing section families a work (length buffer)))
        × ForAnswer text (λ a. exit ≡ typed_buffer section families a work buffer))
    listing_typed {r} {exit} p q = (
      for_answer text (λ a. r ≡ typed_listing section families a work (length buffer)) p,
      (for_answer text (λ a. listing_values r ≡ listing_values (typed_listing section families a work (length buffer))) (ap listing_values p), for_answer text (λ a. exit ≡ typed_buffer section families a work buffer) q),
    )

    pub listing_error : {r : Refusal} → read_text text ≡ error r
        → (Refused r ≡ typed_listing section families (read_text text) work (length buffer)) × (buffer ≡ typed_buffer section families (read_text text) work buffer)
    listing_error h = rw h (refl, refl)

    pub listing_codes : (cs : List Code) {s : List ℕ} → read_text text ≡ codes cs → SameToCalls s (selection_of cs)
        → (listing_answer section families s work (length buffer) ≡ typed_listing section families (read_text text) work (length buffer))
        × (listing_buffer section families s work buffer ≡ typed_buffer section families (read_text text) work buffer)
    listing_codes cs h k = rw h (same_listing section families k work (length buffer), same_buffer section families k work buffer)

  pub quick_typed : {r : Quick} → r ≡ typed_quick section families (read_text text) work
      → ForAnswer text (λ a. r ≡ typed_quick section families a work)
      × ForAnswer text (λ a. quick_values r ≡ quick_values (typed_quick section families a work))
  quick_typed {r} p = (
    for_answer text (λ a. r ≡ typed_quick section families a work) p,
    for_answer text (λ a. quick_values r ≡ quick_values (typed_quick section families a work)) (ap quick_values p),
  )

  pub quick_error : {r : Refusal} → read_text text ≡ error r → Err r ≡ typed_quick section families (read_text text) work
  quick_error h = rw h

  pub quick_codes : (cs : List Code) {s : List ℕ} → read_text text ≡ codes cs → SameToCalls s (selection_of cs)
      → quick_answer section families s work ≡ typed_quick section families (read_text text) work
  quick_codes cs h k = rw h (same_quick section families k work)

module _ (text lent : List ℕ) where
  pub read_typed : {r : Reading} {exit : List ℕ} → (r ≡ read_answer (read_text text) (length lent)) × (exit ≡ read_selection (read_text text) lent)
      → ForAnswer text (λ a. r ≡ read_answer a (length lent))
      × (ForAnswer text (λ a. reading_values r ≡ reading_values (read_answer a (length lent)))
      × ForAnswer text (λ a. exit ≡ read_selection a lent))
  read_typed {r} {exit} p = (
    for_answer text (λ a. r ≡ read_answer a (length lent)) p.0,
    (for_answer text (λ a. reading_values r ≡ reading_values (read_answer a (length lent))) (ap reading_values p.0), for_answer text (λ a. exit ≡ read_selection a lent) p.1),
  )

  pub read-error : {r : Refusal} → read_text text ≡ error r → (Err r ≡ read_answer (read_text text) (length lent)) × (lent ≡ read_selection (read_text text) lent)
  read-error h = rw h (refl, refl)

  pub read-codes : (cs : List Code) {r : Reading} {exit : List ℕ} → read_text text ≡ codes cs
      → (r ≡ read_answer (codes cs) (length lent)) × (exit ≡ read_selection (codes cs) lent) → (r ≡ read_answer (read_text text) (length lent)) × (exit ≡ read_selection (read_text text) lent)
  read-codes cs h p = rw h p
