-- What the answer of a check tells of what was checked: the reason refuses unless a test holds, or at a place that is found.
use Rattle.std.proofs.Common.{◌≡◌, ℕ, Bool, true, false, Option, Result, Some, None, Ok, Err, sym, refl, ap, ◌∙◌}
use Rattle.std.specs.Bool.{MatchBool}
use Rattle.std.specs.Option.{MatchOption}
use Rattle.model.specs.declared.Reason.{Reason}
use Rattle.model.specs.declared.Refusal.{Refusal}
use Rattle.model.specs.Checks.{refusal}

abbrev Answer : Type 0
Answer = Result (Unit {0}) Refusal

module _ (reason : Reason) (answer : Answer) where
  abbrev Unless : Bool → Type 0
  Unless right = MatchBool right (answer ≡ Ok tt) (answer ≡ Err (refusal reason 0))

  pub right_from_ok : (right : Bool) → Unless right → answer ≡ Ok tt → right ≡ true
  right_from_ok true h e = refl
  right_from_ok false h e = absurd (cc)

  pub wrong_from_err : (right : Bool) → Unless right → (r : Refusal) → answer ≡ Err r → (right ≡ false) × (r ≡ refusal reason 0)
  wrong_from_err true h r e = absurd (cc)
  wrong_from_err false h r e = (refl, cc)

  abbrev At : Option ℕ → Type 0
  At found = MatchOption found (answer ≡ Ok tt) (λ place. answer ≡ Err (refusal reason place))

  pub none_from_ok : (found : Option ℕ) → At found → answer ≡ Ok tt → found ≡ None
  none_from_ok None h e = refl
  none_from_ok (Some place) h e = absurd (cc)

  pub place_from_err : (found : Option ℕ) → At found → (r : Refusal) → answer ≡ Err r → (found ≡ Some r.place) × (r ≡ refusal reason r.place)
  place_from_err None h r e = absurd (cc)
  place_from_err (Some place) h r e =
      let same : refusal reason place ≡ r = cc in
      let at : place ≡ r.place = ap (λ (x : Refusal). x.place) same in
      (ap Some at, sym same ∙ ap (refusal reason) at)
