-- A loop over the matches of a list, by what is left of them: the first of those left lies here, and the others after it, at the length that its header says. A
-- loop tells by the index or by a count whether any is left. Stores above the matches leave them.
use Prim.Native.Nat.{ℕ, suc, ◌+◌, ◌≤◌, ◌<◌}
use native.Mathlib.Omega.{arith}
use mathlib.Core.Path.{◌≡◌, refl, sym, ap, ◌∙◌, subst}
use mathlib.Core.Bool.{Bool, true, false}
use mathlib.Core.List.{List, [], ◌∷◌, ◌++◌}
use lib.ListN.{length, get_or, length-append}
use Rattle.model.specs.Lists.{Every, any_of}
use Rattle.model.specs.Matches.{Match, strings}
use Rattle.model.proofs.RulesLaws.{length_none}
use Rattle.store.specs.Layout.{Holds, match_length, match_numbers, matches_numbers}
use Rattle.store.specs.Put.{Put}
use Rattle.store.specs.Stream.{MatchHolds, Remaining, SearchInvariant}
use Rattle.store.proofs.MemoryLaws.{holds-left, holds-right}
use Rattle.store.proofs.PutLaws.{holds-below}
use Rattle.store.proofs.LayoutLaws.{length_matches, matches_cons, matches_none}
use Rattle.store.proofs.DecodeLaws.{match_holds, length-held}

-- ---- Remaining

-- the next of the matches that are left, and those after it
pub record Next (todo : List Match) (mem : List ℕ) (p end : ℕ) : Type 0 where
  pub first : Match
  pub rest : List Match
  pub is : todo ≡ first ∷ rest
  pub held : MatchHolds mem p first
  pub within : p + match_length (get_or mem p 0) ≤ end
  pub one_less : length todo ≡ suc (length rest)
  pub after : (k : ℕ) → k ≡ p + match_length (get_or mem p 0) → Remaining rest mem k end

next : (todo : List Match) {mem : List ℕ} {p end : ℕ} → Remaining todo mem p end → 0 < length todo → Next todo mem p end
unfolding strings Every
next [] l h = absurd (omega arith)
next (m ∷ ms) {mem} {p} {end} l h =
    let both : Holds mem p (match_numbers m ++ matches_numbers ms) = subst (Holds mem p) (matches_cons m ms) l.holds in
    let held : MatchHolds mem p m = match_holds m (holds-left (match_numbers m) (matches_numbers ms) both) (omega (arith, l.few)) l.valid.0 in
    let numbers = ap length (matches_cons m ms) ∙ length-append (match_numbers m) (matches_numbers ms) in
    record {
      first = m;
      rest = ms;
      is = refl;
      held = held;
      within = omega (arith, l.up_to, numbers, length-held held);
      one_less = refl;
      after = λ k e. record {
        holds = subst (λ x. Holds mem x (matches_numbers ms)) (sym (e ∙ ap (λ x. p + x) (length-held held))) (holds-right (match_numbers m) (matches_numbers ms) both);
        up_to = omega (arith, l.up_to, numbers, length-held held);
        few = omega (arith, l.few);
        valid = l.valid.1;
      };
    }

module _ {todo : List Match} {mem : List ℕ} {p end : ℕ} (l : Remaining todo mem p end) where
  -- by the index
  pub next-at : p < end → Next todo mem p end
  next-at h = next todo l (some todo l.up_to)
    where
      some : (ms : List Match) → p + length (matches_numbers ms) ≡ end → 0 < length ms
      some [] e = absurd (omega (arith, ap length matches_none))
      some (m ∷ ms) e = omega arith

  pub none-at : end ≤ p → todo ≡ []
  none-at h = length_none todo (omega (arith, l.up_to, length_matches todo))

  -- by a count
  module _ {i n : ℕ} (count : i + length todo ≡ n) where
    pub next-counted : i < n → Next todo mem p end
    next-counted h = next todo l (omega arith)

    pub none-counted : n ≤ i → todo ≡ []
    none-counted h = length_none todo (omega arith)

-- ---- SearchInvariant

pub search_start : {A : Type 0} (f : List Match → A) {all : List Match} {mem : List ℕ} {p end : ℕ} → Remaining all mem p end → SearchInvariant (f all) f mem p end
search_start f {all} l = record { todo = all; left = l; same = refl }

module _ {A : Type 0} {result : A} {f : List Match → A} {mem : List ℕ} {p end : ℕ} (g : SearchInvariant result f mem p end) where
  module _ (N : Next g.todo mem p end) where
    pub search_here : f (N.first ∷ N.rest) ≡ result
    search_here = ap f (sym N.is) ∙ g.same

    pub search_next : (h : List Match → A) → f (N.first ∷ N.rest) ≡ h N.rest → {k : ℕ} → k ≡ p + match_length (get_or mem p 0) → SearchInvariant result h mem k end
    search_next h e {k} l = record { todo = N.rest; left = N.after k l; same = sym e ∙ search_here }

  pub search_none : g.todo ≡ [] → f [] ≡ result
  search_none e = ap f (sym e) ∙ g.same

-- .. whether any match passes a test
module _ (test : Match → Bool) {result : Bool} {mem : List ℕ} {p end : ℕ} (g : SearchInvariant result (any_of test) mem p end) where
  module _ (N : Next g.todo mem p end) where
    pub any_here : test N.first ≡ true → true ≡ result
    unfolding any_of
    any_here e = let found : any_of test (N.first ∷ N.rest) ≡ true = rw e in sym found ∙ search_here g N

    pub any_later : test N.first ≡ false → {k : ℕ} → k ≡ p + match_length (get_or mem p 0) → SearchInvariant result (any_of test) mem k end
    unfolding any_of
    any_later e = search_next g N (any_of test) (rw e)

  pub any_none : end ≤ p → false ≡ result
  unfolding any_of
  any_none h = search_none g (none-at g.left h)

-- ---- stores above

module _ {mem mem' : List ℕ} {q next : ℕ} {xs : List ℕ} (v : Put mem mem' q xs next) where
  pub match_below : {m : Match} {p : ℕ} → p + match_length (get_or mem p 0) ≤ q → MatchHolds mem p m → MatchHolds mem' p m
  match_below {m} h r = match_holds m (holds-below v (omega (arith, length-held r)) r.holds) r.few r.valid

  pub remaining_below : {todo : List Match} {p end : ℕ} → end ≤ q → Remaining todo mem p end → Remaining todo mem' p end
  remaining_below h l = record { holds = holds-below v (omega (arith, l.up_to)) l.holds; up_to = l.up_to; few = l.few; valid = l.valid }
