-- A match of L has an uncovered position, beside one of R, where its includes cover one that the other's don't; mild not keeps it where each of R leaves it one.
use Rattle.std.proofs.Common.{◌≡◌, ℕ, ◌<◌, ◌≤◌, Bool, true, false, not, ◌&&◌, ◌||◌, List, [], ◌∷◌, sym, refl, ap, ◌∙◌, ap₂, arith, lt-ltb, le-leb, subst}
use mathlib.Core.Bool.{or-true}
use mathlib.Core.List.{flat_map}
use Rattle.model.specs.Lists.{all_of, any_of, from_to}
use Rattle.model.specs.Matches.{Str, Match, strings}
use Rattle.model.specs.declared.Position.{Position}
use Rattle.model.specs.Rules.{covered, covers, kept_if, mild_not_list, positions, has_uncovered}
use Rattle.model.proofs.RulesLaws.{AtMostOne}
use Rattle.strings.specs.Covering.{RunEnd}
use Rattle.model.specs.AllStrings.{AllStrs}
use Rattle.model.specs.Lists.{Every}
use Rattle.store.specs.ValidStr.{ValidStr}
use Rattle.std.specs.Prelude.{None, Some}
use Rattle.strings.specs.Strings.{str_packed}
use Rattle.strings.specs.declared.packed.Packed.{Packed}
use Rattle.strings.specs.declared.positions.Run.{Run}
use Rattle.store.specs.Built.{Small}
use Rattle.store.specs.Slot.{SlotHolds}
use Rattle.store.proofs.EachLaws.{flat_map-small}
use Rattle.store.proofs.RowsLaws.{keep-flat_map}
use Rattle.store.proofs.SlotsLaws.{slot_small}
use Rattle.candidates.specs.Uncovered.{any_uncovered}
use Rattle.mild_not.specs.Uncovered.{mild_not, FoundUncovered}

-- ---- mild_not

pub one_at_most : (rights : List Match) (l : Match) → AtMostOne l (mild_not rights l)
unfolding mild_not strings
one_at_most rights l = at (all_of (has_uncovered l) rights)
  where
    at : (b : Bool) → AtMostOne l (kept_if b l)
    at true = omega arith
    at false = omega arith

-- mild not goes over L match by match
pub mild_not-flat_map : (lefts rights : List Match) → mild_not_list lefts rights ≡ flat_map (mild_not rights) lefts
unfolding mild_not_list mild_not
mild_not-flat_map lefts rights = keep-flat_map (λ l. all_of (has_uncovered l) rights) lefts

pub mild_not-small : {mem : List ℕ} {at : ℕ} {lefts : List Match} (rights : List Match) → SlotHolds mem at lefts → Small (flat_map (mild_not rights) lefts)
mild_not-small {lefts = lefts} rights s = flat_map-small (mild_not rights) (one_at_most rights) lefts (slot_small s)

-- ---- any_uncovered

any_not : {A : Type 0} (p : A → Bool) (xs : List A) → any_of (λ x. not (p x)) xs ≡ not (all_of p xs)
unfolding any_of all_of
any_not p [] = refl
any_not p (x ∷ xs) = at (p x) (any_not p xs)
  where
    at : (b : Bool) → any_of (λ x. not (p x)) xs ≡ not (all_of p xs) → (not b || any_of (λ x. not (p x)) xs) ≡ not (b && all_of p xs)
    at true e = e
    at false e = refl

-- ---- the search for a position

-- the strings left have an uncovered position just where all do, and what they cover is covered by all
pub record Searching (lefts rights left : List Str) : Type 0 where
  pub same : any_uncovered left rights ≡ any_uncovered lefts rights
  pub among : (p : ℕ) → covered left p ≡ true → covered lefts p ≡ true

module _ {lefts rights left : List Str} (g : Searching lefts rights left) where
  module _ {more : List Str} (s : Packed) (e : left ≡ str_packed s ∷ more) {run : Run} {p : Position} (lo : run.lo.0 ≡ (str_packed s).start) (hi : run.hi.0 ≡ (str_packed s).end)
      (r : RunEnd rights run.lo.0 run.hi.0 p.0) {end : Position} (end_is : end.0 ≡ (str_packed s).end) where
    -- the run of the string in hand stops being covered within it
    pub search_found : p.0 ≤ end.0 → FoundUncovered lefts rights (Some p)
    unfolding any_of
    search_found h =
        let t = str_packed s in
        let here : covered (t ∷ more) p.0 ≡ true = rw (le-leb t.start p.0 (omega (arith, r.not_before)), le-leb p.0 t.end (omega arith)) in
        (g.among p.0 (ap (λ ss. covered ss p.0) e ∙ here), r.uncovered (omega arith))

    -- it is covered all through
    pub search_on : end.0 < p.0 → Searching lefts rights more
    unfolding any_of
    search_on h =
        let t = str_packed s in
        let all : all_of (covered rights) (positions t) ≡ true =
        ap₂ (λ x y. all_of (covered rights) (from_to x y)) (sym lo) (sym hi) ∙ r.same ∙ lt-ltb run.hi.0 p.0 (omega arith) in
        let none : any_of (λ x. not (covered rights x)) (positions t) ≡ false = any_not (covered rights) (positions t) ∙ ap not all in
        let rest : any_uncovered more rights ≡ any_uncovered (t ∷ more) rights = rw none in
        record {
          same = rest ∙ ap (λ ss. any_uncovered ss rights) (sym e) ∙ g.same;
          among = λ q c. g.among q (ap (λ ss. covered ss q) e ∙ rw c (or-true (covers t q)));
        }

  pub search_none : left ≡ [] → FoundUncovered lefts rights None
  unfolding any_of
  search_none e = sym g.same ∙ ap (λ ss. any_uncovered ss rights) e

-- ---- whether a position is covered

-- the strings left cover the position just where all do
pub record Covering (p : ℕ) (all left : List Str) : Type 0 where
  pub valid : AllStrs ValidStr left
  pub same : covered left p ≡ covered all p

module _ {p : ℕ} {all left : List Str} (g : Covering p all left) where
  module _ {more : List Str} (s : Packed) (e : left ≡ str_packed s ∷ more) where
    both : ValidStr (str_packed s) × AllStrs ValidStr more
    unfolding Every
    both = subst (AllStrs ValidStr) e g.valid

    pub covering_valid : (str_packed s).start ≤ (str_packed s).end
    covering_valid = both.0.in_order

    pub covering_here : true ≡ covers (str_packed s) p → true ≡ covered all p
    unfolding any_of
    covering_here h = let here : covered (str_packed s ∷ more) p ≡ true = rw (sym h) in sym here ∙ ap (λ ss. covered ss p) (sym e) ∙ g.same

    pub covering_on : false ≡ covers (str_packed s) p → Covering p all more
    unfolding any_of
    covering_on h =
        let rest : covered more p ≡ covered (str_packed s ∷ more) p = rw (sym h) in
        record { valid = both.1; same = rest ∙ ap (λ ss. covered ss p) (sym e) ∙ g.same }

  pub covering_none : left ≡ [] → false ≡ covered all p
  unfolding any_of
  covering_none e = ap (λ ss. covered ss p) (sym e) ∙ g.same
