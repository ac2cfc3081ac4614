-- A filter that the walk reaches is decided by the lists under it (`walk_is`), and answers for its own complete list (`walk_answer_complete`). Building it
-- too could only refuse more: where that answers, so does the walk, side by side down to the filters.
use Prim.Native.Nat.{ℕ}
use mathlib.Core.Path.{◌≡◌, refl, sym, ap, ap₂, ◌∙◌}
use mathlib.Core.Bool.{Bool, true, false}
use mathlib.Core.List
use mathlib.Core.List.{List, [], ◌∷◌, ◌++◌, Sublistᴰ}
use mathlib.Core.Logic.Iff
use mathlib.Core.Logic.{◌↔◌}
use Rattle.std.specs.Prelude.{Option, Some, None}
use lib.ListN.{length}
use Rattle.model.specs.declared.Filter.{Filter}
use Rattle.model.specs.declared.Pair.TheVariants.{Or, And, MildNot}
use Rattle.model.specs.Walk.{Quick}
use Rattle.std.specs.Prelude.{Ok, Err}
use Rattle.model.specs.Walk.{answered}
use Rattle.model.specs.declared.Refusal.{Refusal}
use Rattle.model.specs.AllMatches.{filter_match, all_matches}
use Rattle.model.specs.Families.{Searched, searched_of}
use Rattle.model.specs.Kinds.{negated, filtered, occurring}
use Rattle.model.specs.Lists.{any_of}
use Rattle.model.specs.Matches.{Match, is_yes}
use Rattle.model.specs.Section.{Section}
use Rattle.model.specs.Trees.{Tree, phrase, pair, change, parts}
use Rattle.model.specs.Walk.{first_too_long, unless_too_long, build, gives_yes, turned, or_walk, and_walk, walk}
use Rattle.model.specs.Walked.{walk_builds, walk_reaches}
use Rattle.model.proofs.ListsLaws.{sublist_append}
use Rattle.model.proofs.WalkLaws.{first_too_long_sublist, unless_too_long-refused, unless_too_long-nine, unless_too_long-answered, walk_is, walk_answer_complete}
use Rattle.model.proofs.YesLaws.{yes_filter}
use Rattle.theorems.specs.Demands.{Has, FirstWith, WithoutExcludes}
use Rattle.theorems.specs.Requests.{walk_with, walk_before, FilterReachedOf, EarlyWayOut}
use Rattle.theorems.proofs.WordsLaws.{any_first_exactly, yes_exists, too_long_exactly}

module _ (s : Searched) (f : Filter) (c : ℕ) (operand : Tree) where
  abbrev whole : Tree
  whole = change (filtered f) c operand

  abbrev long : Option ℕ
  long = first_too_long s (parts operand)

  is : walk s whole ≡ unless_too_long long (is_yes (all_matches s whole)) (length (parts whole))
  unfolding walk_builds walk_reaches
  is = walk_is s whole ∙ ap (λ (b : Bool). unless_too_long long b (length (parts whole))) (walk_answer_complete s whole)

  yes_under : is_yes (all_matches s whole) ≡ any_of (gives_yes s.section f) (all_matches s operand)
  unfolding all_matches
  yes_under = yes_filter s.section f (all_matches s operand)

-- the first match that gives one without excludes
first_gives : (s : Section) (f : Filter) (ms : List Match)
    → (any_of (gives_yes s f) ms ≡ true) ↔ ((m : Match) × FirstWith (λ l. Has WithoutExcludes (filter_match s f l)) ms m)
first_gives s f ms = any_first_exactly (gives_yes s f) (λ l. Has WithoutExcludes (filter_match s f l)) (λ m. yes_exists (filter_match s f m)) ms

reached : (section families : List ℕ) (f : Filter) (c : ℕ) (operand : Tree) → FilterReachedOf section families f c operand
reached section families f c operand =
    let s = searched_of section families in
    let o = long s f c operand in
    let ms = all_matches s (whole s f c operand) in
    let k = length (parts (whole s f c operand)) in
    let as_complete : (y : Bool) (n : ℕ) → walk s (whole s f c operand) ≡ answered y n → (y ≡ is_yes ms) × (n ≡ k) = λ y n e. unless_too_long-answered o (is_yes ms) y k n (sym (is s f c operand) ∙ e) in
    record {
      decided_by_first = λ y n e. rw ((as_complete y n e).0 ∙ yes_under s f c operand) (first_gives s.section f (all_matches s operand));
      size_exactly = λ place. rw (is s f c operand) (Iff.trans (unless_too_long-refused o (is_yes ms) k place) (too_long_exactly section families (parts operand) place));
      size_only = λ r e. unless_too_long-nine o (is_yes ms) k r (sym (is s f c operand) ∙ e);
      held_to_complete = λ y n e. rw (as_complete y n e).0 (yes_exists ms);
      counts_part = λ y n e. (as_complete y n e).1;
    }

-- ---- as before

-- where p answers, q answers the same
abbrev AsBefore : Quick → Quick → Type 0
AsBefore p q = (y : Bool) (n : ℕ) → p ≡ answered y n → q ≡ answered y n

before-turned : (p q : Quick) → AsBefore p q → AsBefore (turned p) (turned q)
before-turned (Ok a) q h y n e = ap turned (h a.yes a.codes refl) ∙ e
before-turned (Err r) q h y n e = cc

before-or : (p q p' q' : Quick) → AsBefore p q → AsBefore p' q' → AsBefore (or_walk p p') (or_walk q q')
before-or (Ok a) q p' q' h h' y n e = at a.yes a.codes p' (h a.yes a.codes refl) h' e
  where
    at : (b : Bool) (k : ℕ) (p' : Quick) → q ≡ answered b k → AsBefore p' q' → or_walk (answered b k) p' ≡ answered y n → or_walk q q' ≡ answered y n
    at true k p' is h' e = rw is e
    at false k (Ok b) is h' e = rw (is, h' b.yes b.codes refl) e
    at false k (Err r) is h' e = cc
before-or (Err r) q p' q' h h' y n e = cc

before-and : (p q p' q' : Quick) → AsBefore p q → AsBefore p' q' → AsBefore (and_walk p p') (and_walk q q')
before-and (Ok a) q p' q' h h' y n e = at a.yes a.codes p' (h a.yes a.codes refl) h' e
  where
    at : (b : Bool) (k : ℕ) (p' : Quick) → q ≡ answered b k → AsBefore p' q' → and_walk (answered b k) p' ≡ answered y n → and_walk q q' ≡ answered y n
    at false k p' is h' e = rw is e
    at true k (Ok b) is h' e = rw (is, h' b.yes b.codes refl) e
    at true k (Err r) is h' e = cc
before-and (Err r) q p' q' h h' y n e = cc

-- fewer lists that count
before_built : (f g : Option ℕ) (b : Bool) (k : ℕ) → (f ≡ None → g ≡ None) → AsBefore (unless_too_long f b k) (unless_too_long g b k)
before_built None g b k h y n e = rw (h refl) e
before_built (Some c) g b k h y n e = cc

filter-before : (s : Searched) (f : Filter) (c : ℕ) (t : Tree) → AsBefore (build s (change (filtered f) c t)) (walk s (change (filtered f) c t))
unfolding build parts
filter-before s f c t y n e =
    let under : Sublistᴰ (parts t) (parts t ++ change (filtered f) c t ∷ []) = sublist_append (change (filtered f) c t ∷ []) (List.Sublistᴰ.refl (parts t)) in
    is s f c t
    ∙ before_built (first_too_long s (parts (change (filtered f) c t))) (first_too_long s (parts t)) (is_yes (all_matches s (change (filtered f) c t))) (length (parts (change (filtered f) c t))) (first_too_long_sublist s under) y n e

as_before : (s : Searched) (t : Tree) → AsBefore (walk_before s t) (walk s t)
unfolding walk_with walk
as_before s (phrase c rank ws) y n e = e
as_before s (change negated c t) y n e = before-turned (walk_before s t) (walk s t) (as_before s t) y n e
as_before s (pair Or c t u) y n e = before-or (walk_before s t) (walk s t) (walk_before s u) (walk s u) (as_before s t) (as_before s u) y n e
as_before s (pair And c t u) y n e = before-and (walk_before s t) (walk s t) (walk_before s u) (walk s u) (as_before s t) (as_before s u) y n e
as_before s (pair MildNot c t u) y n e = e
as_before s (change (filtered f) c t) y n e = filter-before s f c t y n e
as_before s (change (occurring k) c t) y n e = e

-- where q refuses, so does p
refused_before : (p q : Quick) → AsBefore p q → (r : Refusal) → q ≡ Err r → (o : Refusal) × (p ≡ Err o)
refused_before (Ok a) q h r e = (r, sym (h a.yes a.codes refl) ∙ e)
refused_before (Err o) q h r e = (o, refl)

elsewhere : (s : Searched) (t : Tree) → walk s t ≡ walk_with (λ f c u. walk s (change (filtered f) c u)) s t
unfolding walk_with walk
elsewhere s (phrase c rank ws) = refl
elsewhere s (change negated c t) = ap turned (elsewhere s t)
elsewhere s (pair Or c t u) = ap₂ or_walk (elsewhere s t) (elsewhere s u)
elsewhere s (pair And c t u) = ap₂ and_walk (elsewhere s t) (elsewhere s u)
elsewhere s (pair MildNot c t u) = refl
elsewhere s (change (filtered f) c t) = refl
elsewhere s (change (occurring k) c t) = refl

pub early_way_out : EarlyWayOut
early_way_out = record {
  filters = reached;
  elsewhere = elsewhere;
  answers_as_before = as_before;
  refused_before = λ s t. refused_before (walk_before s t) (walk s t) (as_before s t);
}
