-- Where the checks pass, the quick answer refuses at the first list too long that its walk builds, and else answers for the complete list
-- (`quick_answer-is`); whatever is lent, it is decided by its table (`quick_table_lem`). A given answer tells that the checks pass.
use Prim.Native.Nat.{ℕ, ◌≤◌}
use native.Mathlib.Omega.{arith}
use mathlib.Core.Bool.{Bool, true, false}
use mathlib.Core.List.{List}
use mathlib.Core.Logic.Iff
use mathlib.Core.Logic.{◌↔◌, ◌⊎◌, inl, inr}
use Rattle.std.specs.Prelude.{Option, Some, None}
use Rattle.model.specs.declared.Reason.TheVariants.{LongList}
use Rattle.model.proofs.OptionLaws.{some-ne-none}
use mathlib.Core.Path.{◌≡◌, refl, sym, ap, ◌∙◌}
use lib.ListN.{length}
use Rattle.std.specs.Prelude.{Err}
use Rattle.model.specs.declared.Listing.TheVariants.{Listed}
use Rattle.model.specs.Walk.{answered}
use Rattle.model.specs.declared.Refusal.{Refusal}
use Rattle.model.specs.Accepted.{Passes}
use Rattle.model.specs.Answers.{complete_list, listing_answer, walk_unless, quick_answer}
use Rattle.model.specs.Checks.{number_of, refusal}
use Rattle.model.specs.Families.{searched_of}
use Rattle.model.specs.Matches.{is_yes}
use Rattle.model.specs.Trees.{Tree, tree_of}
use Rattle.model.specs.Walk.{first_too_long, unless_too_long, walk, own_count}
use Rattle.model.specs.Walked.{walk_builds, walk_reaches}
use Rattle.model.proofs.AnswersLaws.{quick_answer-is, quick_answer-answered, listing_refusal-none, listing_answer-listed}
use Rattle.model.proofs.ChecksLaws.{accepted-selection, input_none}
use Rattle.model.proofs.PartsLaws.{parts_own}
use Rattle.model.proofs.WalkLaws.{unless_too_long-refused, unless_too_long-nine, unless_too_long-answered, unless_too_long-either, walk_builds_fit, length-walk_reaches}
use Rattle.theorems.specs.Demands.{Has, QuickSays, QuickGiven, QuickRefuses, RefusesForSize, quick_table, PassChecks, Enough, PastLimits, Demand3}
use Rattle.theorems.proofs.TableLaws.{first_fall, first_fall_none, first_fall_some, pass_none, quick_table_lem}
use Rattle.theorems.proofs.WordsLaws.{yes_exists, no_exists, too_long_exactly, too_long_exists}

-- ---- what an answer tells of the table

refused-some : (o : Option Refusal) (y : Bool) (n : ℕ) (r : Refusal) → QuickRefuses (walk_unless o (answered y n)) r ↔ (o ≡ Some r)
refused-some None y n r = (λ e. cc, λ e. cc)
refused-some (Some q) y n r = (λ e. cc, λ e. cc)

given_none : (o : Option Refusal) (y : Bool) (n : ℕ) → QuickGiven (walk_unless o (answered y n)) ↔ (o ≡ None)
given_none None y n = (λ e. refl, λ e. (y, (n, refl)))
given_none (Some q) y n = (λ w. let z : ◌≡◌ {A = ℕ} 0 1 = cc w.1.1 in absurd (omega arith), λ e. absurd (some-ne-none q e))

-- ---- where the checks pass

module _ (section families selection : List ℕ) (work : ℕ) where
  abbrev builds : List Tree
  builds = walk_builds (searched_of section families) (tree_of selection)

  abbrev long : Option ℕ
  long = first_too_long (searched_of section families) builds

  abbrev yes : Bool
  yes = is_yes (complete_list section families selection)

  abbrev count : ℕ
  count = length (walk_reaches (searched_of section families) (tree_of selection))

  module _ (p : Passes section families selection work) where
    is : quick_answer section families selection work ≡ unless_too_long long yes count
    is = quick_answer-is section families selection work p

    refuses : (place : ℕ) → RefusesForSize (quick_answer section families selection work) place ↔ (long ≡ Some place)
    refuses place = rw is (unless_too_long-refused long yes count place)

    size_exactly : ((place : ℕ) × RefusesForSize (quick_answer section families selection work) place) ↔ Has (PastLimits section families) builds
    size_exactly = Iff.trans (λ w. (w.0, (refuses w.0).0 w.1), λ w. (w.0, (refuses w.0).1 w.1)) (too_long_exists section families builds)

    only_size : (r : Refusal) → QuickRefuses (quick_answer section families selection work) r → number_of r.reason ≡ 9
    only_size r e = unless_too_long-nine long yes count r (sym is ∙ e)

    -- unless it refuses for size, it says whether the complete list has a match without excludes
    module _ (fits : (place : ℕ) → ¬ RefusesForSize (quick_answer section families selection work) place) where
      says : (y : Bool) → QuickSays (quick_answer section families selection work) y ↔ (yes ≡ y)
      says y = (λ w. sym (as_complete y w.0 w.1).0, λ e. at e (unless_too_long-either long yes count))
        where
          as_complete : (y : Bool) (n : ℕ) → quick_answer section families selection work ≡ answered y n → (y ≡ yes) × (n ≡ count)
          as_complete y n e = unless_too_long-answered long yes y count n (sym is ∙ e)

          at : {b : Bool} → yes ≡ b → ((y : Bool) × (n : ℕ) × (unless_too_long long yes count ≡ answered y n)) ⊎ ((c : ℕ) × (unless_too_long long yes count ≡ Err (refusal LongList c))) → QuickSays (quick_answer section families selection work) b
          at {b} e (inl w) = (w.1, is ∙ w.2 ∙ ap (λ (z : Bool). answered z w.1) ((unless_too_long-answered long yes w.0 count w.1 w.2).0 ∙ e))
          at e (inr w) = absurd (fits w.0 (is ∙ w.1))

  counts : (y : Bool) (codes : ℕ) → quick_answer section families selection work ≡ answered y codes
      → (walk (searched_of section families) (tree_of selection) ≡ answered y codes) × (codes ≡ count)
  counts y codes e =
      let given = quick_answer-answered section families selection work y codes e in
      (given.1, (unless_too_long-answered long yes y count codes (sym (is given.0) ∙ e)).1)

  at-most_own : (y : Bool) (codes : ℕ) → quick_answer section families selection work ≡ answered y codes → codes ≤ own_count selection
  at-most_own y codes e =
      let given = quick_answer-answered section families selection work y codes e in
      let passed = input_none section families selection given.0.checks in
      let own = parts_own selection (accepted-selection selection passed.2).spelt in
      rw ((counts y codes e).1, ← own) (length-walk_reaches (searched_of section families) (tree_of selection))

  agrees : Enough work → (lent buffer m s : ℕ) (y : Bool) → listing_answer section families selection lent buffer ≡ Listed m s y → QuickSays (quick_answer section families selection work) y
  agrees enough lent buffer m s y e =
      let given = listing_answer-listed section families selection lent buffer m s y e in
      let passed = listing_refusal-none section families selection lent buffer given.0 in
      let fits = walk_builds_fit (searched_of section families) (tree_of selection) passed.fits in
      let p : Passes section families selection work = record { checks = passed.passes.checks; enough = enough } in
      (count, is p ∙ rw (fits, given.3))

pub demand_3 : Demand3
demand_3 section families selection work =
    let table = first_fall (quick_table section families selection work) in
    let all = complete_list section families selection in
    let passes : PassChecks section families selection → Enough work → Passes section families selection work = λ p h. record { checks = pass_none section families selection p; enough = h } in
    record {
      size_exactly = λ p h. size_exactly section families selection work (passes p h);
      size_at_first = λ p h place. Iff.trans (refuses section families selection work (passes p h) place) (too_long_exactly section families (builds section families selection work) place);
      size_only = λ p h. only_size section families selection work (passes p h);
      refused_exactly = λ r.
          rw (quick_table_lem section families selection work)
          (Iff.trans (refused-some table (yes section families selection work) (count section families selection work) r) (first_fall_some (quick_table section families selection work) r));
      given_exactly =
          rw (quick_table_lem section families selection work)
          (Iff.trans (given_none table (yes section families selection work) (count section families selection work)) (first_fall_none (quick_table section families selection work)));
      yes_exactly = λ p h fits. Iff.trans (says section families selection work (passes p h) fits true) (yes_exists all);
      no_exactly = λ p h fits. Iff.trans (says section families selection work (passes p h) fits false) (no_exists all);
      agrees_with_listing = agrees section families selection work;
      counts_walk = counts section families selection work;
      counts_at_most_own = at-most_own section families selection work;
    }
