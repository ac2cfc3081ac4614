-- When the rules' lists have a match without excludes. Phrase, or, and, not: each turns on its operands' answers alone, which is why the quick
-- answer may walk them without their lists. A filter turns on what it gives of each match. Occurs turns on how often its phrase is found.
use Prim.Native.Nat.{ℕ, zero, suc, ◌+◌, ◌≤◌}
use native.Mathlib.Omega.{arith}
use mathlib.Core.Path.{◌≡◌, refl, ap, ap₂, sym, subst, ◌∙◌}
use mathlib.Core.Bool.{Bool, true, false, not, ◌&&◌, ◌||◌, cond, and-or_distrib_left, and-or_distrib_right, and-false, or-false}
use mathlib.Core.List.{List, [], ◌∷◌, ◌++◌, map, flat_map}
use lib.Dec.{leb}
use lib.ListN.{length}
use borrow.Author.Tests.{leb-true, leb-false}
use Rattle.model.specs.declared.Filter.{Filter}
use Rattle.model.specs.AllMatches.{filter_match, filter_list}
use Rattle.model.specs.Lists.{Every, all_of, any_of, is_empty, keep, choose, from_to}
use Rattle.model.specs.Matches.{Str, Match, no_exclude, is_yes}
use Rattle.model.specs.Rules.{stand_from, found, phrase_list, or_list, joined, and_list, with_include, with_exclude, not_list, Keeping, kept_if, kept_match, kept, inside_window, window_to, window_ends, window, joined_all, choices_of, at_least, from_to_times}
use Rattle.model.specs.Section.{Section}
use Rattle.model.specs.Families.{Searched}
use Rattle.model.specs.Walk.{gives_yes}
use Rattle.model.proofs.EveryLaws.{every_value, every-choose}
use Rattle.model.proofs.ListsLaws.{any_append, is_empty-append, range_empty, range_cons}
use Rattle.model.proofs.TestsLaws.{and-join}

-- ---- phrase

yes_found : (rank k : ℕ) (ps : List ℕ) → is_yes (map (found rank k) ps) ≡ not (is_empty (map (found rank k) ps))
unfolding any_of is_empty
yes_found rank k [] = refl
yes_found rank k (p ∷ ps) = refl

pub yes_phrase : (s : Searched) (rank : ℕ) (ws : List ℕ) → is_yes (phrase_list s rank ws) ≡ not (is_empty (phrase_list s rank ws))
unfolding phrase_list
yes_phrase s rank ws = yes_found rank (length ws) (keep (stand_from s ws) (from_to 1 s.section.tokens))

-- ---- or

pub yes_or : (ls rs : List Match) → is_yes (or_list ls rs) ≡ (is_yes ls || is_yes rs)
yes_or ls rs = any_append no_exclude ls rs

-- ---- and

yes_joined : (l : Match) (rs : List Match) → is_yes (map (joined l) rs) ≡ (no_exclude l && is_yes rs)
unfolding any_of
yes_joined l [] = sym (and-false (no_exclude l))
yes_joined l (r ∷ rs) = ap₂ ◌||◌ (is_empty-append l.excludes r.excludes) (yes_joined l rs) ∙ sym (and-or_distrib_left (no_exclude l) (no_exclude r) (is_yes rs))

pub yes_and : (ls rs : List Match) → is_yes (and_list ls rs) ≡ (is_yes ls && is_yes rs)
unfolding any_of flat_map and_list
yes_and [] rs = refl
yes_and (l ∷ ls) rs =
    any_append no_exclude (map (joined l) rs) (and_list ls rs)
    ∙ ap₂ ◌||◌ (yes_joined l rs) (yes_and ls rs)
    ∙ sym (and-or_distrib_right (no_exclude l) (is_yes ls) (is_yes rs))

-- ---- not

yes_excluded : (s : Str) (ms : List Match) → is_yes (map (with_exclude s) ms) ≡ false
unfolding any_of is_empty
yes_excluded s [] = refl
yes_excluded s (m ∷ ms) = yes_excluded s ms

-- the first match's includes turned: each gives an exclude to every match
yes_excludes : (ss : List Str) (ms : List Match) → is_yes (flat_map (λ s. map (with_exclude s) ms) ss) ≡ false
unfolding any_of flat_map
yes_excludes [] ms = refl
yes_excludes (s ∷ ss) ms =
    any_append no_exclude (map (with_exclude s) ms) (flat_map (λ t. map (with_exclude t) ms) ss) ∙ ap₂ ◌||◌ (yes_excluded s ms) (yes_excludes ss ms)

yes_included : (s : Str) (ms : List Match) → is_yes (map (with_include s) ms) ≡ is_yes ms
unfolding any_of
yes_included s [] = refl
yes_included s (m ∷ ms) = ap (λ b. no_exclude m || b) (yes_included s ms)

-- and its excludes turned: none of them gives any
yes_includes : (ss : List Str) (ms : List Match) → is_yes (flat_map (λ s. map (with_include s) ms) ss) ≡ (not (is_empty ss) && is_yes ms)
unfolding any_of is_empty flat_map
yes_includes [] ms = refl
yes_includes (s ∷ ss) ms =
    any_append no_exclude (map (with_include s) ms) (flat_map (λ t. map (with_include t) ms) ss)
    ∙ ap₂ ◌||◌ (yes_included s ms) (yes_includes ss ms)
    ∙ absorbed (is_yes ms) (is_empty ss)
  where
    absorbed : (x y : Bool) → (x || (not y && x)) ≡ x
    absorbed true y = refl
    absorbed false true = refl
    absorbed false false = refl

pub yes_not : (ms : List Match) → is_yes (not_list ms) ≡ not (is_yes ms)
unfolding any_of is_empty not_list
yes_not [] = refl
yes_not (m ∷ ms) =
    any_append no_exclude (flat_map (λ s. map (with_exclude s) (not_list ms)) m.includes) (flat_map (λ s. map (with_include s) (not_list ms)) m.excludes)
    ∙ ap₂ ◌||◌ (yes_excludes m.includes (not_list ms)) (yes_includes m.excludes (not_list ms))
    ∙ ap (λ b. not (is_empty m.excludes) && b) (yes_not ms)
    ∙ neither (no_exclude m) (is_yes ms)
  where
    neither : (x y : Bool) → (not x && not y) ≡ not (x || y)
    neither true y = refl
    neither false y = refl

-- ---- filters: a list is yes where a match of it gives one without excludes

yes_each : (F : Match → List Match) (ms : List Match) → is_yes (flat_map F ms) ≡ any_of (λ m. is_yes (F m)) ms
unfolding any_of flat_map
yes_each F [] = refl
yes_each F (m ∷ ms) = any_append no_exclude (F m) (flat_map F ms) ∙ ap (is_yes (F m) ||◌) (yes_each F ms)

pub yes_filter : (s : Section) (f : Filter) (ms : List Match) → is_yes (filter_list s f ms) ≡ any_of (gives_yes s f) ms
unfolding filter_list
yes_filter s f ms = yes_each (filter_match s f) ms

none_kept : {A : Type 0} (p : A → Bool) (xs : List A) → is_empty (keep p xs) ≡ not (any_of p xs)
unfolding any_of is_empty keep
none_kept p [] = refl
none_kept p (x ∷ xs) = at (p x) (none_kept p xs)
  where
    at : (b : Bool) → is_empty (keep p xs) ≡ not (any_of p xs) → is_empty (cond b (x ∷ keep p xs) (keep p xs)) ≡ not (b || any_of p xs)
    at true e = refl
    at false e = e

-- a filter that keeps a match or drops it gives one without excludes where it is kept and no exclude stays
pub yes_kept : (k : Keeping) (m : Match) → is_yes (kept k m) ≡ (k.keeps m.includes && not (any_of (k.stays m.includes) m.excludes))
unfolding kept any_of
yes_kept k m = at (k.keeps m.includes)
  where
    at : (b : Bool) → is_yes (kept_if b (kept_match k m)) ≡ (b && not (any_of (k.stays m.includes) m.excludes))
    at true = or-false (no_exclude (kept_match k m)) ∙ none_kept (k.stays m.includes) m.excludes
    at false = refl

-- a window where there is one that no exclude is inside
yes_windows : (n : ℕ) (m : Match) (lasts : List ℕ) → is_yes (map (window_to n m) lasts) ≡ not (all_of (λ last. any_of (inside_window n last) m.excludes) lasts)
unfolding any_of all_of
yes_windows n m [] = refl
yes_windows n m (last ∷ lasts) =
    ap₂ ◌||◌ (none_kept (inside_window n last) m.excludes) (yes_windows n m lasts)
    ∙ not-both (any_of (inside_window n last) m.excludes) (all_of (λ p. any_of (inside_window n p) m.excludes) lasts)
  where
    not-both : (x y : Bool) → (not x || not y) ≡ not (x && y)
    not-both true y = refl
    not-both false y = refl

pub yes_window : (n : ℕ) (m : Match) → is_yes (window n m) ≡ not (all_of (λ last. any_of (inside_window n last) m.excludes) (window_ends n m.includes))
unfolding window
yes_window n m = yes_windows n m (window_ends n m.includes)

-- ---- occurs: of matches without excludes, as a phrase's are, there is a choice of a or more where there are as many

abbrev Free : Match → Type 0
Free m = no_exclude m ≡ true

some-choice : {A : Type 0} (k : ℕ) (xs : List A) → k ≤ length xs → (ys : List A) × (others : List (List A)) × (choose k xs ≡ ys ∷ others)
unfolding choose
some-choice zero xs h = ([], [], refl)
some-choice (suc k) [] h = absurd (omega arith)
some-choice (suc k) (x ∷ xs) h = let c = some-choice k xs (omega arith) in (x ∷ c.0, _, ap (λ ls. map (λ ys. x ∷ ys) ls ++ choose (suc k) xs) c.2)

free_joined : (ms : List Match) → Every Free ms → Free (joined_all ms)
unfolding joined_all Every is_empty
free_joined [] a = refl
free_joined (m ∷ ms) a = is_empty-append m.excludes (joined_all ms).excludes ∙ and-join a.0 (free_joined ms a.1)

yes_choices : (ms : List Match) (k : ℕ) → Every Free ms → k ≤ length ms → is_yes (choices_of ms k) ≡ true
unfolding choices_of any_of Every
yes_choices ms k a h =
    let c = some-choice k ms h in
    let free = free_joined c.0 (subst (Every (Every Free)) c.2 (every-choose Free k ms a)).0 in
    ap (λ ls. is_yes (map joined_all ls)) c.2 ∙ rw free

pub yes_at_least : (a : ℕ) (ms : List Match) → Every Free ms → is_yes (at_least a ms) ≡ leb a (length ms)
unfolding at_least any_of flat_map
yes_at_least a ms f = at (leb a (length ms)) refl
  where
    at : (b : Bool) → leb a (length ms) ≡ b → is_yes (flat_map (choices_of ms) (from_to a (length ms))) ≡ b
    at true e =
        let h = leb-true a (length ms) e in
        let more = flat_map (choices_of ms) (from_to (a + 1) (length ms)) in
        ap (λ ks. is_yes (flat_map (choices_of ms) ks)) (range_cons a (length ms) h)
        ∙ any_append no_exclude (choices_of ms a) more
        ∙ ap (◌|| is_yes more) (yes_choices ms a f h)
    at false e = ap (λ ks. is_yes (flat_map (choices_of ms) ks)) (range_empty a (length ms) (leb-false a (length ms) e))

pub yes_from_to : (a b : ℕ) (ms : List Match) → Every Free ms → is_yes (from_to_times a b ms) ≡ (leb a (length ms) && not (leb (b + 1) (length ms)))
unfolding from_to_times
yes_from_to a b ms f =
    yes_and (at_least a ms) (not_list (at_least (b + 1) ms))
    ∙ ap₂ ◌&&◌ (yes_at_least a ms f) (yes_not (at_least (b + 1) ms) ∙ ap not (yes_at_least (b + 1) ms f))

pub free_phrase : (s : Searched) (rank : ℕ) (ws : List ℕ) → Every Free (phrase_list s rank ws)
unfolding phrase_list is_empty
free_phrase s rank ws = every_value Free (found rank (length ws)) (λ p. refl) (keep (stand_from s ws) (from_to 1 s.section.tokens))
