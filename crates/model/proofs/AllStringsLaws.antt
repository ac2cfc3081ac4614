-- 'Every string has P' is kept by each rule, in the order of specs/Rules.antt, and so by the complete AllMatches of a tree. The rules move strings and
-- drop them; only join makes a new one, so that P has to be closed under it. Spans within the section and query positions among the ranks are.
use Prim.Native.Nat.{ℕ, ◌+◌, ◌-◌, ◌≤◌}
use native.Mathlib.Omega.{arith}
use mathlib.Core.Path.{◌≡◌}
use mathlib.Core.Bool.{Bool, true, false, ◌&&◌, cond}
use mathlib.Core.List.{List, [], ◌∷◌}
use borrow.Author.Tests.{leb-true}
use lib.Dec.{leb}
use lib.ListN.{length}
use Rattle.model.specs.declared.Filter.{Filter}
use Rattle.model.specs.declared.Filter.TheVariants.{Ordered, Window, Distance, SameSentence, SameParagraph, DifferentSentence, DifferentParagraph, AtStart, AtEnd, EntireContent}
use Rattle.model.specs.declared.Pair.{Pair}
use Rattle.model.specs.declared.Pair.TheVariants.{Or, And, MildNot}
use Rattle.model.specs.declared.Times.{Times}
use Rattle.model.specs.declared.Times.TheVariants.{FromTo, AtLeast}
use Rattle.model.specs.Kinds.{Change, negated, filtered, occurring}
use Rattle.model.specs.Lists.{Every, all_of, keep, choose, from_to}
use Rattle.model.specs.Matches.{Str, Match}
use Rattle.model.specs.Rules.{stand_from, found, phrase_list, or_list, joined, and_list, no_strings, with_include, with_exclude, not_list, has_uncovered, mild_not_list, Keeping, kept_if, kept_match, kept, join, inside_window, window_to, window_ends, window, joined_all, choices_of, at_least, from_to_times}
use Rattle.model.specs.Choices.{turned_strings}
use Rattle.model.specs.AllStrings.{AllStrs, AllMatch, AllList, Within, Ranked, EveryPhrase, RankUpTo, RanksUpTo}
use Rattle.model.specs.AllMatches.{pair_list, change_list, filter_match, filter_list, occurs_list, all_matches}
use Rattle.model.specs.Section.{Section}
use Rattle.model.specs.Families.{Searched}
use Rattle.model.specs.Trees.{Tree, phrase, pair, change}
use Rattle.model.proofs.EveryLaws.{every_weaker, every_append, every_value, every_map, every-flat_map, every-kept, every-keep, every-choose, every-range}
use Rattle.model.proofs.TestsLaws.{both_true}
use Rattle.model.proofs.RulesLaws.{not-and, least_start_bound, greatest_end_bound, least_start-greatest_end}

-- ---- phrase

-- words that stand in a row end within the section
pub stand_within : (s : Searched) (ws : List ℕ) (p : ℕ) → p ≤ s.section.tokens + 1 → stand_from s ws p ≡ true → p + length ws ≤ s.section.tokens + 1
unfolding stand_from
stand_within s [] p h e = omega arith
stand_within s (w ∷ ws) p h e =
    let here = both_true (leb p s.section.tokens && s.fits (s.section.word p) w) (stand_from s ws (p + 1)) e in
    let low = leb-true p s.section.tokens (both_true (leb p s.section.tokens) (s.fits (s.section.word p) w) here.0).0 in
    omega (arith, stand_within s ws (p + 1) (omega arith) here.1)

-- P holds of every find that the section has room for
abbrev pub Finds : (Str → Type 0) → Searched → ℕ → List ℕ → Type 0
Finds P s rank ws = (p : ℕ) → 1 ≤ p → p + length ws ≤ s.section.tokens + 1 → P (record { start = p; end = p + length ws - 1; query = rank; contiguous = true })

-- P holds of the join where it holds of what is joined
abbrev pub Closed : (Str → Type 0) → Type 0
Closed P = (ss : List Str) → AllStrs P ss → AllStrs P (join ss)

module _ (P : Str → Type 0) where
  all_include : (s : Str) → P s → AllMatch P (with_include s no_strings)
  unfolding Every
  all_include s p = record { includes = (p, tt); excludes = tt }

  pub all_phrase : (s : Searched) (rank : ℕ) (ws : List ℕ) → Finds P s rank ws → AllList P (phrase_list s rank ws)
  unfolding phrase_list
  all_phrase s rank ws h =
      every_map (AllMatch P) _ (found rank (length ws))
      (λ p k. all_include _ (h p k.0.0 (stand_within s ws p (omega arith) k.1)))
      (keep (stand_from s ws) (from_to 1 s.section.tokens))
      (every-kept _ (stand_from s ws) (from_to 1 s.section.tokens) (every-range 1 s.section.tokens))

  -- ---- or

  pub all_or : (ls rs : List Match) → AllList P ls → AllList P rs → AllList P (or_list ls rs)
  all_or ls rs a b = every_append _ ls rs a b

  -- ---- and

  all_joined : (l r : Match) → AllMatch P l → AllMatch P r → AllMatch P (joined l r)
  all_joined l r a b = record { includes = every_append _ _ _ a.includes b.includes; excludes = every_append _ _ _ a.excludes b.excludes }

  pub all_and : (ls rs : List Match) → AllList P ls → AllList P rs → AllList P (and_list ls rs)
  unfolding and_list
  all_and ls rs a b = every-flat_map _ _ _ (λ l h. every_map _ _ (joined l) (λ r k. all_joined l r h k) rs b) ls a

  -- ---- not

  all_exclude : (s : Str) → P s → AllMatch P (with_exclude s no_strings)
  unfolding Every
  all_exclude s p = record { includes = tt; excludes = (p, tt) }

  all_turned : (m : Match) → AllMatch P m → AllList P (turned_strings m)
  unfolding turned_strings
  all_turned m a =
      every_append _ _ _
      (every_map _ _ (λ s. with_exclude s no_strings) all_exclude m.includes a.includes)
      (every_map _ _ (λ s. with_include s no_strings) all_include m.excludes a.excludes)

  pub all_not : (ms : List Match) → AllList P ms → AllList P (not_list ms)
  unfolding not_list Every
  all_not [] a = (record { includes = tt; excludes = tt }, tt)
  all_not (m ∷ ms) a = rw (not-and m ms) (all_and (turned_strings m) (not_list ms) (all_turned m a.0) (all_not ms a.1))

  -- ---- mild not

  pub all_mild_not : (ls rs : List Match) → AllList P ls → AllList P (mild_not_list ls rs)
  unfolding mild_not_list
  all_mild_not ls rs a = every-keep _ (λ l. all_of (has_uncovered l) rs) ls a

  -- ---- or, and, mild not

  pub all_pair : (k : Pair) (ls rs : List Match) → AllList P ls → AllList P rs → AllList P (pair_list k ls rs)
  all_pair Or ls rs a b = all_or ls rs a b
  all_pair And ls rs a b = all_and ls rs a b
  all_pair MildNot ls rs a b = all_mild_not ls rs a

  -- ---- occurs

  all_joined_all : (ms : List Match) → AllList P ms → AllMatch P (joined_all ms)
  unfolding joined_all Every
  all_joined_all [] a = record { includes = tt; excludes = tt }
  all_joined_all (m ∷ ms) a = all_joined m (joined_all ms) a.0 (all_joined_all ms a.1)

  all_choices : (ms : List Match) → AllList P ms → (k : ℕ) → AllList P (choices_of ms k)
  unfolding choices_of
  all_choices ms a k = every_map _ _ joined_all all_joined_all (choose k ms) (every-choose _ k ms a)

  all_at_least : (a : ℕ) (ms : List Match) → AllList P ms → AllList P (at_least a ms)
  unfolding at_least
  all_at_least a ms h = every-flat_map _ _ (choices_of ms) (λ k _. all_choices ms h k) (from_to a (length ms)) (every-range a (length ms))

  pub all_occurs : (k : Times) (ms : List Match) → AllList P ms → AllList P (occurs_list k ms)
  unfolding from_to_times
  all_occurs (FromTo a b) ms h = all_and (at_least a ms) (not_list (at_least (b + 1) ms)) (all_at_least a ms h) (all_not _ (all_at_least (b + 1) ms h))
  all_occurs (AtLeast a) ms h = all_at_least a ms h

  -- ---- filters

  module _ (closed : Closed P) where
    pub all_window : (n : ℕ) (m : Match) → AllMatch P m → AllList P (window n m)
    unfolding window
    all_window n m a =
        every_value (AllMatch P) (window_to n m)
        (λ last. record { includes = closed m.includes a.includes; excludes = every-keep P (inside_window n last) m.excludes a.excludes })
        (window_ends n m.includes)

    pub all_kept : (k : Keeping) (m : Match) → AllMatch P m → AllList P (kept k m)
    unfolding kept Every
    all_kept k m a = at (k.keeps m.includes)
      where
        includes : (joins : Bool) → AllStrs P (cond joins (join m.includes) m.includes)
        includes true = closed m.includes a.includes
        includes false = a.includes

        at : (test : Bool) → AllList P (kept_if test (kept_match k m))
        at true = (record { includes = includes k.joins; excludes = every-keep P (k.stays m.includes) m.excludes a.excludes }, tt)
        at false = tt

    pub all_filter : (s : Section) (f : Filter) (m : Match) → AllMatch P m → AllList P (filter_match s f m)
    all_filter s Ordered m a = all_kept _ m a
    all_filter s (Window n) m a = all_window n m a
    all_filter s (Distance least most) m a = all_kept _ m a
    all_filter s SameSentence m a = all_kept _ m a
    all_filter s SameParagraph m a = all_kept _ m a
    all_filter s DifferentSentence m a = all_kept _ m a
    all_filter s DifferentParagraph m a = all_kept _ m a
    all_filter s AtStart m a = all_kept _ m a
    all_filter s AtEnd m a = all_kept _ m a
    all_filter s EntireContent m a = all_kept _ m a

    -- ---- all_matches

    all_change : (s : Section) (k : Change) (ms : List Match) → AllList P ms → AllList P (change_list s k ms)
    unfolding filter_list
    all_change s negated ms a = all_not ms a
    all_change s (filtered f) ms a = every-flat_map _ _ (filter_match s f) (all_filter s f) ms a
    all_change s (occurring k) ms a = all_occurs k ms a

    pub all_matches_lem : (s : Searched) (t : Tree) → EveryPhrase (Finds P s) t → AllList P (all_matches s t)
    unfolding all_matches filter_list EveryPhrase
    all_matches_lem s (phrase c rank ws) h = all_phrase s rank ws h
    all_matches_lem s (pair k c t u) h = all_pair k (all_matches s t) (all_matches s u) (all_matches_lem s t h.0) (all_matches_lem s u h.1)
    all_matches_lem s (change k c t) h = all_change s.section k (all_matches s t) (all_matches_lem s t h)

-- ---- spans within the section, query positions among the ranks

pub every_phrase_weaker : (P Q : ℕ → List ℕ → Type 0) → ((rank : ℕ) (ws : List ℕ) → P rank ws → Q rank ws) → (t : Tree) → EveryPhrase P t → EveryPhrase Q t
unfolding EveryPhrase
every_phrase_weaker P Q h (phrase c rank ws) a = h rank ws a
every_phrase_weaker P Q h (pair k c t u) a = (every_phrase_weaker P Q h t a.0, every_phrase_weaker P Q h u a.1)
every_phrase_weaker P Q h (change k c t) a = every_phrase_weaker P Q h t a

-- a join lies between the bounds of what is joined
pub within-join : (n : ℕ) → Closed (Within n)
unfolding join Every
within-join n [] a = tt
within-join n (s ∷ ss) a = (
  record {
    from_one = least_start_bound 1 s ss (every_weaker _ _ (λ t w. w.from_one) (s ∷ ss) a);
    in_order = least_start-greatest_end s ss (every_weaker _ _ (λ t w. w.in_order) (s ∷ ss) a);
    up_to = greatest_end_bound n s ss (every_weaker _ _ (λ t w. w.up_to) (s ∷ ss) a);
  },
  tt,
)

-- a join has the first include's query position
pub ranked_join : (r : ℕ) → Closed (Ranked r)
unfolding join Every
ranked_join r [] a = tt
ranked_join r (s ∷ ss) a = (record { from_one = a.0.from_one; up_to = a.0.up_to }, tt)

pub within_matches : (s : Searched) (r : ℕ) (t : Tree) → RanksUpTo r t → AllList (Within s.section.tokens) (all_matches s t)
within_matches s r t h =
    all_matches_lem (Within s.section.tokens) (within-join s.section.tokens) s t (every_phrase_weaker (RankUpTo r) _ (λ rank ws u p low room. omega arith) t h)

pub ranked_matches : (s : Searched) (r : ℕ) (t : Tree) → RanksUpTo r t → AllList (Ranked r) (all_matches s t)
ranked_matches s r t h =
    all_matches_lem (Ranked r) (ranked_join r) s t (every_phrase_weaker (RankUpTo r) _ (λ rank ws u p low room. omega arith) t h)
