-- The walk against what it answers, builds and reaches. Its answer is decided by the first list too long among those that it builds; where none is,
-- it says what the complete list says, for or, and, not turn on their operands' answers alone.
use Prim.Native.Nat.{ℕ, ◌+◌, ◌≤◌}
use native.Mathlib.Omega.{arith}
use mathlib.Core.Path.{◌≡◌, refl, ap, ap₂, sym, ◌∙◌}
use mathlib.Core.Bool.{Bool, true, false, not, ◌&&◌, ◌||◌, cond}
use mathlib.Core.List
use mathlib.Core.List.{List, [], ◌∷◌, ◌++◌, Sublistᴰ}
use mathlib.Core.Logic.{◌↔◌, ◌⊎◌, inl, inr}
use Rattle.std.specs.Prelude.{Option, Some, None, option_map}
use Rattle.std.specs.Option.{option_or}
use Rattle.model.specs.declared.Reason.TheVariants.{LongList}
use Rattle.model.proofs.OptionLaws.{map-eq-none_iff}
use lib.ListN.{length, length-append}
use Rattle.model.specs.declared.Pair.TheVariants.{Or, And, MildNot}
use Rattle.std.specs.Prelude.{Err}
use Rattle.model.specs.Walk.{answered}
use Rattle.model.specs.declared.Answered.{Answered}
use Rattle.model.specs.declared.Refusal.{Refusal}
use Rattle.model.specs.AllMatches.{all_matches}
use Rattle.model.specs.Checks.{number_of, refusal}
use Rattle.model.specs.Kinds.{negated, filtered, occurring}
use Rattle.model.specs.Lists.{first}
use Rattle.model.specs.Matches.{is_yes, too_long}
use Rattle.model.specs.Families.{Searched}
use Rattle.model.specs.Trees.{Tree, phrase, pair, change, place_of, parts}
use Rattle.model.specs.Walk.{is_too_long, first_too_long, unless_too_long, build, filter_walk, turned, or_walk, and_walk, walk}
use Rattle.model.specs.Walked.{walk_answer, walk_builds, walk_reaches}
use Rattle.model.proofs.YesLaws.{yes_phrase, yes_or, yes_and, yes_not, yes_filter}
use Rattle.model.proofs.ListsLaws.{first-append, first-none, first_sublist, length_sublist, sublist_append}

-- ---- parts

-- A tree is the last of its own parts.
pub parts_last : (t : Tree) → (before : List Tree) × (parts t ≡ before ++ t ∷ [])
unfolding parts
parts_last (phrase c rank ws) = ([], refl)
parts_last (pair k c t u) = (parts t ++ parts u, refl)
parts_last (change k c t) = (parts t, refl)

-- ---- first_too_long

map_or_else : {A B : Type 0} (f : A → B) (x y : Option A) → option_map f (option_or x y) ≡ option_or (option_map f x) (option_map f y)
map_or_else f None y = refl
map_or_else f (Some a) y = refl

pub first_too_long-append : (s : Searched) (ts us : List Tree) → first_too_long s (ts ++ us) ≡ option_or (first_too_long s ts) (first_too_long s us)
unfolding first_too_long
first_too_long-append s ts us =
    ap (option_map place_of) (first-append (is_too_long s) ts us) ∙ map_or_else place_of (first (is_too_long s) ts) (first (is_too_long s) us)

-- Where the lists of some codes fit, so do those of a part of them.
pub first_too_long_sublist : (s : Searched) {ts us : List Tree} → Sublistᴰ ts us → first_too_long s us ≡ None → first_too_long s ts ≡ None
unfolding first_too_long
first_too_long_sublist s {ts} {us} d e =
    (map-eq-none_iff place_of (first (is_too_long s) ts)).1 (first_sublist (is_too_long s) d ((map-eq-none_iff place_of (first (is_too_long s) us)).0 e))

-- Where every code's list fits, so does the tree's own.
pub first_too_long_whole : (s : Searched) (t : Tree) → first_too_long s (parts t) ≡ None → too_long (all_matches s t) ≡ false
unfolding first_too_long
first_too_long_whole s t e =
    let last = parts_last t in
    let here : Sublistᴰ (t ∷ []) (last.0 ++ t ∷ []) = List.Sublistᴰ.append (List.Sublistᴰ.nil-sublist last.0) (List.Sublistᴰ.refl (t ∷ [])) in
    let fits = first_too_long_sublist s here (rw last.1 at e) in
    (first-none (is_too_long s) t [] ((map-eq-none_iff place_of (first (is_too_long s) (t ∷ []))).0 fits)).0

-- ---- unless_too_long

pub unless_too_long-refused : (f : Option ℕ) (b : Bool) (k c : ℕ) → (unless_too_long f b k ≡ Err (refusal LongList c)) ↔ (f ≡ Some c)
unless_too_long-refused None b k c = (λ e. cc, λ e. cc)
unless_too_long-refused (Some d) b k c = (λ e. let same : refusal LongList d ≡ refusal LongList c = cc in ap (λ (r : Refusal). Some r.place) same, λ e. cc)

pub unless_too_long-nine : (f : Option ℕ) (b : Bool) (k : ℕ) (r : Refusal) → unless_too_long f b k ≡ Err r → number_of r.reason ≡ 9
unless_too_long-nine None b k r e = cc
unless_too_long-nine (Some d) b k r e = let same : r ≡ refusal LongList d = cc in ap (λ (q : Refusal). number_of q.reason) same

pub unless_too_long-answered : (f : Option ℕ) (b y : Bool) (k n : ℕ) → unless_too_long f b k ≡ answered y n → (y ≡ b) × (n ≡ k)
unless_too_long-answered None b y k n e =
    let same : ◌≡◌ {A = Answered} (record { yes = b; codes = k }) (record { yes = y; codes = n }) = cc in
    (sym (ap (λ (a : Answered). a.yes) same), sym (ap (λ (a : Answered). a.codes) same))
unless_too_long-answered (Some d) b y k n e = (cc, cc)

pub unless_too_long-either : (f : Option ℕ) (b : Bool) (k : ℕ)
    → ((y : Bool) × (n : ℕ) × (unless_too_long f b k ≡ answered y n)) ⊎ ((c : ℕ) × (unless_too_long f b k ≡ Err (refusal LongList c)))
unless_too_long-either None b k = inl (b, k, refl)
unless_too_long-either (Some c) b k = inr (c, refl)

-- ---- walk

cond_out : {A B : Type 0} (f : A → B) (b : Bool) (x y : A) → f (cond b x y) ≡ cond b (f x) (f y)
cond_out f true x y = refl
cond_out f false x y = refl

-- what two sides come to, the second as `b` decides
too_long_sides : (s : Searched) (ts : List Tree) (b : Bool) (us vs : List Tree)
    → first_too_long s (ts ++ cond b us vs) ≡ option_or (first_too_long s ts) (cond b (first_too_long s us) (first_too_long s vs))
too_long_sides s ts b us vs = first_too_long-append s ts (cond b us vs) ∙ ap (option_or (first_too_long s ts)) (cond_out (first_too_long s) b us vs)

length_sides : (ts : List Tree) (b : Bool) (us vs : List Tree) (t : Tree) → length (ts ++ cond b us vs ++ t ∷ []) ≡ length ts + cond b (length us) (length vs) + 1
length_sides ts b us vs t =
    length-append (ts ++ cond b us vs) (t ∷ []) ∙ ap (◌+ 1) (length-append ts (cond b us vs) ∙ ap (length ts +◌) (cond_out length b us vs))

or-walked : (f g : Option ℕ) (b d : Bool) (n k : ℕ)
    → or_walk (unless_too_long f b n) (unless_too_long g d k) ≡ unless_too_long (option_or f (cond b None g)) (b || d) (n + cond b 0 k + 1)
or-walked (Some c) g b d n k = refl
or-walked None g true d n k = let e : n + 1 ≡ n + 0 + 1 = omega arith in ap (answered true) e
or-walked None None false d n k = refl
or-walked None (Some c) false d n k = refl

and-walked : (f g : Option ℕ) (b d : Bool) (n k : ℕ)
    → and_walk (unless_too_long f b n) (unless_too_long g d k) ≡ unless_too_long (option_or f (cond b g None)) (b && d) (n + cond b k 0 + 1)
and-walked (Some c) g b d n k = refl
and-walked None g false d n k = let e : n + 1 ≡ n + 0 + 1 = omega arith in ap (answered false) e
and-walked None None true d n k = refl
and-walked None (Some c) true d n k = refl

not-walked : (f : Option ℕ) (b : Bool) (n : ℕ) → turned (unless_too_long f b n) ≡ unless_too_long f (not b) (n + 1)
not-walked None b n = refl
not-walked (Some c) b n = refl

-- The walk refuses at the first list too long among those that it builds; where none is, it answers what it says, and counts what it reaches.
pub walk_is : (s : Searched) (t : Tree) → walk s t ≡ unless_too_long (first_too_long s (walk_builds s t)) (walk_answer s t) (length (walk_reaches s t))
unfolding first first_too_long parts all_matches walk build filter_walk walk_answer walk_builds walk_reaches
walk_is s (phrase c rank ws) = refl
walk_is s (pair Or c t u) =
    rw (walk_is s t, walk_is s u, too_long_sides s (walk_builds s t) (walk_answer s t) [] (walk_builds s u), length_sides (walk_reaches s t) (walk_answer s t) [] (walk_reaches s u) (pair Or c t u))
    (or-walked (first_too_long s (walk_builds s t)) (first_too_long s (walk_builds s u)) (walk_answer s t) (walk_answer s u) (length (walk_reaches s t)) (length (walk_reaches s u)))
walk_is s (pair And c t u) =
    rw (walk_is s t, walk_is s u, too_long_sides s (walk_builds s t) (walk_answer s t) (walk_builds s u) [], length_sides (walk_reaches s t) (walk_answer s t) (walk_reaches s u) [] (pair And c t u))
    (and-walked (first_too_long s (walk_builds s t)) (first_too_long s (walk_builds s u)) (walk_answer s t) (walk_answer s u) (length (walk_reaches s t)) (length (walk_reaches s u)))
walk_is s (pair MildNot c t u) = refl
walk_is s (change negated c t) =
    rw (walk_is s t, length-append (walk_reaches s t) (change negated c t ∷ [])) (not-walked (first_too_long s (walk_builds s t)) (walk_answer s t) (length (walk_reaches s t)))
walk_is s (change (filtered f) c t) = rw (yes_filter s.section f (all_matches s t), length-append (parts t) (change (filtered f) c t ∷ []))
walk_is s (change (occurring k) c t) = refl

-- ---- walk_answer

pub walk_answer_complete : (s : Searched) (t : Tree) → walk_answer s t ≡ is_yes (all_matches s t)
unfolding walk_answer all_matches
walk_answer_complete s (phrase c rank ws) = sym (yes_phrase s rank ws)
walk_answer_complete s (pair Or c t u) = ap₂ ◌||◌ (walk_answer_complete s t) (walk_answer_complete s u) ∙ sym (yes_or (all_matches s t) (all_matches s u))
walk_answer_complete s (pair And c t u) = ap₂ ◌&&◌ (walk_answer_complete s t) (walk_answer_complete s u) ∙ sym (yes_and (all_matches s t) (all_matches s u))
walk_answer_complete s (pair MildNot c t u) = refl
walk_answer_complete s (change negated c t) = ap not (walk_answer_complete s t) ∙ sym (yes_not (all_matches s t))
walk_answer_complete s (change (filtered f) c t) = refl
walk_answer_complete s (change (occurring k) c t) = refl

-- ---- walk_builds, walk_reaches

cond_into : {A : Type 0} {xs ys zs : List A} (b : Bool) → Sublistᴰ xs zs → Sublistᴰ ys zs → Sublistᴰ (cond b xs ys) zs
cond_into true d e = d
cond_into false d e = e

cond_both : {A : Type 0} {xs ys us vs : List A} (b : Bool) → Sublistᴰ xs us → Sublistᴰ ys vs → Sublistᴰ (cond b xs ys) (cond b us vs)
cond_both true d e = d
cond_both false d e = e

-- Every code that the walk builds it reaches, in the same order.
pub walk_builds_reaches : (s : Searched) (t : Tree) → Sublistᴰ (walk_builds s t) (walk_reaches s t)
unfolding parts walk_builds walk_reaches
walk_builds_reaches s (phrase c rank ws) = List.Sublistᴰ.nil-sublist (phrase c rank ws ∷ [])
walk_builds_reaches s (pair Or c t u) =
    sublist_append (pair Or c t u ∷ []) (List.Sublistᴰ.append (walk_builds_reaches s t) (cond_both (walk_answer s t) List.Sublistᴰ.slnil (walk_builds_reaches s u)))
walk_builds_reaches s (pair And c t u) =
    sublist_append (pair And c t u ∷ []) (List.Sublistᴰ.append (walk_builds_reaches s t) (cond_both (walk_answer s t) (walk_builds_reaches s u) List.Sublistᴰ.slnil))
walk_builds_reaches s (pair MildNot c t u) = List.Sublistᴰ.refl (parts (pair MildNot c t u))
walk_builds_reaches s (change negated c t) = sublist_append (change negated c t ∷ []) (walk_builds_reaches s t)
walk_builds_reaches s (change (filtered f) c t) = sublist_append (change (filtered f) c t ∷ []) (List.Sublistᴰ.refl (parts t))
walk_builds_reaches s (change (occurring k) c t) = List.Sublistᴰ.refl (parts (change (occurring k) c t))

-- Every code that it reaches is the tree's, in the same order: none counts twice.
pub walk_reaches-parts : (s : Searched) (t : Tree) → Sublistᴰ (walk_reaches s t) (parts t)
unfolding walk_reaches parts
walk_reaches-parts s (phrase c rank ws) = List.Sublistᴰ.refl (phrase c rank ws ∷ [])
walk_reaches-parts s (pair Or c t u) =
    List.Sublistᴰ.append (List.Sublistᴰ.append (walk_reaches-parts s t) (cond_into (walk_answer s t) (List.Sublistᴰ.nil-sublist (parts u)) (walk_reaches-parts s u))) (List.Sublistᴰ.refl (pair Or c t u ∷ []))
walk_reaches-parts s (pair And c t u) =
    List.Sublistᴰ.append (List.Sublistᴰ.append (walk_reaches-parts s t) (cond_into (walk_answer s t) (walk_reaches-parts s u) (List.Sublistᴰ.nil-sublist (parts u)))) (List.Sublistᴰ.refl (pair And c t u ∷ []))
walk_reaches-parts s (pair MildNot c t u) = List.Sublistᴰ.refl (parts (pair MildNot c t u))
walk_reaches-parts s (change negated c t) = List.Sublistᴰ.append (walk_reaches-parts s t) (List.Sublistᴰ.refl (change negated c t ∷ []))
walk_reaches-parts s (change (filtered f) c t) = List.Sublistᴰ.refl (parts (change (filtered f) c t))
walk_reaches-parts s (change (occurring k) c t) = List.Sublistᴰ.refl (parts (change (occurring k) c t))

pub walk_builds-parts : (s : Searched) (t : Tree) → Sublistᴰ (walk_builds s t) (parts t)
walk_builds-parts s t = List.Sublistᴰ.trans (walk_builds_reaches s t) (walk_reaches-parts s t)

pub length-walk_reaches : (s : Searched) (t : Tree) → length (walk_reaches s t) ≤ length (parts t)
length-walk_reaches s t = length_sublist (walk_reaches-parts s t)

-- Where every code's list fits, so does every list that the walk builds.
pub walk_builds_fit : (s : Searched) (t : Tree) → first_too_long s (parts t) ≡ None → first_too_long s (walk_builds s t) ≡ None
walk_builds_fit s t e = first_too_long_sublist s (walk_builds-parts s t) e
