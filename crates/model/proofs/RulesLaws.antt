-- How many matches and strings each rule gives, in the order of specs/Rules.antt, and which match of a not is which. A not is a product: its matches
-- are the and of the first match's strings, turned, with the not of the rest, so that its sizes and its match number c come from the and's.
use Prim.Native.Nat.{ℕ, zero, suc, ◌+◌, ◌-◌, ◌*◌, ◌/◌, ◌%◌, ◌≤◌, ◌<◌}
use native.Mathlib.Omega.{arith}
use native.Mathlib.Nat.{mul-zero, zero-mul, div-add-mod', mod-lt, div-lt_iff_lt-mul}
use mathlib.Core.Path.{◌≡◌, refl, sym, ap, ap₂, ◌∙◌}
use mathlib.Core.Bool.{Bool, true, false, cond}
use mathlib.Core.List.{List, [], ◌∷◌, ◌++◌, map, flat_map}
use lib.ListN.{length, get_or, length-append, length-map, get_or-append}
use lib.Seq.{get_or-append-add}
use Rattle.model.specs.Lists.{Every, all_of, keep, from_to}
use Rattle.model.specs.Matches.{Str, Match, strings_in, strings}
use Rattle.model.specs.Rules.{stand_from, found, phrase_list, or_list, joined, and_list, no_strings, with_include, with_exclude, not_list, has_uncovered, mild_not_list, Keeping, kept_if, kept_match, kept, least_start, greatest_end, join, inside_window, window_to, window_ends, window}
use Rattle.model.specs.Choices.{choices, turned_strings, choice}
use Rattle.model.specs.AllStrings.{AllStrs}
use Rattle.model.specs.Families.{Searched}
use Rattle.model.proofs.ListsLaws.{flat_map-append, length-keep, length-range}
use Rattle.model.proofs.EveryLaws.{every_weaker, every_append, every_value, every_get_d}

-- ---- lists

flat_map-map : {A B C : Type 0} (f : B → List C) (g : A → B) (xs : List A) → flat_map f (map g xs) ≡ flat_map (λ x. f (g x)) xs
unfolding flat_map
flat_map-map f g [] = refl
flat_map-map f g (x ∷ xs) = ap (λ ys. f (g x) ++ ys) (flat_map-map f g xs)

pub length_none : {A : Type 0} (xs : List A) → length xs ≡ 0 → xs ≡ []
length_none [] h = refl
length_none (x ∷ xs) h = absurd (omega arith)

pub get_d_map : {A B : Type 0} (f : A → B) (xs : List A) (d : A) (e : B) (i : ℕ) → i < length xs → get_or (map f xs) i e ≡ f (get_or xs i d)
get_d_map f [] d e i h = absurd (omega arith)
get_d_map f (x ∷ xs) d e zero h = refl
get_d_map f (x ∷ xs) d e (suc i) h = get_d_map f xs d e i (omega arith)

-- ---- strings

pub strings-append : (ms ns : List Match) → strings (ms ++ ns) ≡ strings ms + strings ns
unfolding strings
strings-append [] ns = omega arith
strings-append (m ∷ ms) ns = omega (arith, strings-append ms ns)

abbrev Single : Match → Type 0
Single m = strings_in m ≡ 1

strings_singles : (ms : List Match) → Every Single ms → strings ms ≡ length ms
unfolding strings Every
strings_singles [] a = refl
strings_singles (m ∷ ms) a = omega (arith, strings_singles ms a.1)

-- ---- phrase

pub length-phrase : (s : Searched) (rank : ℕ) (ws : List ℕ) → length (phrase_list s rank ws) ≤ s.section.tokens
unfolding phrase_list
length-phrase s rank ws = simp length-map (omega (arith, length-keep (stand_from s ws) (from_to 1 s.section.tokens), length-range 1 s.section.tokens))

pub strings-phrase : (s : Searched) (rank : ℕ) (ws : List ℕ) → strings (phrase_list s rank ws) ≡ length (phrase_list s rank ws)
unfolding phrase_list
strings-phrase s rank ws =
    strings_singles (phrase_list s rank ws) (every_value Single (found rank (length ws)) (λ p. refl) (keep (stand_from s ws) (from_to 1 s.section.tokens)))

-- ---- or

pub length-or : (ls rs : List Match) → length (or_list ls rs) ≡ length ls + length rs
length-or ls rs = length-append ls rs

pub strings-or : (ls rs : List Match) → strings (or_list ls rs) ≡ strings ls + strings rs
strings-or ls rs = strings-append ls rs

-- ---- and

pub strings-joined : (l r : Match) → strings_in (joined l r) ≡ strings_in l + strings_in r
strings-joined l r = omega (arith, length-append l.includes r.includes, length-append l.excludes r.excludes)

strings-row : (l : Match) (rs : List Match) → strings (map (joined l) rs) ≡ length rs * strings_in l + strings rs
unfolding strings
strings-row l [] = omega arith
strings-row l (r ∷ rs) = omega (arith, strings-row l rs, strings-joined l r)

pub length-and : (ls rs : List Match) → length (and_list ls rs) ≡ length ls * length rs
unfolding and_list flat_map
length-and [] rs = omega arith
length-and (l ∷ ls) rs = omega (arith, length-append (map (joined l) rs) (and_list ls rs), length-map rs (joined l), length-and ls rs)

pub strings-and : (ls rs : List Match) → strings (and_list ls rs) ≡ length rs * strings ls + length ls * strings rs
unfolding and_list flat_map strings
strings-and [] rs = omega arith
strings-and (l ∷ ls) rs = omega (arith, strings-append (map (joined l) rs) (and_list ls rs), strings-row l rs, strings-and ls rs)

-- the match number d * length rs + c joins the left's number d and the right's number c
pub and_at : (ls rs : List Match) (d c : ℕ) → d < length ls → c < length rs
    → get_or (and_list ls rs) (d * length rs + c) no_strings ≡ joined (get_or ls d no_strings) (get_or rs c no_strings)
unfolding and_list flat_map
and_at [] rs d c h k = absurd (omega arith)
and_at (l ∷ ls) rs zero c h k =
    ap (λ i. get_or (map (joined l) rs ++ and_list ls rs) i no_strings) (omega arith)
    ∙ get_or-append (map (joined l) rs) (and_list ls rs) no_strings c (rw length-map k) ∙ get_d_map (joined l) rs no_strings no_strings c k
and_at (l ∷ ls) rs (suc d) c h k =
    ap (λ i. get_or (map (joined l) rs ++ and_list ls rs) i no_strings) (omega (arith, length-map rs (joined l)))
    ∙ get_or-append-add (map (joined l) rs) (and_list ls rs) (d * length rs + c) no_strings ∙ and_at ls rs d c (omega arith) k

-- ---- not

-- the matches of a not join a string of the first match, turned, with a match of the not of the rest
pub not-and : (m : Match) (ms : List Match) → not_list (m ∷ ms) ≡ and_list (turned_strings m) (not_list ms)
unfolding not_list turned_strings and_list
not-and m ms =
    let row : Match → List Match = λ l. map (joined l) (not_list ms) in
    sym (flat_map-append row (map (λ s. with_exclude s no_strings) m.includes) (map (λ s. with_include s no_strings) m.excludes)
    ∙ ap₂ ◌++◌ (flat_map-map row (λ s. with_exclude s no_strings) m.includes) (flat_map-map row (λ s. with_include s no_strings) m.excludes))

pub length-turned : (m : Match) → length (turned_strings m) ≡ strings_in m
unfolding turned_strings
length-turned m = simp (length-append, length-map)

singles_turned : (m : Match) → Every Single (turned_strings m)
unfolding turned_strings
singles_turned m =
    every_append _ _ _
    (every_value Single (λ s. with_exclude s no_strings) (λ s. refl) m.includes)
    (every_value Single (λ s. with_include s no_strings) (λ s. refl) m.excludes)

pub length-not : (ms : List Match) → length (not_list ms) ≡ choices ms
unfolding not_list choices
length-not [] = refl
length-not (m ∷ ms) = ap length (not-and m ms) ∙ length-and (turned_strings m) (not_list ms) ∙ ap₂ ◌*◌ (length-turned m) (length-not ms)

pub strings-not : (ms : List Match) → strings (not_list ms) ≡ length ms * length (not_list ms)
unfolding not_list strings
strings-not [] = refl
strings-not (m ∷ ms) = rw (not-and m ms, strings-and, length-and, strings_singles (turned_strings m) (singles_turned m), strings-not ms) (omega arith)

choices_stringless : (ms : List Match) (m : Match) (ns : List Match) → strings_in m ≡ 0 → choices (ms ++ m ∷ ns) ≡ 0
unfolding choices
choices_stringless [] m ns h = rw h (zero-mul (choices ns))
choices_stringless (l ∷ ms) m ns h = rw (choices_stringless ms m ns h) (mul-zero (strings_in l))

-- a match with no strings, anywhere in the list, leaves nothing to choose
pub not_stringless : (ms : List Match) (m : Match) (ns : List Match) → strings_in m ≡ 0 → not_list (ms ++ m ∷ ns) ≡ []
not_stringless ms m ns h = length_none (not_list (ms ++ m ∷ ns)) (length-not (ms ++ m ∷ ns) ∙ choices_stringless ms m ns h)

-- with n strings in the first match and w choices of the rest, some choice number c tells that w isn't 0 ..
pub weight_some : (n w c : ℕ) → c < n * w → 0 < w
weight_some n zero c h = absurd (omega arith)
weight_some n (suc w) c h = omega arith

-- .. and that the digit of the first match is the number of one of its strings
pub digit_less : (n w c : ℕ) → c < n * w → c / w < n
digit_less n w c h = (div-lt_iff_lt-mul (weight_some n w c h)).1 h

pub not_at : (ms : List Match) (c : ℕ) → c < choices ms → get_or (not_list ms) c no_strings ≡ choice ms c
unfolding not_list choices choice
not_at [] zero h = refl
not_at [] (suc c) h = absurd (omega arith)
not_at (m ∷ ms) c h =
    let w : ℕ = choices ms in
    let less : c % w < w = mod-lt c (weight_some (strings_in m) w c h) in
    let e : c ≡ c / w * length (not_list ms) + c % w = sym (div-add-mod' c w) ∙ ap (λ k. c / w * k + c % w) (sym (length-not ms)) in
    ap (λ ns. get_or ns c no_strings) (not-and m ms)
    ∙ ap (λ i. get_or (and_list (turned_strings m) (not_list ms)) i no_strings) e
    ∙ and_at (turned_strings m) (not_list ms) (c / w) (c % w) (rw length-turned (digit_less (strings_in m) w c h)) (rw length-not less)
    ∙ ap (joined (get_or (turned_strings m) (c / w) no_strings)) (not_at ms (c % w) less)

-- a choice has one string of each match
pub strings-choice : (ms : List Match) (c : ℕ) → c < choices ms → strings_in (choice ms c) ≡ length ms
unfolding choices choice
strings-choice [] c h = refl
strings-choice (m ∷ ms) c h =
    let w : ℕ = choices ms in
    let one = every_get_d Single (turned_strings m) no_strings (c / w) (rw length-turned (digit_less (strings_in m) w c h)) (singles_turned m) in
    let rest = strings-choice ms (c % w) (mod-lt c (weight_some (strings_in m) w c h)) in
    strings-joined (get_or (turned_strings m) (c / w) no_strings) (choice ms (c % w)) ∙ ap₂ ◌+◌ one rest ∙ omega arith

-- ---- mild not

pub length-mild_not : (ls rs : List Match) → length (mild_not_list ls rs) ≤ length ls
unfolding mild_not_list
length-mild_not ls rs = length-keep (λ l. all_of (has_uncovered l) rs) ls

strings-keep : (p : Match → Bool) (ms : List Match) → strings (keep p ms) ≤ strings ms
unfolding keep strings
strings-keep p [] = omega arith
strings-keep p (m ∷ ms) = at (p m) (strings-keep p ms)
  where
    at : (b : Bool) → strings (keep p ms) ≤ strings ms → strings (cond b (m ∷ keep p ms) (keep p ms)) ≤ strings_in m + strings ms
    at true h = omega arith
    at false h = omega arith

pub strings-mild_not : (ls rs : List Match) → strings (mild_not_list ls rs) ≤ strings ls
unfolding mild_not_list
strings-mild_not ls rs = strings-keep (λ l. all_of (has_uncovered l) rs) ls

-- ---- join

-- every string starts at the least start or after it ..
pub start-least_start : (s : Str) (ss : List Str) → AllStrs (λ t. least_start s ss ≤ t.start) (s ∷ ss)
unfolding Every least_start
start-least_start s [] = (omega arith, tt)
start-least_start s (t ∷ ts) = (omega arith, every_weaker _ _ (λ u h. omega arith) (t ∷ ts) (start-least_start t ts))

-- .. and ends at the greatest end or before it;
pub end-greatest_end : (s : Str) (ss : List Str) → AllStrs (λ t. t.end ≤ greatest_end s ss) (s ∷ ss)
unfolding Every greatest_end
end-greatest_end s [] = (omega arith, tt)
end-greatest_end s (t ∷ ts) = (omega arith, every_weaker _ _ (λ u h. omega arith) (t ∷ ts) (end-greatest_end t ts))

-- no greater number is at or before every start ..
pub least_start_bound : (lo : ℕ) (s : Str) (ss : List Str) → AllStrs (λ t. lo ≤ t.start) (s ∷ ss) → lo ≤ least_start s ss
unfolding Every least_start
least_start_bound lo s [] a = a.0
least_start_bound lo s (t ∷ ts) a = omega (arith, least_start_bound lo t ts a.1)

-- .. and no lesser number is at or after every end.
pub greatest_end_bound : (hi : ℕ) (s : Str) (ss : List Str) → AllStrs (λ t. t.end ≤ hi) (s ∷ ss) → greatest_end s ss ≤ hi
unfolding Every greatest_end
greatest_end_bound hi s [] a = a.0
greatest_end_bound hi s (t ∷ ts) a = omega (arith, greatest_end_bound hi t ts a.1)

pub least_start-greatest_end : (s : Str) (ss : List Str) → AllStrs (λ t. t.start ≤ t.end) (s ∷ ss) → least_start s ss ≤ greatest_end s ss
unfolding Every
least_start-greatest_end s ss a = omega (arith, (start-least_start s ss).0, (end-greatest_end s ss).0)

pub length-join : (ss : List Str) → length (join ss) ≤ length ss
unfolding join
length-join [] = omega arith
length-join (s ∷ ss) = omega arith

-- ---- filters other than window

-- one match or none, with no more strings than the match that it comes from
pub record AtMostOne (m : Match) (given : List Match) : Type 0 where
  pub matches : length given ≤ 1
  pub fewer : strings given ≤ strings_in m

-- the includes are as many, or their join
pub length-kept : (k : Keeping) (m : Match) → length (kept_match k m).includes ≤ length m.includes
length-kept k m = at k.joins
  where
    at : (joins : Bool) → length (cond joins (join m.includes) m.includes) ≤ length m.includes
    at true = length-join m.includes
    at false = omega arith

pub size-kept : (k : Keeping) (m : Match) → AtMostOne m (kept k m)
unfolding kept strings
size-kept k m = at (k.keeps m.includes)
  where
    at : (test : Bool) → AtMostOne m (kept_if test (kept_match k m))
    at true = omega (arith, length-kept k m, length-keep (k.stays m.includes) m.excludes)
    at false = omega arith

-- ---- window

-- a match is listed once for each last position of a window around its includes
pub length-window_ends : (n : ℕ) (s : Str) (ss : List Str) → 1 ≤ n → length (window_ends n (s ∷ ss)) ≡ least_start s ss + n - greatest_end s ss
unfolding window_ends
length-window_ends n s ss h = omega (arith, length-range (greatest_end s ss) (least_start s ss + n - 1))

pub length-window : (n : ℕ) (m : Match) (s : Str) (ss : List Str) → 1 ≤ n → m.includes ≡ s ∷ ss → length (window n m) ≡ least_start s ss + n - greatest_end s ss
unfolding window
length-window n m s ss h e = length-map (window_ends n m.includes) (window_to n m) ∙ ap (λ is. length (window_ends n is)) e ∙ length-window_ends n s ss h

-- each copy has the join and the excludes inside it
pub strings-window_to : (n : ℕ) (m : Match) (s : Str) (ss : List Str) → m.includes ≡ s ∷ ss → (last : ℕ)
    → strings_in (window_to n m last) ≡ 1 + length (keep (inside_window n last) m.excludes)
unfolding join
strings-window_to n m s ss e last = rw e

pub window-none : (n : ℕ) (m : Match) → m.includes ≡ [] → window n m ≡ []
unfolding window window_ends
window-none n m e = ap (λ is. map (window_to n m) (window_ends n is)) e
