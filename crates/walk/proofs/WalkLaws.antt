-- The walk's steps, from the code at hi to the tree that ends there: its sides are parts that end earlier, and a side's answer is its own walk.
use Prim.Native.Nat.{ℕ, ◌+◌, ◌-◌, ◌≤◌, ◌<◌}
use native.Mathlib.Omega.{arith}
use mathlib.Core.Path.{◌≡◌, refl, sym, ap, ◌∙◌, subst}
use mathlib.Core.Bool.{Bool, true, false, not, cond, beq, true≢false}
use mathlib.Core.List.{List, [], ◌∷◌, ◌++◌, map, append-nil}
use Rattle.std.specs.Prelude.{Option, Some, None}
use lib.ListN.{length, length-append}
use borrow.Author.Tests.{not-false}
use lib.Seq.{append_snoc}
use Rattle.model.specs.declared.Code.{Code}
use Rattle.model.specs.declared.Code.TheVariants.{Word, Phrase, Combine, Not, Filter as Filtered, Occurs}
use Rattle.model.specs.declared.Filter.{Filter}
use Rattle.model.specs.declared.Pair.{Pair}
use Rattle.model.specs.declared.Pair.TheVariants.{Or, And, MildNot}
use Rattle.model.specs.Walk.{Quick}
use Rattle.std.specs.Prelude.{Result, Ok, Err, IsErr, IsErrAnd}
use Rattle.model.specs.declared.Refusal.{Refusal}
use Rattle.model.specs.Walk.{answered}
use Rattle.model.specs.declared.Times.{Times}
use Rattle.model.specs.Accepted.{AcceptedSelection}
use Rattle.model.specs.Kinds.{negated, occurring, Shape, a_word, a_pair, a_change, shape_of, shape_at}
use Rattle.model.specs.Limits.{max_codes, max_waiting, work_length}
use Rattle.model.specs.Lists.{is_empty}
use Rattle.model.specs.Parts.{PartAt, is_mild_not, part_start, postfix, rank_after, codes_of_trees}
use Rattle.model.specs.Rules.{phrase_list}
use Rattle.model.specs.Families.{Searched, searched_of}
use Rattle.model.specs.Section.{size}
use Rattle.model.specs.Selection.{code_at, up_to}
use Rattle.model.specs.Trees.{Tree, pair}
use Rattle.model.specs.Walk.{first_too_long, unless_too_long, build, turned, or_walk, and_walk, walk}
use Rattle.model.specs.Walked.{walk_answer, walk_builds, walk_reaches}
use Rattle.model.proofs.PartsLaws.{PairAt, pair-at, change-at, phrase-at, word_at, part-some, part_length}
use Rattle.model.proofs.TestsLaws.{false-true}
use Rattle.model.proofs.SelectionLaws.{length-up_to, up_to_front, ends}
use Rattle.model.proofs.TreesLaws.{part_count-le, length-parts}
use Rattle.model.proofs.WalkLaws.{walk_is, length-walk_reaches}
use Rattle.selection.specs.Phrases.{phrase_words}
use Rattle.build.proofs.WordsLaws.{Loose, phrase-short, phrase_words_lem, one-word-after}
use Rattle.walk.specs.Steps.{goes_into, decides, codes_in, passed_up}
use Rattle.walk.specs.Walkable.{Walkable}

-- ---- counts

codes_unless : (f : Option ℕ) (b : Bool) (n : ℕ) → codes_in (unless_too_long f b n) ≤ n
codes_unless None b n = omega arith
codes_unless (Some c) b n = omega arith

-- a part's walk counts at most its codes
pub codes-few : (s : Searched) (t : Tree) → codes_in (walk s t) ≤ length (postfix t)
codes-few s t =
    let counts = codes_unless (first_too_long s (walk_builds s t)) (walk_answer s t) (length (walk_reaches s t)) in
    omega (arith, ap codes_in (walk_is s t), counts, length-walk_reaches s t, length-parts t, part_count-le (postfix t))

-- ---- an error passed on

pub error-is : {A E : Type 0} (r : Result A E) (e : E) → IsErr r × IsErrAnd r (λ y. y ≡ e) → r ≡ Err e
error-is (Ok x) e h = absurd (true≢false (sym h.0))
error-is (Err y) e h = ap Err h.1

pub error-decides : (k : Pair) (r : Refusal) → decides k (Err r) ≡ true
error-decides Or r = refl
error-decides And r = refl
error-decides MildNot r = refl

-- ---- passed_up

pub passed_whole : (q : Quick) → passed_up false 0 q ≡ q
passed_whole (Ok a) = ap (answered a.yes) (omega arith)
passed_whole (Err r) = refl

-- through a not
passed-turned : (b : Bool) (n : ℕ) (q : Quick) → passed_up b n (turned q) ≡ passed_up (not b) (n + 1) q
passed-turned b n (Ok a) = at b a.yes a.codes
  where
    at : (b y : Bool) (k : ℕ) → passed_up b n (turned (answered y k)) ≡ passed_up (not b) (n + 1) (answered y k)
    at true true k = ap (answered true) (omega arith)
    at true false k = ap (answered false) (omega arith)
    at false true k = ap (answered false) (omega arith)
    at false false k = ap (answered true) (omega arith)
passed-turned b n (Err r) = refl

-- an answer passed up, as the loop makes it
pub answered-up : (turned yes : Bool) (more codes all : ℕ) → all ≡ codes + more → answered (not (beq yes turned)) all ≡ passed_up turned more (answered yes codes)
answered-up true true more codes all e = ap (answered false) e
answered-up true false more codes all e = ap (answered true) e
answered-up false true more codes all e = ap (answered true) e
answered-up false false more codes all e = ap (answered false) e

-- ---- a combination

module _ (b : Bool) (n : ℕ) where
  or_decided : (l r : Quick) → decides Or l ≡ true → passed_up b n (or_walk l r) ≡ passed_up b (n + 1) l
  or_decided (Ok a) r e = at a.yes a.codes e
    where
      at : (y : Bool) (k : ℕ) → y ≡ true → passed_up b n (or_walk (answered y k) r) ≡ passed_up b (n + 1) (answered y k)
      at true k e = ap (answered (cond b false true)) (omega arith)
      at false k e = false-true e
  or_decided (Err q) r e = refl

  and_decided : (l r : Quick) → decides And l ≡ true → passed_up b n (and_walk l r) ≡ passed_up b (n + 1) l
  and_decided (Ok a) r e = at a.yes a.codes e
    where
      at : (y : Bool) (k : ℕ) → not y ≡ true → passed_up b n (and_walk (answered y k) r) ≡ passed_up b (n + 1) (answered y k)
      at false k e = ap (answered (cond b true false)) (omega arith)
      at true k e = false-true e
  and_decided (Err q) r e = refl

  or_undecided : (l r : Quick) → decides Or l ≡ false → passed_up b n (or_walk l r) ≡ passed_up b (n + 1 + codes_in l) r
  or_undecided (Ok a) r e = at a.yes a.codes r e
    where
      at : (y : Bool) (k : ℕ) (r : Quick) → y ≡ false → passed_up b n (or_walk (answered y k) r) ≡ passed_up b (n + 1 + k) r
      at false k (Ok c) e = ap (answered (cond b (not c.yes) c.yes)) (omega arith)
      at false k (Err q) e = refl
      at true k r e = false-true (sym e)
  or_undecided (Err q) r e = false-true (sym e)

  and_undecided : (l r : Quick) → decides And l ≡ false → passed_up b n (and_walk l r) ≡ passed_up b (n + 1 + codes_in l) r
  and_undecided (Ok a) r e = at a.yes a.codes r e
    where
      at : (y : Bool) (k : ℕ) (r : Quick) → not y ≡ false → passed_up b n (and_walk (answered y k) r) ≡ passed_up b (n + 1 + k) r
      at true k (Ok c) e = ap (answered (cond b (not c.yes) c.yes)) (omega arith)
      at true k (Err q) e = refl
      at false k r e = false-true (sym e)
  and_undecided (Err q) r e = false-true (sym e)

  module _ (s : Searched) (c : ℕ) (t u : Tree) where
    -- the left side decides: its answer, and one code more
    pair_decided : (k : Pair) → is_mild_not (a_pair k) ≡ false → decides k (walk s t) ≡ true → passed_up b n (walk s (pair k c t u)) ≡ passed_up b (n + 1) (walk s t)
    unfolding walk
    pair_decided Or e d = or_decided (walk s t) (walk s u) d
    pair_decided And e d = and_decided (walk s t) (walk s u) d
    pair_decided MildNot e d = false-true (sym e)

    -- it does not: the right side's answer, with the left side's codes and one more
    pair_undecided : (k : Pair) → is_mild_not (a_pair k) ≡ false → decides k (walk s t) ≡ false
        → passed_up b n (walk s (pair k c t u)) ≡ passed_up b (n + 1 + codes_in (walk s t)) (walk s u)
    unfolding walk
    pair_undecided Or e d = or_undecided (walk s t) (walk s u) d
    pair_undecided And e d = and_undecided (walk s t) (walk s u) d
    pair_undecided MildNot e d = false-true (sym e)

mild_builds : (s : Searched) (k : Pair) (c : ℕ) (t u : Tree) → is_mild_not (a_pair k) ≡ true → walk s (pair k c t u) ≡ build s (pair k c t u)
unfolding walk
mild_builds s Or c t u e = false-true e
mild_builds s And c t u e = false-true e
mild_builds s MildNot c t u e = refl

-- ---- a phrase's words

loose_none : (sel : List ℕ) → AcceptedSelection sel → (c : ℕ) → c ≤ size sel → Loose sel (c + 1) []
loose_none sel a c h =
    record { from = size sel + (c + 1); ends = omega arith; above = omega arith; held = record { within = omega (arith, a.sized); part = refl } }

-- words one after the other are the operands just before the next code
loose_words : (sel : List ℕ) (a : AcceptedSelection sel) (front : List Shape) (us ws : List ℕ) (c : ℕ) → up_to (shape_at sel) c ≡ front ++ map a_word ws → c < size sel
    → Loose sel (length front + 1) us
    → Loose sel (c + 1) (us ++ ws)
loose_words sel a front us [] c e h l =
    let k : length front + 1 ≡ c + 1 = omega (arith, sym (length-up_to (shape_at sel) c) ∙ ap length (e ∙ append-nil front)) in
    subst (λ (j : ℕ). Loose sel j (us ++ [])) k (subst (Loose sel (length front + 1)) (sym (append-nil us)) l)
loose_words sel a front us (w ∷ ws) c e h l =
    let at = shape_at sel in
    let longer = front ++ a_word w ∷ [] in
    let e' : up_to at c ≡ longer ++ map a_word ws = e ∙ sym (append_snoc front (a_word w) (map a_word ws)) in
    let here = ends at (length longer) front (a_word w) (up_to_front at c longer (map a_word ws) e') in
    let i : length longer ≡ length front + 1 = omega (arith, here.hi_is) in
    let up_to : length longer ≤ c = omega (arith, sym (length-up_to at c) ∙ ap length e' ∙ length-append longer (map a_word ws)) in
    let code : at (length front + 1) ≡ a_word w = ap at (sym i) ∙ here.code in
    let more = one-word-after sel a (length front + 1) (omega arith) (omega (arith, i, up_to)) w us code l in
    let more' : Loose sel (length longer + 1) (us ++ w ∷ []) = subst (λ (j : ℕ). Loose sel (j + 1) (us ++ w ∷ [])) (sym i) more in
    subst (Loose sel (c + 1)) (append_snoc us w ws) (loose_words sel a longer (us ++ w ∷ []) ws c e' h more')

-- ---- the walk, by the code at hi

pub below-up_to : {section families sel mem : List ℕ} {hi lower : ℕ} → Walkable section families sel mem hi → lower ≤ hi → lower ≤ size sel
below-up_to w h = omega (arith, w.up_to)

pub below-room : {section families sel mem : List ℕ} {hi : ℕ} (mem' : List ℕ) → Walkable section families sel mem hi → length mem' ≡ length mem → work_length ≤ length mem'
below-room mem' w l = omega (arith, w.room)

-- a part below the one in hand, with memory as it has become
abbrev pub below : {section families sel mem : List ℕ} {hi lower : ℕ} (mem' : List ℕ) → Walkable section families sel mem hi → PartAt (shape_at sel) lower → lower ≤ hi → length mem' ≡ length mem
    → Walkable section families sel mem' lower
below mem' w p h l = record {
  in_section = w.in_section;
  in_families = w.in_families;
  in_selection = w.in_selection;
  part = p;
  up_to = below-up_to w h;
  room = below-room mem' w l;
}

module _ {section families sel mem : List ℕ} {hi : ℕ} (w : Walkable section families sel mem hi) where
  pub some-codes : 1 ≤ hi
  some-codes = part-some (shape_at sel) hi w.part

  pub word_walks : {A : Type 0} {code : Code} {v : ℕ} → code ≡ code_at sel hi → code ≡ Word v → A
  word_walks {A} {code} {v} e c = word_at (shape_at sel) hi w.part v (ap shape_of (sym e ∙ c))

  -- a phrase
  pub phrase-few : {code : Code} {k : ℕ} → code ≡ code_at sel hi → code ≡ Phrase k → length (phrase_words sel hi) ≤ max_waiting
  phrase-few {code} {k} e c = phrase-short sel w.in_selection hi some-codes w.up_to k (sym e ∙ c)

  pub phrase_walks : {code : Code} {k : ℕ} {words : List ℕ} {r : Quick} → code ≡ code_at sel hi → code ≡ Phrase k → words ≡ phrase_words sel hi
      → ((rank : ℕ) → r ≡ answered (not (is_empty (phrase_list (searched_of section families) rank words))) 1)
      → r ≡ walk (searched_of section families) w.part.tree
  unfolding walk
  phrase_walks {code} {k} {words} {r} e c ws a =
      let p = phrase-at (shape_at sel) hi w.part k (ap shape_of (sym e ∙ c)) in
      let front = codes_of_trees w.part.below in
      let up_to : length front ≤ hi - 1 =
      omega (arith, sym (length-up_to (shape_at sel) (hi - 1)) ∙ ap length p.codes ∙ length-append front (map a_word p.words)) in
      let fewer : hi - 1 < size sel = omega (arith, some-codes, w.up_to) in
      let loose = loose_words sel w.in_selection front [] p.words (hi - 1) p.codes fewer (loose_none sel w.in_selection (length front) (omega (arith, up_to, fewer))) in
      let last : hi - 1 + 1 ≡ hi = omega (arith, some-codes) in
      let found = phrase_words_lem sel w.in_selection hi some-codes w.up_to k p.words (sym e ∙ c) p.long (subst (λ (j : ℕ). Loose sel j p.words) last loose) in
      a (rank_after w.part.below)
      ∙ ap (λ (l : List ℕ). answered (not (is_empty (phrase_list (searched_of section families) (rank_after w.part.below) l))) 1) (ws ∙ found)
      ∙ ap (walk (searched_of section families)) (sym p.is)

  -- an occurs
  occurs_walks : {k : Times} → shape_at sel hi ≡ a_change (occurring k) → build (searched_of section families) w.part.tree ≡ walk (searched_of section families) w.part.tree
  unfolding walk
  occurs_walks {k} e = let p = change-at (shape_at sel) hi w.part (occurring k) e in rw p.is

  -- a combination
  abbrev pub sides : {code : Code} {k : Pair} {mid : ℕ} → code ≡ code_at sel hi → code ≡ Combine k → mid ≡ part_start (shape_at sel) (hi - 1)
      → PairAt (shape_at sel) hi mid k w.part.tree
  sides {code} {k} {mid} e c m = pair-at (shape_at sel) hi w.part k mid m (ap shape_of (sym e ∙ c))

  pub mild_walks : {code : Code} {k : Pair} → code ≡ code_at sel hi → code ≡ Combine k → is_mild_not (a_pair k) ≡ true
      → build (searched_of section families) w.part.tree ≡ walk (searched_of section families) w.part.tree
  mild_walks {code} {k} e c m =
      let p = sides {mid = part_start (shape_at sel) (hi - 1)} e c refl in
      rw p.is (sym (mild_builds (searched_of section families) k hi p.left.tree p.right.tree m))

  -- any other part that the walk does not go into
  pub leaf_builds : (code : Code) → code ≡ code_at sel hi → ((k : ℕ) → code ≡ Phrase k → ⊥) → ((f : Filter) → code ≡ Filtered f → ⊥) → goes_into (shape_of code) ≡ false
      → build (searched_of section families) w.part.tree ≡ walk (searched_of section families) w.part.tree
  leaf_builds (Word v) e p f g = word_walks e refl
  leaf_builds (Phrase k) e p f g = absurd (p k refl)
  leaf_builds (Combine k) e p f g = mild_walks e refl (not-false (is_mild_not (a_pair k)) g)
  leaf_builds Not e p f g = false-true (sym g)
  leaf_builds (Filtered k) e p f g = absurd (f k refl)
  leaf_builds (Occurs k) e p f g = occurs_walks (ap shape_of (sym e))

-- the codes of the arm that takes no not and no combination
pub leaf_code : (code : Code) → ((k : Pair) → code ≡ Combine k → ⊥) → (code ≡ Not → ⊥) → goes_into (shape_of code) ≡ false
leaf_code (Word v) c n = refl
leaf_code (Phrase k) c n = refl
leaf_code (Combine k) c n = absurd (c k refl)
leaf_code Not c n = absurd (n refl)
leaf_code (Filtered f) c n = refl
leaf_code (Occurs k) c n = refl

-- ---- the loop: from a part to what is under its not, or to its right side

-- The walk of the whole part is that of the part in hand, passed up.
pub record Going (section families sel : List ℕ) (hi : ℕ) (whole : Tree) (mem : List ℕ) (place : ℕ) (turned : Bool) (codes : ℕ) : Type 0 where
  pub here : Walkable section families sel mem place
  pub up_to : place ≤ hi
  pub few : codes + length (postfix here.part.tree) ≤ max_codes
  pub same : passed_up turned codes (walk (searched_of section families) here.part.tree) ≡ walk (searched_of section families) whole

pub start : {section families sel mem : List ℕ} {hi : ℕ} (w : Walkable section families sel mem hi) → Going section families sel hi w.part.tree mem hi false 0
start {section} {families} {sel} {mem} {hi} w = record {
  here = w;
  up_to = omega arith;
  few = omega (arith, part_length (shape_at sel) hi w.part, w.up_to, w.in_selection.few);
  same = passed_whole (walk (searched_of section families) w.part.tree);
}

module _ {section families sel mem : List ℕ} {hi : ℕ} {whole : Tree} {place : ℕ} {b : Bool} {n : ℕ} (g : Going section families sel hi whole mem place b n) where
  abbrev tree : Tree
  tree = g.here.part.tree

  -- an answer of the part in hand
  pub passes : {q : Quick} → q ≡ walk (searched_of section families) tree → passed_up b n q ≡ walk (searched_of section families) whole
  passes e = ap (passed_up b n) e ∙ g.same

  pub passes-few : {q : Quick} → q ≡ walk (searched_of section families) tree → codes_in q + n ≤ max_codes
  passes-few e = omega (arith, ap codes_in e, codes-few (searched_of section families) tree, g.few)

  -- under a not
  pub under_not : {code : Code} → code ≡ code_at sel place → code ≡ Not → Going section families sel hi whole mem (place - 1) (not b) (n + 1)
  unfolding walk postfix
  under_not {code} e c =
      let p = change-at (shape_at sel) place g.here.part negated (ap shape_of (sym e ∙ c)) in
      let t = p.operand.tree in
      record {
        here = below mem g.here p.operand (omega arith) refl;
        up_to = omega (arith, g.up_to);
        few = omega (arith, ap (λ (x : Tree). length (postfix x)) p.is, length-append (postfix t) (a_change negated ∷ []), g.few);
        same = sym (passed-turned b n (walk (searched_of section families) t)) ∙ ap (λ (x : Tree). passed_up b n (walk (searched_of section families) x)) (sym p.is) ∙ g.same;
      }

  module _ {k : Pair} {mid : ℕ} (p : PairAt (shape_at sel) place mid k tree) (plain : is_mild_not (a_pair k) ≡ false) where
    sizes : length (postfix tree) ≡ length (postfix p.left.tree) + length (postfix p.right.tree) + 1
    unfolding postfix
    sizes =
        let l = postfix p.left.tree in
        let r = postfix p.right.tree in
        omega (arith, ap (λ (x : Tree). length (postfix x)) p.is, length-append (l ++ r) (a_pair k ∷ []), length-append l r)

    module _ {l : Quick} (left : l ≡ walk (searched_of section families) p.left.tree) where
      -- the left side decides
      pub left-decides : decides k l ≡ true → passed_up b (n + 1) l ≡ walk (searched_of section families) whole
      left-decides d =
          rw left (sym (pair_decided b n (searched_of section families) place p.left.tree p.right.tree k plain (ap (decides k) (sym left) ∙ d)))
          ∙ ap (λ (x : Tree). passed_up b n (walk (searched_of section families) x)) (sym p.is)
          ∙ g.same

      pub left-few : codes_in l + (n + 1) ≤ max_codes
      left-few = omega (arith, ap codes_in left, codes-few (searched_of section families) p.left.tree, sizes, g.few)

      -- it does not
      pub right_side : decides k l ≡ false → (mem' : List ℕ) → length mem' ≡ length mem → Going section families sel hi whole mem' (place - 1) b (n + 1 + codes_in l)
      right_side d mem' same_length = record {
        here = below mem' g.here p.right (omega arith) same_length;
        up_to = omega (arith, g.up_to);
        few = omega (arith, ap codes_in left, codes-few (searched_of section families) p.left.tree, sizes, g.few);
        same =
            rw left (sym (pair_undecided b n (searched_of section families) place p.left.tree p.right.tree k plain (ap (decides k) (sym left) ∙ d)))
            ∙ ap (λ (x : Tree). passed_up b n (walk (searched_of section families) x)) (sym p.is)
            ∙ g.same;
      }
