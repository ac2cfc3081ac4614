-- Laws of the waiting rule: it counts what waits while codes are read. So codes that pass it are read into one tree that spells them, and each
-- tree among them passes it alone.
use Prim.Native.Nat.{ℕ, ◌+◌, ◌≤◌, ◌<◌}
use native.Mathlib.Nat.{zero-add}
use native.Mathlib.Omega.{arith}
use mathlib.Core.Path.{◌≡◌, refl, sym, ap, ap₂, ◌∙◌}
use mathlib.Core.Logic.{◌↔◌}
use mathlib.Core.Bool.{Bool, true, false, ◌&&◌, cond, and_assoc, and-true}
use mathlib.Core.List.{List, [], ◌∷◌, ◌++◌, map, map-append, append_assoc, append-nil}
use Rattle.std.specs.Prelude.{Option, Some, None}
use lib.Dec.{eqb, leb, ltb}
use lib.ListN.{length, drop, length-append, drop_of_length-le}
use lib.Seq.{append_snoc}
use borrow.Author.Tests.{eqb-true, leb-true, ltb-true, eq-eqb, le-leb, lt-ltb}
use Rattle.model.specs.Kinds.{Change, Shape, a_word, a_phrase, a_pair, a_change, is_word, arity}
use Rattle.model.specs.declared.Pair.{Pair}
use Rattle.model.specs.Limits.{max_waiting}
use Rattle.model.specs.Selection.{up_to}
use Rattle.model.specs.Waiting.{fits, lists_after, words_after, is_complete, first_misfit_from, first_misfit}
use Rattle.model.specs.Trees.{Tree, phrase, pair, change, place_of, State, combine, change_last, read, read_all, fresh, top_tree, parts}
use Rattle.model.specs.Parts.{postfix, renumbered, state, codes_of_trees, waiting_parts, part_ended_by, fits_all, lists_all, words_all, well_formed}
use Rattle.model.proofs.TestsLaws.{false-true, both_true, and-join, cond-le}
use Rattle.model.proofs.SelectionLaws.{length-up_to, drop-up_to}
use Rattle.model.proofs.TreesLaws.{read-part}

-- ---- fits

-- a code that takes n lists and wants no loose word
takes : (n w p : ℕ) → (eqb p 0 && leb n w) ≡ true → (p ≡ 0) × (n ≤ w)
takes n w p h = let b = both_true (eqb p 0) (leb n w) h in (eqb-true p 0 b.0, leb-true n w b.1)

-- a phrase takes all loose words
phrase_takes : (k w p : ℕ) → (eqb p k && ltb w max_waiting) ≡ true → (p ≡ k) × (w < max_waiting)
phrase_takes k w p h = let b = both_true (eqb p k) (ltb w max_waiting) h in (eqb-true p k b.0, ltb-true w max_waiting b.1)

-- A code that fits finds the lists that it takes, and leaves no more lists and words waiting than may.
pub record Fit (c : Shape) (w p : ℕ) : Type 0 where
  pub finds : arity c ≤ w
  pub lists-few : w ≤ max_waiting → lists_after c w ≤ max_waiting
  pub words-few : words_after c p ≤ max_waiting

pub fit_of : (c : Shape) (w p : ℕ) → fits c w p ≡ true → Fit c w p
fit_of (a_word v) w p f = record { finds = omega arith; lists-few = λ h. h; words-few = omega (arith, ltb-true p max_waiting f) }
fit_of (a_phrase k) w p f = record { finds = omega arith; lists-few = λ h. omega (arith, phrase_takes k w p f); words-few = omega arith }
fit_of (a_pair k) w p f = record { finds = (takes 2 w p f).1; lists-few = λ h. omega arith; words-few = omega arith }
fit_of (a_change k) w p f = record { finds = (takes 1 w p f).1; lists-few = λ h. omega arith; words-few = omega arith }

-- after a code that is no word some list waits, and no word is loose
pub after-part : (c : Shape) (w p : ℕ) → fits c w p ≡ true → is_word c ≡ false → (1 ≤ lists_after c w) × (words_after c p ≡ 0)
after-part c w p f h = let finds = (fit_of c w p f).finds in (rw h (omega arith), rw h)

-- a code adds at most one
pub lists-le : (c : Shape) (w : ℕ) → lists_after c w ≤ w + 1
lists-le c w = cond-le (is_word c) _ _ _ (omega arith) (omega arith)

pub words-le : (c : Shape) (p : ℕ) → words_after c p ≤ p + 1
words-le c p = cond-le (is_word c) _ _ _ (omega arith) (omega arith)

-- ---- fits_all, lists_all, words_all

pub fits_all-append : (xs ys : List Shape) (w p : ℕ) → fits_all (xs ++ ys) w p ≡ (fits_all xs w p && fits_all ys (lists_all xs w) (words_all xs p))
unfolding fits_all lists_all words_all
fits_all-append [] ys w p = refl
fits_all-append (x ∷ xs) ys w p =
    let v = lists_after x w in
    let q = words_after x p in
    ap (λ (b : Bool). fits x w p && b) (fits_all-append xs ys v q) ∙ sym (and_assoc (fits x w p) (fits_all xs v q) (fits_all ys (lists_all xs v) (words_all xs q)))

pub lists_all-append : (xs ys : List Shape) (w : ℕ) → lists_all (xs ++ ys) w ≡ lists_all ys (lists_all xs w)
unfolding lists_all
lists_all-append [] ys w = refl
lists_all-append (x ∷ xs) ys w = lists_all-append xs ys (lists_after x w)

pub words_all-append : (xs ys : List Shape) (p : ℕ) → words_all (xs ++ ys) p ≡ words_all ys (words_all xs p)
unfolding words_all
words_all-append [] ys p = refl
words_all-append (x ∷ xs) ys p = words_all-append xs ys (words_after x p)

-- codes that fit: the first of them do, and then the others
pub fits_all_split : (xs ys : List Shape) (w p : ℕ) → fits_all (xs ++ ys) w p ≡ true → (fits_all xs w p ≡ true) × (fits_all ys (lists_all xs w) (words_all xs p) ≡ true)
fits_all_split xs ys w p h = both_true (fits_all xs w p) (fits_all ys (lists_all xs w) (words_all xs p)) (sym (fits_all-append xs ys w p) ∙ h)

pub fits_all-cons : (c : Shape) (cs : List Shape) (w p : ℕ) → fits_all (c ∷ cs) w p ≡ true → (fits c w p ≡ true) × (fits_all cs (lists_after c w) (words_after c p) ≡ true)
unfolding fits_all
fits_all-cons c cs w p h = both_true (fits c w p) (fits_all cs (lists_after c w) (words_after c p)) h

pub lists_all-few : (cs : List Shape) (w p : ℕ) → fits_all cs w p ≡ true → w ≤ max_waiting → lists_all cs w ≤ max_waiting
unfolding lists_all
lists_all-few [] w p f h = h
lists_all-few (c ∷ cs) w p f h = let b = fits_all-cons c cs w p f in lists_all-few cs (lists_after c w) (words_after c p) b.1 ((fit_of c w p b.0).lists-few h)

pub words_all-few : (cs : List Shape) (w p : ℕ) → fits_all cs w p ≡ true → p ≤ max_waiting → words_all cs p ≤ max_waiting
unfolding words_all
words_all-few [] w p f h = h
words_all-few (c ∷ cs) w p f h = let b = fits_all-cons c cs w p f in words_all-few cs (lists_after c w) (words_after c p) b.1 (fit_of c w p b.0).words-few

-- ---- well_formed

-- what the whole rule says: every code fits, and one list and no word waits at the end
pub record Formed (cs : List Shape) : Type 0 where
  pub fit : fits_all cs 0 0 ≡ true
  pub one : lists_all cs 0 ≡ 1
  pub loose : words_all cs 0 ≡ 0

pub formed : (cs : List Shape) → well_formed cs ≡ true → Formed cs
unfolding well_formed
formed cs h =
    let a = both_true (fits_all cs 0 0) (is_complete (lists_all cs 0) (words_all cs 0)) h in
    let b = both_true (eqb (lists_all cs 0) 1) (eqb (words_all cs 0) 0) a.1 in
    record { fit = a.0; one = eqb-true (lists_all cs 0) 1 b.0; loose = eqb-true (words_all cs 0) 0 b.1 }

pub well_formed_lem : (cs : List Shape) → Formed cs → well_formed cs ≡ true
unfolding well_formed
well_formed_lem cs f = and-join f.fit (and-join (eq-eqb (lists_all cs 0) 1 f.one) (eq-eqb (words_all cs 0) 0 f.loose))

-- ---- break

is_none : Option ℕ → Bool
is_none None = true
is_none (Some c) = false

cond-none : (b : Bool) (later : Option ℕ) (c : ℕ) → is_none (cond b later (Some c)) ≡ (b && is_none later)
unfolding is_none
cond-none true later c = refl
cond-none false later c = refl

first_misfit_from-none : (c : ℕ) (cs : List Shape) (w p : ℕ) → is_none (first_misfit_from c cs w p) ≡ (fits_all cs w p && is_complete (lists_all cs w) (words_all cs p))
unfolding first_misfit_from fits_all lists_all words_all is_none
first_misfit_from-none c [] w p = cond-none (is_complete w p) None c ∙ and-true (is_complete w p)
first_misfit_from-none c (x ∷ xs) w p =
    let v = lists_after x w in
    let q = words_after x p in
    cond-none (fits x w p) (first_misfit_from (c + 1) xs v q) (c + 1) ∙ ap (λ (b : Bool). fits x w p && b) (first_misfit_from-none (c + 1) xs v q)
    ∙ sym (and_assoc (fits x w p) (fits_all xs v q) (is_complete (lists_all xs v) (words_all xs q)))

is-none : (o : Option ℕ) → is_none o ≡ true → o ≡ None
unfolding is_none
is-none None h = refl
is-none (Some c) h = false-true h

-- no code breaks the rule just where the whole rule holds
pub misfit_none : (cs : List Shape) → (first_misfit cs ≡ None) ↔ (well_formed cs ≡ true)
unfolding well_formed is_none
misfit_none cs = (λ h. sym (first_misfit_from-none 0 cs 0 0) ∙ ap is_none h, λ h. is-none (first_misfit cs) (first_misfit_from-none 0 cs 0 0 ∙ h))

-- the search for the first break, after i codes of a row of m
module _ (at : ℕ → Shape) (m : ℕ) where
  pub misfit_here : (i w p : ℕ) → i < m → fits (at (i + 1)) w p ≡ false → first_misfit_from i (drop i (up_to at m)) w p ≡ Some (i + 1)
  unfolding first_misfit_from
  misfit_here i w p h f = rw (drop-up_to at m i h) (rw f)

  pub misfit_on : (i w p : ℕ) → i < m → fits (at (i + 1)) w p ≡ true
      → first_misfit_from i (drop i (up_to at m)) w p ≡ first_misfit_from (i + 1) (drop (i + 1) (up_to at m)) (lists_after (at (i + 1)) w) (words_after (at (i + 1)) p)
  unfolding first_misfit_from
  misfit_on i w p h f = rw (drop-up_to at m i h) (rw f)

  pub misfit_end : (w p : ℕ) → first_misfit_from m (drop m (up_to at m)) w p ≡ cond (is_complete w p) None (Some m)
  unfolding first_misfit_from
  misfit_end w p = rw (drop_of_length-le (up_to at m) {i = m} (omega (arith, length-up_to at m)))

-- ---- read

-- what waits, as codes: those of the trees, and the loose words
abbrev pub spells : State → List Shape
spells s = codes_of_trees s.trees ++ map a_word s.words

-- A code that fits stands after the codes of what waits, leaves waiting what the rule counts, and ends at most one part, the newest.
pub record Step (c : Shape) (s : State) : Type 0 where
  pub spelt : spells (read c s) ≡ spells s ++ c ∷ []
  pub lists : length (read c s).trees ≡ lists_after c (length s.trees)
  pub loose : length (read c s).words ≡ words_after c (length s.words)
  pub adds : waiting_parts (read c s).trees ≡ waiting_parts s.trees ++ part_ended_by c (read c s).trees
  pub placed_last : is_word c ≡ false → place_of (top_tree (read c s).trees) ≡ s.place

-- by what the code takes; a code that fits finds it
pub step : (c : Shape) (ts : List Tree) (ws : List ℕ) (p r : ℕ) → fits c (length ts) (length ws) ≡ true → Step c (state ts ws p r)
unfolding read combine change_last top_tree place_of parts codes_of_trees postfix waiting_parts
step (a_word w) ts ws p r h = record {
  spelt = simp (map-append, append_assoc);
  lists = refl;
  loose = length-append ws (w ∷ []);
  adds = sym (append-nil (waiting_parts ts));
  placed_last = λ h. false-true (sym h);
}
step (a_phrase k) ts ws p r h =
    let e = (phrase_takes k (length ts) (length ws) h).0 in
    record {
      spelt = append-nil _ ∙ ap (λ (n : ℕ). codes_of_trees ts ++ (map a_word ws ++ a_phrase n ∷ [])) e ∙ sym (append_assoc (codes_of_trees ts) (map a_word ws) (a_phrase k ∷ []));
      lists = omega arith;
      loose = refl;
      adds = refl;
      placed_last = λ h. refl;
    }
step (a_pair k) [] ws p r h = absurd (omega (arith, takes 2 0 (length ws) h))
step (a_pair k) (u ∷ []) ws p r h = absurd (omega (arith, takes 2 1 (length ws) h))
step (a_pair k) (u ∷ t ∷ ts) (w ∷ ws) p r h = absurd (omega (arith, takes 2 (length (u ∷ t ∷ ts)) (length (w ∷ ws)) h))
step (a_pair k) (u ∷ t ∷ ts) [] p r h =
    record { spelt = simp (append-nil, append_assoc); lists = omega arith; loose = refl; adds = simp append_assoc; placed_last = λ h. refl }
step (a_change k) [] ws p r h = absurd (omega (arith, takes 1 0 (length ws) h))
step (a_change k) (t ∷ ts) (w ∷ ws) p r h = absurd (omega (arith, takes 1 (length (t ∷ ts)) (length (w ∷ ws)) h))
step (a_change k) (t ∷ ts) [] p r h =
    record { spelt = simp (append-nil, append_assoc); lists = omega arith; loose = refl; adds = simp append_assoc; placed_last = λ h. refl }

-- a code that fits adds one part at the end, or none where it is a word: the parts of a tree are the trees that its codes end in turn
pub read-parts : (c : Shape) (s : State) → fits c (length s.trees) (length s.words) ≡ true
    → waiting_parts (read c s).trees ≡ waiting_parts s.trees ++ part_ended_by c (read c s).trees
read-parts c s h = (step c s.trees s.words s.place s.rank h).adds

-- ---- read_all

pub record Steps (cs : List Shape) (s : State) : Type 0 where
  pub spelt : spells (read_all cs s) ≡ spells s ++ cs
  pub lists : length (read_all cs s).trees ≡ lists_all cs (length s.trees)
  pub loose : length (read_all cs s).words ≡ words_all cs (length s.words)
  pub newer : List Tree
  pub adds : waiting_parts (read_all cs s).trees ≡ waiting_parts s.trees ++ newer

-- codes that fit, read one by one
pub steps : (cs : List Shape) (s : State) → fits_all cs (length s.trees) (length s.words) ≡ true → Steps cs s
unfolding read_all lists_all words_all
steps [] s h = record { spelt = sym (append-nil (spells s)); lists = refl; loose = refl; newer = []; adds = sym (append-nil (waiting_parts s.trees)) }
steps (c ∷ cs) s h =
    let b = fits_all-cons c cs (length s.trees) (length s.words) h in
    let a = step c s.trees s.words s.place s.rank b.0 in
    let r = steps cs (read c s) (rw (a.lists, a.loose) b.1) in
    let new = part_ended_by c (read c s).trees in
    record {
      spelt = r.spelt ∙ ap (λ (x : List Shape). x ++ cs) a.spelt ∙ append_snoc (spells s) c cs;
      lists = r.lists ∙ ap (lists_all cs) a.lists;
      loose = r.loose ∙ ap (words_all cs) a.loose;
      newer = new ++ r.newer;
      adds = r.adds ∙ ap (λ (l : List Tree). l ++ r.newer) a.adds ∙ append_assoc (waiting_parts s.trees) new r.newer;
    }

-- after any of the codes as many trees wait as the rule counts, and no more than may
pub waiting : (xs ys : List Shape) → well_formed (xs ++ ys) ≡ true → (length (read_all xs (fresh 1 1)).trees ≡ lists_all xs 0) × (lists_all xs 0 ≤ max_waiting)
waiting xs ys h =
    let f = (fits_all_split xs ys 0 0 (formed (xs ++ ys) h).fit).0 in
    ((steps xs (fresh 1 1) f).lists, lists_all-few xs 0 0 f (omega arith))

-- Codes that pass the rule are read into one tree, which spells them and is numbered from 1.
pub record Parsed (cs : List Shape) : Type 0 where
  pub tree : Tree
  pub alone : (read_all cs (fresh 1 1)).trees ≡ tree ∷ []
  pub spelt : postfix tree ≡ cs
  pub numbered : renumbered 1 1 tree ≡ tree

one-tree : (ts : List Tree) → length ts ≡ 1 → (t : Tree) × (ts ≡ t ∷ [])
one-tree [] h = absurd (omega arith)
one-tree (t ∷ []) h = (t, refl)
one-tree (t ∷ u ∷ ts) h = absurd (omega arith)

no_words : (ws : List ℕ) → length ws ≡ 0 → ws ≡ []
no_words [] h = refl
no_words (w ∷ ws) h = absurd (omega arith)

pub parsed : (cs : List Shape) → well_formed cs ≡ true → Parsed cs
unfolding codes_of_trees
parsed cs h =
    let f = formed cs h in
    let s = read_all cs (fresh 1 1) in
    let g = steps cs (fresh 1 1) f.fit in
    let one = one-tree s.trees (g.lists ∙ f.one) in
    let t = one.0 in
    let wait = ap₂ (λ (ts : List Tree) (ws : List ℕ). codes_of_trees ts ++ map a_word ws) one.1 (no_words s.words (g.loose ∙ f.loose)) in
    let spelt : postfix t ≡ cs = sym (append-nil (postfix t)) ∙ sym wait ∙ g.spelt in
    let again = sym (ap (λ (z : State). z.trees) (read-part t [] 1 1)) ∙ ap (λ (l : List Shape). (read_all l (fresh 1 1)).trees) spelt ∙ one.1 in
    record { tree = t; alone = one.1; spelt = spelt; numbered = cc again }

-- ---- one tree alone

words-lists : (ws : List ℕ) (w : ℕ) → lists_all (map a_word ws) w ≡ w
unfolding lists_all
words-lists [] w = refl
words-lists (v ∷ ws) w = words-lists ws w

words-words : (ws : List ℕ) (p : ℕ) → words_all (map a_word ws) p ≡ p + length ws
unfolding words_all
words-words [] p = omega arith
words-words (v ∷ ws) p = words-words ws (p + 1) ∙ omega arith

-- words fit above any number of lists alike
words_fit : (ws : List ℕ) (d e p : ℕ) → fits_all (map a_word ws) d p ≡ fits_all (map a_word ws) e p
unfolding fits_all
words_fit [] d e p = refl
words_fit (v ∷ ws) d e p = ap (λ (b : Bool). ltb p max_waiting && b) (words_fit ws d e (p + 1))

-- a tree's codes leave one list more, and no loose word
pub part-lists : (t : Tree) (w : ℕ) → lists_all (postfix t) w ≡ w + 1
unfolding postfix lists_all
part-lists (phrase c r ws) w = lists_all-append (map a_word ws) _ w ∙ ap (lists_after (a_phrase (length ws))) (words-lists ws w) ∙ omega arith
part-lists (pair k c t u) w =
    let sides = lists_all-append (postfix t) (postfix u) w ∙ ap (lists_all (postfix u)) (part-lists t w) ∙ part-lists u (w + 1) in
    lists_all-append (postfix t ++ postfix u) _ w ∙ ap (lists_after (a_pair k)) sides ∙ omega arith
part-lists (change k c t) w = lists_all-append (postfix t) _ w ∙ omega (arith, part-lists t w)

pub part-words : (t : Tree) → words_all (postfix t) 0 ≡ 0
unfolding postfix words_all
part-words (phrase c r ws) = words_all-append (map a_word ws) _ 0
part-words (pair k c t u) = words_all-append (postfix t ++ postfix u) _ 0
part-words (change k c t) = words_all-append (postfix t) _ 0

-- the rule on a tree and what stands after it
fits-part : (t : Tree) (ys : List Shape) (w : ℕ) → fits_all (postfix t ++ ys) w 0 ≡ (fits_all (postfix t) w 0 && fits_all ys (w + 1) 0)
fits-part t ys w = fits_all-append (postfix t) ys w 0 ∙ ap₂ (λ (a b : ℕ). fits_all (postfix t) w 0 && fits_all ys a b) (part-lists t w) (part-words t)

-- a code that fits after a tree asks nothing more
fits_then : (t : Tree) (c : Shape) (w : ℕ) → fits c (w + 1) 0 ≡ true → fits_all (postfix t ++ c ∷ []) w 0 ≡ fits_all (postfix t) w 0
unfolding fits_all
fits_then t c w h = fits-part t (c ∷ []) w ∙ ap (λ (b : Bool). fits_all (postfix t) w 0 && (b && true)) h ∙ and-true (fits_all (postfix t) w 0)

fits-phrase : (c r : ℕ) (ws : List ℕ) (w : ℕ) → fits_all (postfix (phrase c r ws)) w 0 ≡ (fits_all (map a_word ws) w 0 && ltb w max_waiting)
unfolding postfix fits_all
fits-phrase c r ws w =
    let n = length ws in
    let takes_all : (eqb n n && ltb w max_waiting && true) ≡ ltb w max_waiting = and-true (eqb n n && ltb w max_waiting) ∙ rw (eq-eqb n n refl) in
    fits_all-append (map a_word ws) (a_phrase n ∷ []) w 0
    ∙ ap₂ (λ (a b : ℕ). fits_all (map a_word ws) w 0 && fits_all (a_phrase n ∷ []) a b) (words-lists ws w) (words-words ws 0 ∙ zero-add n)
    ∙ ap (λ (b : Bool). fits_all (map a_word ws) w 0 && b) takes_all

fits-pair : (k : Pair) (c : ℕ) (t u : Tree) (w : ℕ) → fits_all (postfix (pair k c t u)) w 0 ≡ (fits_all (postfix t) w 0 && fits_all (postfix u) (w + 1) 0)
unfolding postfix
fits-pair k c t u w =
    ap (λ (l : List Shape). fits_all l w 0) (append_assoc (postfix t) (postfix u) (a_pair k ∷ [])) ∙ fits-part t (postfix u ++ a_pair k ∷ []) w
    ∙ ap (λ (b : Bool). fits_all (postfix t) w 0 && b) (fits_then u (a_pair k) (w + 1) (le-leb 2 (w + 1 + 1) (omega arith)))

fits-change : (k : Change) (c : ℕ) (t : Tree) (w : ℕ) → fits_all (postfix (change k c t)) w 0 ≡ fits_all (postfix t) w 0
unfolding postfix
fits-change k c t w = fits_then t (a_change k) w (le-leb 1 (w + 1) (omega arith))

-- a tree that fits above d lists fits above fewer
pub part-lower : (t : Tree) (d e : ℕ) → e ≤ d → fits_all (postfix t) d 0 ≡ true → fits_all (postfix t) e 0 ≡ true
part-lower (phrase c r ws) d e le h =
    let b = both_true (fits_all (map a_word ws) d 0) (ltb d max_waiting) (sym (fits-phrase c r ws d) ∙ h) in
    fits-phrase c r ws e ∙ and-join (words_fit ws e d 0 ∙ b.0) (lt-ltb e max_waiting (omega (arith, ltb-true d max_waiting b.1)))
part-lower (pair k c t u) d e le h =
    let b = both_true (fits_all (postfix t) d 0) (fits_all (postfix u) (d + 1) 0) (sym (fits-pair k c t u d) ∙ h) in
    fits-pair k c t u e ∙ and-join (part-lower t d e le b.0) (part-lower u (d + 1) (e + 1) (omega arith) b.1)
part-lower (change k c t) d e le h = fits-change k c t e ∙ part-lower t d e le (sym (fits-change k c t d) ∙ h)

words-trees : (ts : List Tree) → words_all (codes_of_trees ts) 0 ≡ 0
unfolding codes_of_trees words_all
words-trees [] = refl
words-trees (t ∷ ts) = words_all-append (codes_of_trees ts) (postfix t) 0 ∙ ap (words_all (postfix t)) (words-trees ts) ∙ part-words t

-- a tree of codes that pass the rule passes it alone
pub part-alone : (ts : List Tree) (t : Tree) (ys : List Shape) → well_formed (codes_of_trees (t ∷ ts) ++ ys) ≡ true → well_formed (postfix t) ≡ true
unfolding codes_of_trees
part-alone ts t ys h =
    let f = (fits_all_split (codes_of_trees (t ∷ ts)) ys 0 0 (formed (codes_of_trees (t ∷ ts) ++ ys) h).fit).0 in
    let g = (fits_all_split (codes_of_trees ts) (postfix t) 0 0 f).1 in
    let above : fits_all (postfix t) (lists_all (codes_of_trees ts) 0) 0 ≡ true = ap (fits_all (postfix t) (lists_all (codes_of_trees ts) 0)) (sym (words-trees ts)) ∙ g in
    well_formed_lem (postfix t) (record { fit = part-lower t (lists_all (codes_of_trees ts) 0) 0 (omega arith) above; one = part-lists t 0; loose = part-words t })
