-- Laws of parts. The walk back from a part's last code counts the trees still to be found, so it ends after the codes below the part; every code
-- but a word ends a part, because after it some tree waits and no word; and a part's sides are parts too.
use Prim.Native.Nat.{ℕ, zero, suc, ◌+◌, ◌-◌, ◌≤◌, ◌<◌}
use native.Mathlib.Omega.{arith}
use mathlib.Core.Path.{◌≡◌, refl, sym, ap, ap₂, ◌∙◌}
use mathlib.Core.Bool.{Bool, true, false, cond}
use mathlib.Core.List.{List, [], ◌∷◌, ◌++◌, map, append_assoc, append-nil}
use lib.Dec.{leb}
use lib.ListN.{length, length-append}
use lib.Seq.{append_snoc}
use borrow.Author.Tests.{ne_eqb, le-leb}
use Rattle.model.specs.Kinds.{Change, Shape, a_word, a_phrase, a_pair, a_change, shape_of, is_word, arity, shape_at, shapes_of}
use Rattle.model.specs.declared.Pair.{Pair}
use Rattle.model.specs.Lists.{keep, up_from, from_to}
use Rattle.model.specs.Section.{size}
use Rattle.model.specs.Selection.{kind_at, operand_at, code_of, up_to}
use Rattle.model.specs.Waiting.{fits}
use Rattle.model.specs.Trees.{top_tree, Tree, phrase, pair, change, place_of, State, read_all, fresh, tree_of, parts}
use Rattle.model.specs.Parts.{parts_ended, part_count, postfix, phrases, renumbered, state, codes_of_trees, phrases_all, place_after, rank_after}
use Rattle.model.specs.Parts.{fits_all, lists_all, words_all, well_formed, stops, trees_needed, scan_back, part_start, PartAt}
use Rattle.model.specs.Walk.{own_count}
use Rattle.model.proofs.TestsLaws.{false-true, positive, cond-le}
use Rattle.model.proofs.KindsLaws.{arity-le, shape_cases}
use Rattle.model.proofs.SelectionLaws.{up_to-map, length-up_to, up_to_split, up_to_front, Ends, ends}
use Rattle.model.proofs.TreesLaws.{read_all-append, read-part, place_of_lem, length-parts}
use Rattle.model.proofs.WaitingLaws.{after-part, fits_all_split, fits_all-cons, lists_all-append, words_all-append, formed, steps, part-alone}

-- ---- scan_back

-- a code adds at most one to what is to be found
pub trees_needed-le : (c : Shape) (n : ℕ) → trees_needed c n ≤ n + 1
trees_needed-le c n = let two = arity-le c in cond-le (is_word c) _ _ _ (omega arith) (omega arith)

-- where a code other than a word does not stop the walk, some tree is to be found
pub stops-on : (c : Shape) (n : ℕ) → is_word c ≡ false → stops c n ≡ false → 1 ≤ n
stops-on c n w s = positive n (sym (rw w) ∙ s)

-- a tree's last code, and those before it
unfoldable last_code : Tree → Shape
last_code (phrase c r ws) = a_phrase (length ws)
last_code (pair k c t u) = a_pair k
last_code (change k c t) = a_change k

unfoldable front : Tree → List Shape
front (phrase c r ws) = map a_word ws
front (pair k c t u) = postfix t ++ postfix u
front (change k c t) = postfix t

front_last : (t : Tree) → postfix t ≡ front t ++ last_code t ∷ []
unfolding postfix front last_code
front_last (phrase c r ws) = refl
front_last (pair k c t u) = refl
front_last (change k c t) = refl

stops-last : (t : Tree) → stops (last_code t) 0 ≡ true
unfolding last_code
stops-last (phrase c r ws) = refl
stops-last (pair k c t u) = refl
stops-last (change k c t) = refl

module _ (at : ℕ → Shape) where
  pub scan_back-none : (n : ℕ) → scan_back at 0 n ≡ 0
  unfolding scan_back
  scan_back-none n = refl

  -- the turns of the walk
  pub scan_back_stop : (i n : ℕ) → 0 < i → stops (at i) n ≡ true → scan_back at i n ≡ i
  unfolding scan_back
  scan_back_stop zero n h s = absurd (omega arith)
  scan_back_stop (suc i) n h s = rw s

  pub scan_back-on : (i n : ℕ) → 0 < i → stops (at i) n ≡ false → scan_back at i n ≡ scan_back at (i - 1) (trees_needed (at i) n)
  unfolding scan_back
  scan_back-on zero n h s = absurd (omega arith)
  scan_back-on (suc i) n h s = let e : i ≡ suc i - 1 = omega arith in rw s (ap (λ (k : ℕ). scan_back at k (trees_needed (at (suc i)) n)) e)

  pub scan_back-le : (i n : ℕ) → scan_back at i n ≤ i
  unfolding scan_back
  scan_back-le zero n = omega arith
  scan_back-le (suc i) n = let before = scan_back-le i (trees_needed (at (suc i)) n) in cond-le (stops (at (suc i)) n) _ _ _ (omega arith) (omega arith)

  pub start-le : (hi : ℕ) → part_start at hi ≤ hi
  unfolding part_start
  start-le hi = scan_back-le hi 1

  -- a row that spells trees ends in the last tree's last code
  ends_last : (hi : ℕ) (t : Tree) (ts : List Tree) → up_to at hi ≡ codes_of_trees (t ∷ ts) → Ends at hi (codes_of_trees ts ++ front t) (last_code t)
  unfolding codes_of_trees
  ends_last hi t ts e =
      let ended = ap (λ (l : List Shape). codes_of_trees ts ++ l) (front_last t) ∙ sym (append_assoc (codes_of_trees ts) (front t) (last_code t ∷ [])) in
      ends at hi (codes_of_trees ts ++ front t) (last_code t) (e ∙ ended)

  -- one step back
  on : (hi n m : ℕ) (xs : List Shape) (c : Shape) → Ends at hi xs c → stops c n ≡ false → trees_needed c n ≡ m → scan_back at hi n ≡ scan_back at (length xs) m
  on hi n m xs c e s d =
      let one : hi - 1 ≡ length xs = omega (arith, e.hi_is) in
      scan_back-on hi n (omega (arith, e.hi_is)) (ap (λ (x : Shape). stops x n) e.code ∙ s) ∙ ap₂ (scan_back at) one (ap (λ (x : Shape). trees_needed x n) e.code ∙ d)

  scan_back-words : (ws : List ℕ) (hi n : ℕ) (rest : List Shape) → up_to at hi ≡ rest ++ map a_word ws → scan_back at hi n ≡ scan_back at (length rest) n
  scan_back-words [] hi n rest e = ap (λ (k : ℕ). scan_back at k n) (sym (length-up_to at hi) ∙ ap length (e ∙ append-nil rest))
  scan_back-words (w ∷ ws) hi n rest e =
      let e' : up_to at hi ≡ rest ++ a_word w ∷ [] ++ map a_word ws = e ∙ sym (append_snoc rest (a_word w) (map a_word ws)) in
      let f = up_to_front at hi (rest ++ a_word w ∷ []) (map a_word ws) e' in
      scan_back-words ws hi n (rest ++ a_word w ∷ []) e' ∙ on _ n n rest (a_word w) (ends at _ rest (a_word w) f) refl refl

  -- a tree is found: one less is to be found before it
  scan_back-tree : (t : Tree) (hi n : ℕ) (rest : List Shape) → up_to at hi ≡ rest ++ postfix t → scan_back at hi (suc n) ≡ scan_back at (length rest) n
  unfolding postfix
  scan_back-tree (phrase c r ws) hi n rest e =
      let f = ends at hi (rest ++ map a_word ws) (a_phrase (length ws)) (e ∙ sym (append_assoc rest (map a_word ws) (a_phrase (length ws) ∷ []))) in
      on hi (suc n) n _ _ f (ne_eqb (suc n) 0 (omega arith)) (omega arith) ∙ scan_back-words ws _ n rest f.rest
  scan_back-tree (pair k c t u) hi n rest e =
      let f = ends at hi (rest ++ postfix t ++ postfix u) (a_pair k) (e ∙ simp append_assoc) in
      on hi (suc n) (suc (suc n)) _ _ f (ne_eqb (suc n) 0 (omega arith)) (omega arith) ∙ scan_back-tree u _ (suc n) (rest ++ postfix t) f.rest
      ∙ scan_back-tree t _ n rest (up_to_front at _ (rest ++ postfix t) (postfix u) f.rest)
  scan_back-tree (change k c t) hi n rest e =
      let f = ends at hi (rest ++ postfix t) (a_change k) (e ∙ sym (append_assoc rest (postfix t) (a_change k ∷ []))) in
      on hi (suc n) (suc n) _ _ f (ne_eqb (suc n) 0 (omega arith)) (omega arith) ∙ scan_back-tree t _ n rest f.rest

  -- with no tree left to find, the walk stops where it is, after a tree's last code
  stay : (ts : List Tree) → up_to at (length (codes_of_trees ts)) ≡ codes_of_trees ts → scan_back at (length (codes_of_trees ts)) 0 ≡ length (codes_of_trees ts)
  unfolding codes_of_trees
  stay [] e = scan_back-none 0
  stay (t ∷ ts) e = let f = ends_last _ t ts e in scan_back_stop _ 0 (omega (arith, f.hi_is)) (ap (λ (x : Shape). stops x 0) f.code ∙ stops-last t)

  -- the walk back from a part's last code ends after the codes below it
  pub part_start_lem : (ts : List Tree) (t : Tree) (hi : ℕ) → up_to at hi ≡ codes_of_trees (t ∷ ts) → part_start at hi ≡ length (codes_of_trees ts)
  unfolding codes_of_trees part_start
  part_start_lem ts t hi e = scan_back-tree t hi 0 (codes_of_trees ts) e ∙ stay ts (up_to_front at hi (codes_of_trees ts) (postfix t) e)

-- ---- part_at

-- reading the codes of waiting trees from the start numbers them
unfoldable renumbered_all : List Tree → List Tree
renumbered_all [] = []
renumbered_all (t ∷ ts) = renumbered (place_after ts) (rank_after ts) t ∷ renumbered_all ts

read-trees : (ts : List Tree) → read_all (codes_of_trees ts) (fresh 1 1) ≡ state (renumbered_all ts) [] (place_after ts) (rank_after ts)
unfolding codes_of_trees read_all renumbered_all phrases_all
read-trees [] = refl
read-trees (t ∷ ts) =
    let place : place_after ts + length (postfix t) ≡ place_after (t ∷ ts) = omega (arith, length-append (codes_of_trees ts) (postfix t)) in
    let rank : rank_after ts + phrases t ≡ rank_after (t ∷ ts) = omega arith in
    read_all-append (codes_of_trees ts) (postfix t) (fresh 1 1) ∙ ap (read_all (postfix t)) (read-trees ts) ∙ read-part t (renumbered_all ts) (place_after ts) (rank_after ts)
    ∙ ap₂ (state (renumbered_all (t ∷ ts)) []) place rank

-- The codes before a place fit, and so does the next.
pub record FitsAt (at : ℕ → Shape) (n : ℕ) : Type 0 where
  pub before : fits_all (up_to at n) 0 0 ≡ true
  pub here : fits (at (suc n)) (lists_all (up_to at n) 0) (words_all (up_to at n) 0) ≡ true
  pub both : fits_all (up_to at (suc n)) 0 0 ≡ true

pub fits-at : (at : ℕ → Shape) (m : ℕ) → well_formed (up_to at m) ≡ true → (n : ℕ) → n < m → FitsAt at n
unfolding up_to
fits-at at m fine n h =
    let f = (formed (up_to at m) fine).fit in
    let more = up_to (λ i. at (suc n + i)) (m - suc n) in
    let to = (fits_all_split (up_to at (suc n)) more 0 0 (ap (λ (l : List Shape). fits_all l 0 0) (sym (up_to_split at (suc n) m h)) ∙ f)).0 in
    let b = fits_all_split (up_to at n) (at (suc n) ∷ []) 0 0 to in
    record { before = b.0; here = (fits_all-cons (at (suc n)) [] (lists_all (up_to at n) 0) (words_all (up_to at n) 0) b.1).0; both = to }

-- trees that are read are those that their codes are read into: so they are numbered
module _ (at : ℕ → Shape) (hi : ℕ) where
  part_of : (ts : List Tree) (ws : List ℕ) → (read_all (up_to at hi) (fresh 1 1)).trees ≡ ts → length ws ≡ 0 → 1 ≤ length ts
      → codes_of_trees ts ++ map a_word ws ≡ up_to at hi → PartAt at hi
  unfolding renumbered_all
  part_of [] ws a c d e = absurd (omega arith)
  part_of (t ∷ ts) (w ∷ ws) a c d e = absurd (omega arith)
  part_of (t ∷ ts) [] a c d e = record { tree = t; below = ts; spells = all_of; numbered = cc again }
    where
      all_of : up_to at hi ≡ codes_of_trees (t ∷ ts)
      all_of = sym e ∙ append-nil (codes_of_trees (t ∷ ts))

      again : renumbered (place_after ts) (rank_after ts) t ∷ renumbered_all ts ≡ t ∷ ts
      again = sym (ap (λ (s : State). s.trees) (read-trees (t ∷ ts))) ∙ ap (λ (l : List Shape). (read_all l (fresh 1 1)).trees) (sym all_of) ∙ a

-- every code but a word ends a part
pub part_at : (at : ℕ → Shape) (m : ℕ) → well_formed (up_to at m) ≡ true → (hi : ℕ) → 1 ≤ hi → hi ≤ m → is_word (at hi) ≡ false → PartAt at hi
unfolding up_to lists_all words_all codes_of_trees
part_at at m fine zero l h c = absurd (omega arith)
part_at at m fine (suc n) l h c =
    let f = fits-at at m fine n h in
    let g = steps (up_to at (suc n)) (fresh 1 1) f.both in
    let b = after-part (at (suc n)) (lists_all (up_to at n) 0) (words_all (up_to at n) 0) f.here c in
    let words = g.loose ∙ words_all-append (up_to at n) (at (suc n) ∷ []) 0 in
    let lists = g.lists ∙ lists_all-append (up_to at n) (at (suc n) ∷ []) 0 in
    let s = read_all (up_to at (suc n)) (fresh 1 1) in
    part_of at (suc n) s.trees s.words refl (words ∙ b.1) (omega arith) g.spelt

module _ (at : ℕ → Shape) (hi : ℕ) (w : PartAt at hi) where
  -- a part's codes stand above those below it
  pub part_length : length (codes_of_trees w.below) + length (postfix w.tree) ≡ hi
  unfolding codes_of_trees
  part_length = sym (length-append (codes_of_trees w.below) (postfix w.tree)) ∙ ap length (sym w.spells) ∙ length-up_to at hi

  pub part-some : 1 ≤ hi
  part-some = omega (arith, (ends_last at hi w.tree w.below w.spells).hi_is)

  -- a part's own code stands at its place
  pub part-place : place_of w.tree ≡ hi
  part-place = omega (arith, place_of_lem (place_after w.below) (rank_after w.below) w.tree w.numbered, part_length)

  -- and is the last that waits when the codes up to it are read
  pub part-read : top_tree (read_all (up_to at hi) (fresh 1 1)).trees ≡ w.tree
  unfolding top_tree renumbered_all
  part-read =
      ap (λ (l : List Shape). top_tree (read_all l (fresh 1 1)).trees) w.spells
      ∙ ap (λ (s : State). top_tree s.trees) (read-trees (w.tree ∷ w.below))
      ∙ w.numbered

  -- a part of codes that pass the rule passes it alone
  pub part-well : (m : ℕ) → well_formed (up_to at m) ≡ true → hi ≤ m → well_formed (postfix w.tree) ≡ true
  part-well m fine h =
      let more = up_to (λ i. at (hi + i)) (m - hi) in
      part-alone w.below w.tree more (ap well_formed (ap (λ (l : List Shape). l ++ more) (sym w.spells) ∙ sym (up_to_split at hi m h)) ∙ fine)

-- ---- the parts just below a part's code

-- A combination's sides are the parts that end just before it and just before those.
pub record PairAt (at : ℕ → Shape) (hi mid : ℕ) (k : Pair) (t : Tree) : Type 0 where
  pub left : PartAt at mid
  pub right : PartAt at (hi - 1)
  pub is : t ≡ pair k hi left.tree right.tree

-- A change's operand is the part that ends just before it.
pub record ChangeAt (at : ℕ → Shape) (hi : ℕ) (k : Change) (t : Tree) : Type 0 where
  pub operand : PartAt at (hi - 1)
  pub is : t ≡ change k hi operand.tree

-- A phrase's words stand just before it.
pub record PhraseAt (at : ℕ → Shape) (hi k rank : ℕ) (before : List Shape) (t : Tree) : Type 0 where
  pub words : List ℕ
  pub is : t ≡ phrase hi rank words
  pub long : length words ≡ k
  pub codes : up_to at (hi - 1) ≡ before ++ map a_word words

module _ (at : ℕ → Shape) (hi : ℕ) (below : List Tree) where
  -- the tree t is the part that ends at hi, above those below
  record Here (t : Tree) : Type 0 where
    pub spells : up_to at hi ≡ codes_of_trees (t ∷ below)
    pub numbered : renumbered (place_after below) (rank_after below) t ≡ t

  -- the code at a part's place is its last, and the others stand before
  last_is : (t : Tree) → Here t → at hi ≡ last_code t
  last_is t h = (ends_last at hi t below h.spells).code

  rest_is : (t : Tree) → Here t → up_to at (hi - 1) ≡ codes_of_trees below ++ front t
  rest_is t h =
      let f = ends_last at hi t below h.spells in
      let i : hi - 1 ≡ length (codes_of_trees below ++ front t) = omega (arith, f.hi_is) in
      ap (up_to at) i ∙ f.rest

  place_is : (t : Tree) → Here t → place_of t ≡ hi
  place_is t h = part-place at hi (record { tree = t; below = below; spells = h.spells; numbered = h.numbered })

  pair_of : (t : Tree) → Here t → (k : Pair) (mid : ℕ) → mid ≡ part_start at (hi - 1) → at hi ≡ a_pair k → PairAt at hi mid k t
  unfolding last_code front codes_of_trees renumbered place_of phrases_all
  pair_of (phrase c r ws) h k mid m e = absurd (omega (arith, ap arity (sym e ∙ last_is (phrase c r ws) h)))
  pair_of (change j c t) h k mid m e = absurd (omega (arith, ap arity (sym e ∙ last_is (change j c t) h)))
  pair_of (pair j c t u) h k mid m e =
      let at_mid : place_after below + length (postfix t) ≡ place_after (t ∷ below) = omega (arith, length-append (codes_of_trees below) (postfix t)) in
      let rank_mid : rank_after below + phrases t ≡ rank_after (t ∷ below) = omega arith in
      let numbered : renumbered (place_after below + length (postfix t)) (rank_after below + phrases t) u ≡ u = cc in
      let right : PartAt at (hi - 1) = record {
        tree = u;
        below = t ∷ below;
        spells = rest_is (pair j c t u) h ∙ sym (append_assoc (codes_of_trees below) (postfix t) (postfix u));
        numbered = ap₂ (λ (x y : ℕ). renumbered x y u) (sym at_mid) (sym rank_mid) ∙ numbered;
      } in
      let mid_is : mid ≡ length (codes_of_trees (t ∷ below)) = m ∙ part_start_lem at (t ∷ below) u (hi - 1) right.spells in
      let left : PartAt at mid = record {
        tree = t;
        below = below;
        spells = ap (up_to at) mid_is ∙ up_to_front at (hi - 1) (codes_of_trees (t ∷ below)) (postfix u) right.spells;
        numbered = cc;
      } in
      let same : j ≡ k = cc (last_is (pair j c t u) h) in
      record { left = left; right = right; is = ap₂ (λ (i : Pair) (x : ℕ). pair i x t u) same (place_is (pair j c t u) h) }

  change_of : (t : Tree) → Here t → (k : Change) → at hi ≡ a_change k → ChangeAt at hi k t
  unfolding last_code front codes_of_trees renumbered place_of
  change_of (phrase c r ws) h k e = absurd (omega (arith, ap arity (sym e ∙ last_is (phrase c r ws) h)))
  change_of (pair j c t u) h k e = absurd (omega (arith, ap arity (sym e ∙ last_is (pair j c t u) h)))
  change_of (change j c t) h k e =
      let same : j ≡ k = cc (last_is (change j c t) h) in
      let operand : PartAt at (hi - 1) = record { tree = t; below = below; spells = rest_is (change j c t) h; numbered = cc } in
      record { operand = operand; is = ap₂ (λ (i : Change) (x : ℕ). change i x t) same (place_is (change j c t) h) }

  phrase_of : (t : Tree) → Here t → (k : ℕ) → at hi ≡ a_phrase k → PhraseAt at hi k (rank_after below) (codes_of_trees below) t
  unfolding last_code front renumbered place_of
  phrase_of (pair j c t u) h k e = absurd (omega (arith, ap arity (sym e ∙ last_is (pair j c t u) h)))
  phrase_of (change j c t) h k e = absurd (omega (arith, ap arity (sym e ∙ last_is (change j c t) h)))
  phrase_of (phrase c r ws) h k e =
      let same : r ≡ rank_after below = cc in
      let is : phrase c r ws ≡ phrase hi (rank_after below) ws = ap₂ (λ (x y : ℕ). phrase x y ws) (place_is (phrase c r ws) h) same in
      record { words = ws; is = is; long = cc (last_is (phrase c r ws) h); codes = rest_is (phrase c r ws) h }

module _ (at : ℕ → Shape) (hi : ℕ) (w : PartAt at hi) where
  -- a part does not end in a word
  pub word_at : {A : Type 0} (v : ℕ) → at hi ≡ a_word v → A
  word_at v e = false-true (ap (λ (c : Shape). stops c 0) (sym e ∙ (ends_last at hi w.tree w.below w.spells).code) ∙ stops-last w.tree)

  -- a part by the code at its place
  pub pair-at : (k : Pair) (mid : ℕ) → mid ≡ part_start at (hi - 1) → at hi ≡ a_pair k → PairAt at hi mid k w.tree
  pair-at = pair_of at hi w.below w.tree (record { spells = w.spells; numbered = w.numbered })

  pub change-at : (k : Change) → at hi ≡ a_change k → ChangeAt at hi k w.tree
  change-at = change_of at hi w.below w.tree (record { spells = w.spells; numbered = w.numbered })

  pub phrase-at : (k : ℕ) → at hi ≡ a_phrase k → PhraseAt at hi k (rank_after w.below) (codes_of_trees w.below) w.tree
  phrase-at = phrase_of at hi w.below w.tree (record { spells = w.spells; numbered = w.numbered })

-- ---- part_count, own_count

-- the codes that count are those of kind 1 and up
parts_ended_code : (k o : ℕ) → parts_ended (shape_of (code_of k o)) ≡ cond (leb 1 k) 1 0
parts_ended_code k o = shape_cases (λ x. parts_ended x ≡ cond (leb 1 k) 1 0) k o (λ e. rw e) (λ e. rw e) (λ h q. some h) (λ h q. some h)
  where
    some : 1 ≤ k → ◌≡◌ {A = ℕ} 1 (cond (leb 1 k) 1 0)
    some h = rw (le-leb 1 k h)

part_count-keep : (at : ℕ → Shape) (q : ℕ → Bool) → ((c : ℕ) → parts_ended (at c) ≡ cond (q c) 1 0) → (xs : List ℕ) → part_count (map at xs) ≡ length (keep q xs)
unfolding part_count keep
part_count-keep at q h [] = refl
part_count-keep at q h (x ∷ xs) = ap₂ (λ (a b : ℕ). a + b) (h x) (part_count-keep at q h xs) ∙ add (q x)
  where
    add : (b : Bool) → cond b 1 0 + length (keep q xs) ≡ length (cond b (x ∷ keep q xs) (keep q xs))
    add true = omega arith
    add false = omega arith

-- a selection's own count is that of its codes but the words, and of its tree's parts
pub part_count-codes : (sel : List ℕ) → part_count (shapes_of sel) ≡ own_count sel
unfolding shapes_of own_count from_to
part_count-codes sel =
    let n = size sel in
    let e : n ≡ n + 1 - 1 = omega arith in
    ap part_count (up_to-map (shape_at sel) n) ∙ part_count-keep (shape_at sel) (λ c. leb 1 (kind_at sel c)) (λ c. parts_ended_code (kind_at sel c) (operand_at sel c)) (up_from 1 n)
    ∙ ap (λ (k : ℕ). length (keep (λ c. leb 1 (kind_at sel c)) (up_from 1 k))) e

pub parts_own : (sel : List ℕ) → postfix (tree_of sel) ≡ shapes_of sel → length (parts (tree_of sel)) ≡ own_count sel
parts_own sel spelt = length-parts (tree_of sel) ∙ ap part_count spelt ∙ part_count-codes sel
