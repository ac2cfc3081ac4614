-- The parts of a part, and of the trees that wait while it is built, are parts of the selection's tree. So their phrases have ranks of the selection, and
-- every occurs among them stands over a phrase.
use Prim.Native.Nat.{ℕ, zero, suc, ◌+◌, ◌-◌, ◌≤◌}
use native.Mathlib.Omega.{arith}
use mathlib.Core.Path.{◌≡◌, refl, sym, ap, ◌∙◌, subst}
use mathlib.Core.Bool.{true, false}
use mathlib.Core.List.{List, [], ◌∷◌, ◌++◌}
use lib.ListN.{length, length-append}
use Rattle.model.specs.Accepted.{AcceptedSelection, max_phrases}
use Rattle.model.specs.AllStrings.{EveryPhrase, RankUpTo, RanksUpTo}
use Rattle.model.specs.Checks.{occurs_over_other}
use Rattle.model.specs.Kinds.{Shape, a_word, a_phrase, a_pair, a_change, shape_at, shapes_of}
use Rattle.model.specs.Lists.{Every}
use Rattle.model.specs.Parts.{PartAt, part_start, phrases, phrases_all, phrases_ended, postfix, rank_after, codes_of_trees, state_at}
use Rattle.model.specs.Parts.{fits_all, lists_all, waiting_parts, well_formed}
use Rattle.model.specs.Section.{size}
use Rattle.model.specs.Selection.{up_to}
use Rattle.model.specs.Trees.{Tree, phrase, pair, change, State, read, read_all, fresh, parts, top_tree, tree_of}
use Rattle.model.proofs.BuildLaws.{built_parts}
use Rattle.model.proofs.EveryLaws.{every_append, every-none}
use Rattle.model.proofs.PartsLaws.{part-read, part-well}
use Rattle.model.proofs.SelectionLaws.{up_to_split}
use Rattle.model.proofs.TreesLaws.{length-phrase, length-pair, read_all-append}
use Rattle.model.proofs.WaitingLaws.{fits_all_split, formed, steps, parsed, part-lists, lists_all-append}
use Rattle.model.proofs.WalkLaws.{parts_last}
use Rattle.selection.proofs.PhrasesLaws.{phrases_ended-le}

every_split : {A : Type 0} (P : A → Type 0) (xs ys : List A) → Every P (xs ++ ys) → Every P xs × Every P ys
unfolding Every
every_split P [] ys a = (tt, a)
every_split P (x ∷ xs) ys a = ((a.0, (every_split P xs ys a.1).0), (every_split P xs ys a.1).1)

-- ---- parts

module _ (P : ℕ → List ℕ → Type 0) where
  -- a part's phrases are phrases of the whole
  every-parts : (t : Tree) → EveryPhrase P t → Every (EveryPhrase P) (parts t)
  unfolding parts Every EveryPhrase
  every-parts (phrase c r ws) a = (a, tt)
  every-parts (pair k c t u) a =
      every_append _ (parts t ++ parts u) (pair k c t u ∷ []) (every_append _ (parts t) (parts u) (every-parts t a.0) (every-parts u a.1)) (a, tt)
  every-parts (change k c t) a = every_append _ (parts t) (change k c t ∷ []) (every-parts t a) (a, tt)

module _ (Q : Tree → Type 0) where
  -- a tree is the last of its parts
  every_whole : (t : Tree) → Every Q (parts t) → Q t
  unfolding Every
  every_whole t a = let l = parts_last t in (every_split Q l.0 (t ∷ []) (subst (Every Q) l.1 a)).1.0

  every_waiting : (ts : List Tree) → Every Q (waiting_parts ts) → Every Q ts
  unfolding Every waiting_parts
  every_waiting [] a = tt
  every_waiting (t ∷ ts) a = let b = every_split Q (waiting_parts ts) (parts t) a in (every_whole t b.1, every_waiting ts b.0)

  every_top : (ts : List Tree) → 1 ≤ length ts → Every Q (waiting_parts ts) → Every Q (parts (top_tree ts))
  unfolding waiting_parts top_tree
  every_top [] h a = absurd (omega arith)
  every_top (t ∷ ts) h a = (every_split Q (waiting_parts ts) (parts t) a).1

-- ---- a part of a selection, and the trees that wait while it is built

module _ (sel : List ℕ) (a : AcceptedSelection sel) (hi : ℕ) (w : PartAt (shape_at sel) hi) (within : hi ≤ size sel) where
  pub part_formed : well_formed (postfix w.tree) ≡ true
  unfolding shapes_of
  part_formed = part-well (shape_at sel) hi w (size sel) a.well within

  module _ (Q : Tree → Type 0) (whole : Every Q (parts (tree_of sel))) where
    every-part : Every Q (parts w.tree)
    unfolding tree_of top_tree shapes_of waiting_parts codes_of_trees
    every-part =
        let at = shape_at sel in
        let F = up_to at hi in
        let R = up_to (λ i. at (hi + i)) (size sel - hi) in
        let s = fresh 1 1 in
        let codes : shapes_of sel ≡ F ++ R = up_to_split at hi (size sel) within in
        let f = fits_all_split F R 0 0 (ap (λ (l : List Shape). fits_all l 0 0) (sym codes) ∙ (formed (shapes_of sel) a.well).fit) in
        let g = steps F s f.0 in
        let r = steps R (read_all F s) (rw (g.lists, g.loose) f.1) in
        let P = parsed (shapes_of sel) a.well in
        let all : waiting_parts (read_all (shapes_of sel) s).trees ≡ parts (tree_of sel) = ap waiting_parts P.alone ∙ ap parts (sym (ap top_tree P.alone)) in
        let is : parts (tree_of sel) ≡ waiting_parts (read_all F s).trees ++ r.newer =
        sym all ∙ ap (λ (l : List Shape). waiting_parts (read_all l s).trees) codes ∙ ap (λ (z : State). waiting_parts z.trees) (read_all-append F R s) ∙ r.adds in
        let lists = ap (λ (l : List Shape). lists_all l 0) w.spells ∙ lists_all-append (codes_of_trees w.below) (postfix w.tree) 0 ∙ part-lists w.tree (lists_all (codes_of_trees w.below) 0) in
        let some : 1 ≤ length (read_all F s).trees = omega (arith, g.lists, lists) in
        let waiting = (every_split Q (waiting_parts (read_all F s).trees) r.newer (subst (Every Q) is whole)).0 in
        subst (λ (t : Tree). Every Q (parts t)) (part-read at hi w) (every_top Q (read_all F s).trees some waiting)

    every-state : (lo : ℕ) → lo ≡ part_start (shape_at sel) hi → (n : ℕ) → n ≤ hi - lo → Every Q (state_at (shape_at sel) lo (rank_after w.below) n).trees
    every-state lo e n h =
        let b = built_parts (shape_at sel) hi lo w e part_formed n h in
        let ts = (state_at (shape_at sel) lo (rank_after w.below) n).trees in
        every_waiting Q ts (every_split Q (waiting_parts ts) b.0 (subst (Every Q) b.1 every-part)).0

  module _ (lo : ℕ) (e : lo ≡ part_start (shape_at sel) hi) (n : ℕ) (h : n ≤ hi - lo) where
    pub ranks-state : Every (RanksUpTo max_phrases) (state_at (shape_at sel) lo (rank_after w.below) n).trees
    ranks-state = every-state (RanksUpTo max_phrases) (every-parts (RankUpTo max_phrases) (tree_of sel) a.ranks) lo e n h

    pub phrases-state : Every (λ t. occurs_over_other t ≡ false) (state_at (shape_at sel) lo (rank_after w.below) n).trees
    phrases-state = every-state (λ t. occurs_over_other t ≡ false) (every-none occurs_over_other (parts (tree_of sel)) a.over_phrases) lo e n h

-- ---- how high ranks go

phrases-le : (t : Tree) → phrases t ≤ length (postfix t)
unfolding phrases postfix
phrases-le (phrase c r ws) = omega (arith, length-phrase c r ws)
phrases-le (pair k c t u) = omega (arith, length-pair k c t u, phrases-le t, phrases-le u)
phrases-le (change k c t) = omega (arith, length-append (postfix t) (a_change k ∷ []), phrases-le t)

pub phrases-below : (ts : List Tree) → phrases_all ts ≤ length (codes_of_trees ts)
unfolding phrases_all codes_of_trees
phrases-below [] = omega arith
phrases-below (t ∷ ts) = omega (arith, length-append (codes_of_trees ts) (postfix t), phrases-le t, phrases-below ts)

pub rank-read : (c : Shape) (s : State) → (read c s).rank ≡ s.rank + phrases_ended c
unfolding read
rank-read (a_word v) s = omega arith
rank-read (a_phrase k) s = refl
rank-read (a_pair k) s = omega arith
rank-read (a_change k) s = omega arith

pub rank-state : (at : ℕ → Shape) (lo rank n : ℕ) → (state_at at lo rank n).rank ≤ rank + n
unfolding state_at
rank-state at lo rank zero = omega arith
rank-state at lo rank (suc n) =
    omega (arith, rank-read (at (lo + suc n)) (state_at at lo rank n), phrases_ended-le (at (lo + suc n)), rank-state at lo rank n)
