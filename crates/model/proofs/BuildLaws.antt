-- A part is built alone: its codes, read from nothing, give its tree with the places and ranks that it has in the whole, and each of them fits where
-- it stands, because a part of codes that pass the waiting rule passes it alone.
use Prim.Native.Nat.{ℕ, zero, suc, ◌+◌, ◌-◌, ◌≤◌, ◌<◌}
use native.Mathlib.Omega.{arith}
use mathlib.Core.Path.{◌≡◌, refl, sym, ap, ap₂, ◌∙◌}
use mathlib.Core.Bool.{true}
use mathlib.Core.List.{List, [], ◌∷◌, ◌++◌}
use lib.ListN.{length, drop}
use lib.Seq.{drop_at}
use Rattle.model.specs.Kinds.{Shape, a_word, a_phrase, a_pair, a_change}
use Rattle.model.specs.Limits.{max_waiting}
use Rattle.model.specs.Selection.{up_to}
use Rattle.model.specs.Waiting.{fits}
use Rattle.model.specs.Trees.{Tree, State, read, read_all, fresh, parts}
use Rattle.model.specs.Parts.{part_count, postfix, phrases, renumbered, state, codes_of_trees, place_after, rank_after}
use Rattle.model.specs.Parts.{waiting_parts, fits_all, lists_all, words_all, well_formed, part_start, PartAt, state_at}
use Rattle.model.proofs.SelectionLaws.{length-up_to, up_to_split, up_to_front}
use Rattle.model.proofs.TreesLaws.{read_all-append, read_all-snoc, read-part, part_count-append, length-parts}
use Rattle.model.proofs.WaitingLaws.{fits_all_split, lists_all-few, words_all-few, formed, steps}
use Rattle.model.proofs.PartsLaws.{part_start_lem, part_length, fits-at}

-- ---- state_at

place_read : (c : Shape) (s : State) → (read c s).place ≡ s.place + 1
unfolding read
place_read (a_word w) s = refl
place_read (a_phrase k) s = refl
place_read (a_pair k) s = refl
place_read (a_change k) s = refl

module _ (at : ℕ → Shape) (lo rank : ℕ) where
  -- the place that comes next
  pub place-state : (n : ℕ) → (state_at at lo rank n).place ≡ lo + suc n
  unfolding state_at
  place-state zero = omega arith
  place-state (suc n) = place_read (at (lo + suc n)) (state_at at lo rank n) ∙ omega (arith, place-state n)

  -- reading code by code is reading the codes
  state-read : (n : ℕ) → state_at at lo rank n ≡ read_all (up_to (λ i. at (lo + i)) n) (fresh (lo + 1) rank)
  unfolding state_at read_all up_to
  state-read zero = refl
  state-read (suc n) = ap (read (at (lo + suc n))) (state-read n) ∙ sym (read_all-snoc (up_to (λ i. at (lo + i)) n) (at (lo + suc n)) (fresh (lo + 1) rank))

-- ---- a part built alone

-- A code fits where it is read, and no more trees and words wait than may.
pub record Fits (c : Shape) (s : State) : Type 0 where
  pub here : fits c (length s.trees) (length s.words) ≡ true
  pub few_trees : length s.trees ≤ max_waiting
  pub few_words : length s.words ≤ max_waiting

module _ (at : ℕ → Shape) (hi lo : ℕ) (w : PartAt at hi) (e : lo ≡ part_start at hi) where
  abbrev own : ℕ → Shape
  own i = at (lo + i)

  abbrev rank : ℕ
  rank = rank_after w.below

  pub part-below : lo ≡ length (codes_of_trees w.below)
  part-below = e ∙ part_start_lem at w.below w.tree hi w.spells

  part-ends : lo + length (postfix w.tree) ≡ hi
  part-ends = omega (arith, part-below, part_length at hi w)

  pub part-size : hi - lo ≡ length (postfix w.tree)
  part-size = omega (arith, part-ends)

  -- the part's own codes are those after lo
  pub part_codes_lem : up_to (λ i. at (lo + i)) (hi - lo) ≡ postfix w.tree
  unfolding codes_of_trees
  part_codes_lem =
      sym (drop_at (up_to at lo) (up_to own (hi - lo)) lo (length-up_to at lo)) ∙ ap (drop lo) (sym (up_to_split at lo hi (omega (arith, part-ends))) ∙ w.spells)
      ∙ drop_at (codes_of_trees w.below) (postfix w.tree) lo (sym part-below)

  -- it has as many parts as codes but words
  pub part_count_lem : part_count (up_to at lo) + length (parts w.tree) ≡ part_count (up_to at hi)
  unfolding codes_of_trees
  part_count_lem =
      let front_is : up_to at lo ≡ codes_of_trees w.below = ap (up_to at) part-below ∙ up_to_front at hi (codes_of_trees w.below) (postfix w.tree) w.spells in
      ap₂ (λ (a b : ℕ). a + b) (ap part_count front_is) (length-parts w.tree) ∙ sym (ap part_count w.spells ∙ part_count-append (codes_of_trees w.below) (postfix w.tree))

  -- after its last code the part's tree waits alone, with the places and ranks that it has in the whole
  pub built_tree : state_at at lo (rank_after w.below) (hi - lo) ≡ state (w.tree ∷ []) [] (hi + 1) (rank_after w.below + phrases w.tree)
  built_tree =
      let p : lo + 1 ≡ place_after w.below = omega (arith, part-below) in
      let q : lo + 1 + length (postfix w.tree) ≡ hi + 1 = omega (arith, part-ends) in
      state-read at lo rank (hi - lo) ∙ ap (λ (l : List Shape). read_all l (fresh (lo + 1) rank)) part_codes_lem ∙ read-part w.tree [] (lo + 1) rank
      ∙ ap₂ (λ (t : Tree) (k : ℕ). state (t ∷ []) [] k (rank + phrases w.tree)) (ap (λ (k : ℕ). renumbered k rank w.tree) p ∙ w.numbered) q

  module _ (fine : well_formed (postfix w.tree) ≡ true) where
    alone : well_formed (up_to own (hi - lo)) ≡ true
    alone = ap well_formed part_codes_lem ∙ fine

    -- each of its codes fits where it stands
    pub built_fits : (n : ℕ) → n < hi - lo → Fits (at (lo + suc n)) (state_at at lo (rank_after w.below) n)
    built_fits n h =
        let f = fits-at own (hi - lo) alone n h in
        let F = up_to own n in
        let s = state-read at lo rank n in
        let g = steps F (fresh (lo + 1) rank) f.before in
        let t : length (state_at at lo rank n).trees ≡ lists_all F 0 = ap (λ (z : State). length z.trees) s ∙ g.lists in
        let v : length (state_at at lo rank n).words ≡ words_all F 0 = ap (λ (z : State). length z.words) s ∙ g.loose in
        record {
          here = rw (t, v) f.here;
          few_trees = rw t (lists_all-few F 0 0 f.before (omega arith));
          few_words = rw v (words_all-few F 0 0 f.before (omega arith));
        }

    -- the parts that its first codes end are the first of its parts
    pub built_parts : (n : ℕ) → n ≤ hi - lo → (more : List Tree) × (parts w.tree ≡ waiting_parts (state_at at lo (rank_after w.below) n).trees ++ more)
    unfolding waiting_parts
    built_parts n h =
        let F = up_to own n in
        let R = up_to (λ i. own (n + i)) (hi - lo - n) in
        let s = fresh (lo + 1) rank in
        let all_of : up_to own (hi - lo) ≡ F ++ R = up_to_split own n (hi - lo) h in
        let f = fits_all_split F R 0 0 (ap (λ (l : List Shape). fits_all l 0 0) (sym all_of) ∙ (formed (up_to own (hi - lo)) alone).fit) in
        let g = steps F s f.0 in
        let r = steps R (read_all F s) (rw (g.lists, g.loose) f.1) in
        let whole = sym (read_all-append F R s) ∙ ap (λ (l : List Shape). read_all l s) (sym all_of) ∙ sym (state-read at lo rank (hi - lo)) ∙ built_tree in
        let here = ap (λ (z : State). waiting_parts z.trees ++ r.newer) (sym (state-read at lo rank n)) in
        (r.newer, ap (λ (z : State). waiting_parts z.trees) (sym whole) ∙ r.adds ∙ here)
