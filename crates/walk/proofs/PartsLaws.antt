-- A part that the walk builds: where it starts, its first phrase's rank, its codes; and a phrase's words as the selection has them.
use Prim.Native.Nat.{ℕ, suc, ◌+◌, ◌≤◌}
use native.Mathlib.Omega.{arith}
use mathlib.Core.Path.{◌≡◌, refl, sym, ap, ◌∙◌}
use mathlib.Core.Bool.{Bool}
use mathlib.Core.List.{List, [], ◌∷◌, ◌++◌, map}
use Rattle.std.specs.Prelude.{Option, Some, None, option_map}
use Rattle.model.specs.declared.Reason.TheVariants.{LongList}
use Rattle.model.proofs.OptionLaws.{none-ne-some}
use lib.ListN.{length}
use Rattle.std.specs.Prelude.{Ok, Err}
use Rattle.model.specs.Walk.{answered}
use Rattle.model.specs.declared.Refusal.{Refusal}
use Rattle.model.specs.AllMatches.{all_matches}
use Rattle.model.specs.Checks.{refusal}
use Rattle.model.specs.Kinds.{Shape, a_word, a_phrase, a_pair, a_change, shape_at}
use Rattle.model.specs.Matches.{Match, is_yes}
use Rattle.model.specs.Parts.{parts_ended, part_count, postfix, phrases, part_start, rank_after, codes_of_trees, phrases_all}
use Rattle.model.specs.Families.{Searched, searched_of}
use Rattle.model.specs.Selection.{up_to}
use Rattle.model.specs.Trees.{Tree, phrase, pair, change, parts}
use Rattle.model.specs.Walk.{first_too_long, unless_too_long, build}
use Rattle.model.proofs.BuildLaws.{part-below, part_count_lem}
use Rattle.model.proofs.PartsLaws.{start-le}
use Rattle.model.proofs.SelectionLaws.{length-up_to, up_to_front}
use Rattle.model.proofs.TreesLaws.{part_count-append}
use Rattle.selection.specs.Phrases.{phrases_in}
use Rattle.selection.proofs.PhrasesLaws.{phrases_ended-le, phrases_in-append}
use Rattle.store.specs.Slot.{SlotAt}
use Rattle.build.specs.State.{Buildable}
use Rattle.build.specs.PartList.{PartList}
use Rattle.std.specs.Prelude.{Result}
use Rattle.walk.specs.Walkable.{Walkable}

-- ---- part_count

-- one code more
pub part_count-more : (at : ℕ → Shape) (c base n k : ℕ) (code : Shape) → code ≡ at (c + 1) → base + n ≡ part_count (up_to at c) → k ≡ parts_ended code
    → base + (n + k) ≡ part_count (up_to at (c + 1))
unfolding part_count up_to
part_count-more at c base n k code e h i =
    let one : c + 1 ≡ suc c = omega arith in
    let last : k ≡ parts_ended (at (suc c)) = i ∙ ap parts_ended e ∙ ap (λ (j : ℕ). parts_ended (at j)) one in
    sym (ap (λ (j : ℕ). part_count (up_to at j)) one ∙ part_count-append (up_to at c) (at (suc c) ∷ []) ∙ omega (arith, last, h))

-- ---- phrases_in

phrases-le : (cs : List Shape) → phrases_in cs ≤ length cs
unfolding phrases_in
phrases-le [] = omega arith
phrases-le (c ∷ cs) = omega (arith, phrases-le cs, phrases_ended-le c)

phrases-words : (ws : List ℕ) → phrases_in (map a_word ws) ≡ 0
unfolding phrases_in
phrases-words [] = refl
phrases-words (w ∷ ws) = omega (arith, phrases-words ws)

phrases-tree : (t : Tree) → phrases_in (postfix t) ≡ phrases t
unfolding postfix phrases phrases_in
phrases-tree (phrase c r ws) = omega (arith, phrases_in-append (map a_word ws) (a_phrase (length ws) ∷ []), phrases-words ws)
phrases-tree (pair k c t u) =
    omega (arith, phrases_in-append (postfix t ++ postfix u) (a_pair k ∷ []), phrases_in-append (postfix t) (postfix u), phrases-tree t, phrases-tree u)
phrases-tree (change k c t) = omega (arith, phrases_in-append (postfix t) (a_change k ∷ []), phrases-tree t)

phrases-trees : (ts : List Tree) → phrases_in (codes_of_trees ts) ≡ phrases_all ts
unfolding codes_of_trees phrases_all phrases_in
phrases-trees [] = refl
phrases-trees (t ∷ ts) = omega (arith, phrases_in-append (codes_of_trees ts) (postfix t), phrases-tree t, phrases-trees ts)

-- ---- a part to build

module _ {section families sel mem : List ℕ} {hi : ℕ} (w : Walkable section families sel mem hi) where
  pub starts-before : part_start (shape_at sel) hi ≤ hi
  starts-before = start-le (shape_at sel) hi

  -- the phrases before it
  pub rank-few : phrases_in (up_to (shape_at sel) (part_start (shape_at sel) hi)) ≤ hi
  rank-few =
      let lo = part_start (shape_at sel) hi in
      omega (arith, phrases-le (up_to (shape_at sel) lo), length-up_to (shape_at sel) lo, starts-before)

  pub rank_is : phrases_in (up_to (shape_at sel) (part_start (shape_at sel) hi)) + 1 ≡ rank_after w.part.below
  unfolding codes_of_trees
  rank_is =
      let lo = part_start (shape_at sel) hi in
      let front : up_to (shape_at sel) lo ≡ codes_of_trees w.part.below =
      ap (up_to (shape_at sel)) (part-below (shape_at sel) hi lo w.part refl) ∙ up_to_front (shape_at sel) hi (codes_of_trees w.part.below) (postfix w.part.tree) w.part.spells in
      omega (arith, ap phrases_in front, phrases-trees w.part.below)

  abbrev pub buildable : {lo rank : ℕ} → lo ≡ part_start (shape_at sel) hi → rank ≡ phrases_in (up_to (shape_at sel) lo) → Buildable section families sel mem lo hi (rank + 1)
  buildable e r = record {
    in_section = w.in_section;
    in_families = w.in_families;
    in_selection = w.in_selection;
    part = w.part;
    lo_is = e;
    rank_is = ap (λ (k : ℕ). k + 1) (r ∙ ap (λ (l : ℕ). phrases_in (up_to (shape_at sel) l)) e) ∙ rank_is;
    up_to = w.up_to;
    room = w.room;
  }

-- ---- a part that is built: its list is too long, or answers

nine-at : (r : Refusal) (o : Option ℕ) (answer : Bool) (n : ℕ) → option_map (refusal LongList) o ≡ Some r → Err r ≡ unless_too_long o answer n
nine-at r None answer n f = absurd (none-ne-some r f)
nine-at r (Some place) answer n f = let same : refusal LongList place ≡ r = cc in ap Err (sym same)

module _ {s : Searched} {t : Tree} {mem : List ℕ} {part : Result (Unit {0}) Refusal} (b : PartList s t mem part) where
  -- where it is too long
  pub part-long : {r : Refusal} → part ≡ Err r → (answer : Bool) (n : ℕ) → Err r ≡ unless_too_long (first_too_long s (parts t)) answer n
  part-long {r} e answer n = nine-at r (first_too_long s (parts t)) answer n (b.refused r e)

  -- and where not, what is asked of its list and its count
  pub part-answers : part ≡ Ok tt → (f : List Match → Bool) {answer : Bool} {n k : ℕ} → ((w : SlotAt mem 0) → answer ≡ f w.list) → n ≡ k
      → answered answer n ≡ unless_too_long (first_too_long s (parts t)) (f (all_matches s t)) k
  part-answers e f y h = rw (b.valid e, y (record { list = all_matches s t; slot = b.slot e }), h)

-- ---- where the whole part is built

module _ {section families sel mem : List ℕ} {hi : ℕ} (w : Walkable section families sel mem hi) {mem' : List ℕ} {part : Result (Unit {0}) Refusal} (b : PartList (searched_of section families) w.part.tree mem' part) where
  pub build-long : {r : Refusal} → part ≡ Err r → Err r ≡ build (searched_of section families) w.part.tree
  unfolding build
  build-long e = part-long b e (is_yes (all_matches (searched_of section families) w.part.tree)) (length (parts w.part.tree))

  pub build-answers : {lo n : ℕ} {answer : Bool} → part ≡ Ok tt → lo ≡ part_start (shape_at sel) hi → ((s : SlotAt mem' 0) → answer ≡ is_yes s.list)
      → part_count (up_to (shape_at sel) lo) + n ≡ part_count (up_to (shape_at sel) hi)
      → answered answer n ≡ build (searched_of section families) w.part.tree
  unfolding build
  build-answers {lo} e l y h = part-answers b e is_yes y (omega (arith, part_count_lem (shape_at sel) hi lo w.part l))
