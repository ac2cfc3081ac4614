-- A filter that the walk reaches: its operand's part is built, and it counts one code more.
use Prim.Native.Nat.{ℕ, ◌+◌, ◌-◌}
use native.Mathlib.Omega.{arith}
use mathlib.Core.Path.{◌≡◌, refl, sym, ap, ◌∙◌}
use mathlib.Core.Bool.{Bool}
use mathlib.Core.List.{List}
use lib.ListN.{length}
use Rattle.model.specs.declared.Code.TheVariants.{Filter as Filtered}
use Rattle.model.specs.declared.Filter.{Filter}
use Rattle.model.specs.declared.Filter.TheVariants.{Window}
use Rattle.std.specs.Prelude.{Ok, Err}
use Rattle.model.specs.Walk.{answered}
use Rattle.model.specs.declared.Refusal.{Refusal}
use Rattle.model.specs.AllMatches.{all_matches}
use Rattle.model.specs.Kinds.{filtered, shape_of, shape_at}
use Rattle.model.specs.Lists.{any_of}
use Rattle.model.specs.Parts.{parts_ended, part_count, part_start}
use Rattle.model.specs.Families.{searched_of}
use Rattle.model.specs.Section.{section_of}
use Rattle.model.specs.Selection.{code_at, up_to}
use Rattle.model.specs.Trees.{Tree, parts}
use Rattle.model.specs.Walk.{gives_yes, filter_walk, walk}
use Rattle.model.proofs.BuildLaws.{part_count_lem}
use Rattle.model.proofs.PartsLaws.{ChangeAt, change-at}
use Rattle.store.specs.Slot.{SlotAt}
use Rattle.window.specs.Inside.{WindowSize}
use Rattle.build.specs.PartList.{PartList}
use Rattle.std.specs.Prelude.{Result}
use Rattle.build.proofs.WordsLaws.{window-size}
use Rattle.walk.specs.Walkable.{Walkable}
use Rattle.walk.proofs.PartsLaws.{part_count-more, part-long, part-answers}
use Rattle.walk.proofs.WalkLaws.{some-codes, below}

module _ {section families sel mem : List ℕ} {hi : ℕ} (w : Walkable section families sel mem hi) {f : Filter} (e : code_at sel hi ≡ Filtered f) where
  abbrev under : ChangeAt (shape_at sel) hi (filtered f) w.part.tree
  under = change-at (shape_at sel) hi w.part (filtered f) (ap shape_of e)

  abbrev operand : Tree
  operand = under.operand.tree

  abbrev pub operand_walkable : Walkable section families sel mem (hi - 1)
  operand_walkable = below mem w under.operand (omega arith) refl

  pub filter-window : (n : ℕ) → f ≡ Window n → WindowSize n
  filter-window n q = window-size sel w.in_selection hi (some-codes w) w.up_to n (e ∙ ap Filtered q)

  walks : filter_walk (searched_of section families) f operand ≡ walk (searched_of section families) w.part.tree
  unfolding walk
  walks = ap (walk (searched_of section families)) (sym under.is)

  counts : {lo n : ℕ} → lo ≡ part_start (shape_at sel) (hi - 1) → part_count (up_to (shape_at sel) lo) + n ≡ part_count (up_to (shape_at sel) hi) → n ≡ length (parts operand) + 1
  counts {lo} l h =
      let at = shape_at sel in
      let last : hi - 1 + 1 ≡ hi = omega (arith, some-codes w) in
      let more = part_count-more at (hi - 1) 0 (part_count (up_to at (hi - 1))) 1 (shape_at sel hi) (ap at (sym last)) (omega arith) (ap parts_ended (sym (ap shape_of e))) in
      omega (arith, part_count_lem at (hi - 1) lo under.operand l, more, ap (λ (k : ℕ). part_count (up_to at k)) last)

  module _ {mem' : List ℕ} {part : Result (Unit {0}) Refusal} (b : PartList (searched_of section families) operand mem' part) where
    pub filter-long : {r : Refusal} → part ≡ Err r → Err r ≡ walk (searched_of section families) w.part.tree
    unfolding filter_walk
    filter-long q = part-long b q (any_of (gives_yes (section_of section) f) (all_matches (searched_of section families) operand)) (length (parts operand) + 1) ∙ walks

    pub filter-answers : {lo n : ℕ} {answer : Bool} → part ≡ Ok tt → lo ≡ part_start (shape_at sel) (hi - 1) → ((s : SlotAt mem' 0) → answer ≡ any_of (gives_yes (section_of section) f) s.list)
        → part_count (up_to (shape_at sel) lo) + n ≡ part_count (up_to (shape_at sel) hi)
        → answered answer n ≡ walk (searched_of section families) w.part.tree
    unfolding filter_walk
    filter-answers q l y h = part-answers b q (any_of (gives_yes (section_of section) f)) y (counts l h) ∙ walks
