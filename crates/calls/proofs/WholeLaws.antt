-- Where the checks pass, the whole selection is a part that can be built and walked.
use Prim.Native.Nat.{ℕ, ◌≤◌}
use native.Mathlib.Omega.{arith}
use mathlib.Core.Path.{◌≡◌, refl, sym, ap, ◌∙◌}
use mathlib.Core.List.{List, []}
use Rattle.std.specs.Prelude.{None}
use lib.ListN.{length}
use Rattle.model.specs.Accepted.{AcceptedSection, AcceptedFamilies, AcceptedSelection}
use Rattle.model.specs.Checks.{input_refusal}
use Rattle.model.specs.Kinds.{shape_at, shapes_of}
use Rattle.model.specs.Limits.{work_length}
use Rattle.model.specs.Parts.{PartAt, codes_of_trees, phrases_all}
use Rattle.model.specs.Section.{size}
use Rattle.model.specs.Selection.{up_to}
use Rattle.model.specs.Trees.{top_tree, read_all, fresh, tree_of}
use Rattle.model.proofs.ChecksLaws.{accepted-section, accepted_families, accepted-selection, accepted-part, input_none}
use Rattle.model.proofs.PartsLaws.{part_start_lem, part-read}
use Rattle.build.specs.State.{Buildable}
use Rattle.walk.specs.Walkable.{Walkable}

module _ (section families selection : List ℕ) (passes : input_refusal section families selection ≡ None) where
  pub section-accepted : AcceptedSection section
  section-accepted = accepted-section section (input_none section families selection passes).0

  pub families-accepted : AcceptedFamilies families
  families-accepted = accepted_families families (input_none section families selection passes).1

  pub selection-accepted : AcceptedSelection selection
  selection-accepted = accepted-selection selection (input_none section families selection passes).2

  -- nothing stands below the whole: it starts before the first code, and its first phrase has rank 1
  pub whole_built : (mem : List ℕ) → work_length ≤ length mem → Buildable section families selection mem 0 (size selection) 1
  unfolding accepted-part codes_of_trees phrases_all
  whole_built mem room =
      let part = accepted-part selection selection-accepted in
      record {
        in_section = section-accepted;
        in_families = families-accepted;
        in_selection = selection-accepted;
        part = part;
        lo_is = sym (part_start_lem (shape_at selection) [] (tree_of selection) (size selection) part.spells);
        rank_is = refl;
        up_to = omega arith;
        room = room;
      }

  pub whole_walked : (mem : List ℕ) → work_length ≤ length mem → Walkable section families selection mem (size selection)
  whole_walked mem room =
      record {
        in_section = section-accepted;
        in_families = families-accepted;
        in_selection = selection-accepted;
        part = accepted-part selection selection-accepted;
        up_to = omega arith;
        room = room;
      }

-- the part that ends at the last code is the whole: its tree is the selection's
pub whole_tree : (selection : List ℕ) {hi : ℕ} (w : PartAt (shape_at selection) hi) → hi ≡ size selection → w.tree ≡ tree_of selection
unfolding tree_of shapes_of
whole_tree selection {hi} w e =
    sym (part-read (shape_at selection) hi w) ∙ ap (λ (k : ℕ). top_tree (read_all (up_to (shape_at selection) k) (fresh 1 1)).trees) e
