-- A call's answer is decided by whether a refusal of its table falls. A snippet is empty or the numbers between two indices.
use Prim.Native.Nat.{ℕ, ◌+◌, ◌-◌}
use mathlib.Core.Bool.{Bool, true, false, ◌&&◌, cond}
use mathlib.Core.List.{List, [], ◌++◌, append_assoc}
use mathlib.Core.Logic.{◌⊎◌, inl, inr}
use Rattle.std.specs.Prelude.{Option, Some, None}
use mathlib.Core.Path.{◌≡◌, refl, sym, ap, ◌∙◌}
use lib.Dec.{leb}
use lib.ListN.{length, take, drop, take-append-drop}
use Rattle.model.specs.Walk.{answered}
use Rattle.model.specs.declared.Refusal.{Refusal}
use Rattle.model.specs.Answers.{complete_list, answer_unless, listing_answer, walk_unless, is_accepted, snippet_of}
use Rattle.model.specs.Checks.{section_refusal}
use Rattle.model.specs.Families.{searched_of}
use Rattle.model.specs.Limits.{work_length, buffer_length}
use Rattle.model.specs.Matches.{Match, is_yes}
use Rattle.model.specs.Section.{size}
use Rattle.model.specs.Trees.{tree_of, parts}
use Rattle.model.specs.Walked.{walk_builds, walk_reaches}
use Rattle.model.proofs.AnswersLaws.{listing_buffer-refused}
use Rattle.theorems.specs.Demands.{ListingGiven, ListingRefuses, QuickGiven, QuickRefuses, listing_table, quick_table, Numbered, Demand1}
use Rattle.theorems.proofs.TableLaws.{first_fall, first_fall_number, listing_table_lem, quick_table_lem}

listing_either : (o : Option Refusal) (ms : List Match) → ((r : Refusal) → o ≡ Some r → Numbered r)
    → ListingGiven (answer_unless o ms) ⊎ ((r : Refusal) × ListingRefuses (answer_unless o ms) r × Numbered r)
listing_either None ms h = inl (_, _, _, refl)
listing_either (Some r) ms h = inr (r, refl, h r refl)

quick_either : (o : Option Refusal) (y : Bool) (n : ℕ) → ((r : Refusal) → o ≡ Some r → Numbered r)
    → QuickGiven (walk_unless o (answered y n)) ⊎ ((r : Refusal) × QuickRefuses (walk_unless o (answered y n)) r × Numbered r)
quick_either None y n h = inl (y, (n, refl))
quick_either (Some r) y n h = inr (r, refl, h r refl)

part : (section : List ℕ) (b : Bool) (from k : ℕ) → (before : List ℕ) × (after : List ℕ) × (section ≡ before ++ cond b (take k (drop from section)) [] ++ after)
part section true from k =
    let rest = drop from section in
    let split = append_assoc (take from section) (take k rest) (drop k rest) ∙ ap (λ l. take from section ++ l) (take-append-drop k rest) ∙ take-append-drop from section in
    (take from section, drop k rest, sym split)
part section false from k = ([], section, refl)

pub demand_1 : Demand1
unfolding listing_answer snippet_of
demand_1 section families selection work buffer from to =
    let room = leb work_length work && leb buffer_length (length buffer) in
    let s = searched_of section families in
    let t = tree_of selection in
    record {
      listing_answers =
          rw (listing_table_lem section families selection work (length buffer))
          (listing_either (first_fall (listing_table section families selection work (length buffer))) (complete_list section families selection) (first_fall_number section families selection room (parts t)));
      quick_answers =
          rw (quick_table_lem section families selection work)
          (quick_either (first_fall (quick_table section families selection work)) (is_yes (complete_list section families selection)) (length (walk_reaches s t)) (first_fall_number section families selection (leb work_length work) (walk_builds s t)));
      snippet_answers = part section (is_accepted (section_refusal section) && leb 1 from && leb from to && leb to (size section)) from (to + 1 - from);
      refused_unchanged = λ r e. listing_buffer-refused section families selection work buffer r e;
    }
