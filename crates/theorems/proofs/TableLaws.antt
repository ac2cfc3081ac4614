-- The first refusal of a table that falls, as a function, is what the calls' definitions come to: each is a chain of refusals, and a chain of chains is
-- one chain of the rows of all.
use Prim.Native.Nat.{ℕ, ◌≤◌}
use mathlib.Core.Path.{◌≡◌, refl, sym, ap, ◌∙◌}
use mathlib.Core.Bool.{Bool, true, false, ◌&&◌, ◌||◌, cond}
use mathlib.Core.List.{List, [], ◌∷◌, ◌++◌}
use mathlib.Core.Logic.{◌↔◌}
use Rattle.std.specs.Prelude.{Option, Some, None, option_map}
use Rattle.model.specs.declared.Reason.TheVariants.{FaultyPosition, LongList, ShortMemory, WrongFamilies, WrongSection}
use Rattle.model.proofs.OptionLaws.{map-eq-none_iff, none-ne-some}
use lib.Dec.{leb, eqb}
use lib.ListN.{length}
use borrow.Author.Tests.{leb-true, le-leb, eqb-true, eq-eqb}
use Rattle.model.specs.Walk.{answered}
use Rattle.model.specs.declared.Refusal.{Refusal}
use Rattle.model.specs.Answers.{complete_list, listing_refusal, walk_unless, quick_answer}
use Rattle.model.specs.Checks.{number_of, refusal, otherwise, tried, wrong_section, faulty_position, wrong_families, entry_out_of_order, section_refusal, families_refusal, selection_refusal, room_refusal, input_refusal, listing_checks, quick_checks}
use Rattle.model.specs.Families.{searched_of}
use Rattle.model.specs.Lists.{Every, all_of}
use Rattle.model.specs.Limits.{work_length, buffer_length}
use Rattle.model.specs.Matches.{is_yes}
use Rattle.model.specs.Trees.{Tree, tree_of, parts}
use Rattle.model.specs.Walk.{first_too_long, unless_too_long}
use Rattle.model.specs.Walked.{walk_builds, walk_reaches}
use Rattle.model.proofs.ChecksLaws.{otherwise-none}
use Rattle.model.proofs.ListsLaws.{all_split}
use Rattle.model.proofs.TestsLaws.{both_true, and-join}
use Rattle.model.proofs.WalkLaws.{walk_is, walk_answer_complete}
use Rattle.theorems.specs.Demands.{Row, row, Falls, input_rows, list_rows, listing_table, quick_table, FirstToFall, NoneFalls, PassChecks, Numbered}
use Rattle.theorems.proofs.WordsLaws.{or_exactly}

-- ---- the first that falls

unfoldable pub first_fall : List Row → Option Refusal
first_fall [] = None
first_fall (w ∷ ws) = otherwise (option_map (refusal w.reason) w.falls) (first_fall ws)

not-falls : (w : Row) → (w.falls ≡ None) ↔ (¬ Falls w)
not-falls w = (λ e f. none-ne-some f.0 (sym e ∙ f.1), back w.falls refl)
  where
    back : (o : Option ℕ) → w.falls ≡ o → ¬ Falls w → w.falls ≡ None
    back None e n = e
    back (Some c) e n = absurd (n (c, e))

none_fall : (ws : List Row) → first_fall ws ≡ None → NoneFalls ws
unfolding first_fall Every
none_fall [] e = tt
none_fall (w ∷ ws) e =
    let both = otherwise-none (option_map (refusal w.reason) w.falls) (first_fall ws) e in
    ((not-falls w).0 ((map-eq-none_iff (refusal w.reason) w.falls).0 both.0), none_fall ws both.1)

fall_none : (ws : List Row) → NoneFalls ws → first_fall ws ≡ None
unfolding first_fall Every
fall_none [] n = refl
fall_none (w ∷ ws) n = let e = (not-falls w).1 n.0 in rw e (fall_none ws n.1)

pub first_fall_none : (table : List Row) → (first_fall table ≡ None) ↔ NoneFalls table
first_fall_none table = (none_fall table, fall_none table)

otherwise_assoc : (a b c : Option Refusal) → otherwise (otherwise a b) c ≡ otherwise a (otherwise b c)
otherwise_assoc None b c = refl
otherwise_assoc (Some r) b c = refl

pub first_fall_append : (ws vs : List Row) → first_fall (ws ++ vs) ≡ otherwise (first_fall ws) (first_fall vs)
unfolding first_fall
first_fall_append [] vs = refl
first_fall_append (w ∷ ws) vs =
    let one = option_map (refusal w.reason) w.falls in
    ap (otherwise one) (first_fall_append ws vs) ∙ sym (otherwise_assoc one (first_fall ws) (first_fall vs))

some_fall : (ws : List Row) (r : Refusal) → first_fall ws ≡ Some r → FirstToFall ws r
unfolding first_fall Every
some_fall [] r e = absurd (none-ne-some r e)
some_fall (w ∷ ws) r e = at w.falls refl e (some_fall ws r)
  where
    at : (o : Option ℕ) → w.falls ≡ o → otherwise (option_map (refusal w.reason) o) (first_fall ws) ≡ Some r → (first_fall ws ≡ Some r → FirstToFall ws r) → FirstToFall (w ∷ ws) r
    at None h e' later =
        let f = later e' in
        record { before = w ∷ f.before; after = f.after; order = ap (λ vs. w ∷ vs) f.order; none_before = ((not-falls w).0 h, f.none_before); this = f.this }
    at (Some c) h e' later =
        let same : refusal w.reason c ≡ r = cc in
        let is : w ≡ row r.reason (Some r.place) = ap (row w.reason) h ∙ ap (λ (q : Refusal). row q.reason (Some q.place)) same in
        record { before = []; after = ws; order = ap (λ v. v ∷ ws) is; none_before = tt; this = (r.place, refl) }

pub first_fall_some : (table : List Row) (r : Refusal) → (first_fall table ≡ Some r) ↔ FirstToFall table r
unfolding first_fall
first_fall_some table r = (some_fall table r, back)
  where
    back : FirstToFall table r → first_fall table ≡ Some r
    back f =
        let before = fall_none f.before f.none_before in
        ap first_fall f.order ∙ first_fall_append f.before (row r.reason (Some r.place) ∷ f.after) ∙ rw before

-- ---- numbers

-- input, room and size: the tables of both calls
abbrev rows : List ℕ → List ℕ → List ℕ → Bool → List Tree → List Row
rows section families selection enough built = input_rows section families selection ++ list_rows enough section families built

abbrev is_number : ℕ → Bool
is_number n = (leb 1 n && leb n 9) || (eqb n 12 || eqb n 13)

abbrev numbered : Row → Bool
numbered w = is_number (number_of w.reason)

is-number : (r : Refusal) → is_number (number_of r.reason) ≡ true → Numbered r
is-number r e =
    let n = number_of r.reason in
    let within : ((leb 1 n && leb n 9) ≡ true) ↔ ((1 ≤ n) × (n ≤ 9)) =
    (λ h. let both = both_true (leb 1 n) (leb n 9) h in (leb-true 1 n both.0, leb-true n 9 both.1), λ h. and-join (le-leb 1 n h.0) (le-leb n 9 h.1)) in
    (or_exactly (leb 1 n && leb n 9) (eqb n 12 || eqb n 13) within (or_exactly (eqb n 12) (eqb n 13) (eqb-true n 12, eq-eqb n 12) (eqb-true n 13, eq-eqb n 13))).0 e

rows_numbers : (section families selection : List ℕ) (enough : Bool) (built : List Tree) → all_of numbered (rows section families selection enough built) ≡ true
unfolding all_of
rows_numbers section families selection enough built = refl

-- a refusal of a table has the number of one of its rows
pub first_fall_number : (section families selection : List ℕ) (enough : Bool) (built : List Tree) (r : Refusal)
    → first_fall (input_rows section families selection ++ list_rows enough section families built) ≡ Some r → Numbered r
unfolding all_of
first_fall_number section families selection enough built r e =
    let f = some_fall (rows section families selection enough built) r e in
    let falls = row r.reason (Some r.place) in
    let tail = (all_split numbered f.before (falls ∷ f.after) (sym (ap (all_of numbered) f.order) ∙ rows_numbers section families selection enough built)).1 in
    is-number r (both_true (numbered falls) (all_of numbered f.after) tail).0

-- ---- the calls' tables

two-ahead : (a b c : Option Refusal) → otherwise (otherwise a (otherwise b None)) c ≡ otherwise a (otherwise b c)
two-ahead (Some r) b c = refl
two-ahead None b c = otherwise_assoc b None c

room-and-size : (o : Option Refusal) (enough : Bool) (long : Option ℕ)
    → otherwise (otherwise o (room_refusal enough)) (option_map (refusal LongList) long)
    ≡ otherwise o (first_fall (row ShortMemory (cond enough None (Some 0)) ∷ row LongList long ∷ []))
unfolding first_fall
room-and-size (Some r) enough long = refl
room-and-size None false long = refl
room-and-size None true None = refl
room-and-size None true (Some c) = refl

module _ (section families selection : List ℕ) where
  input_rows_lem : input_refusal section families selection ≡ first_fall (input_rows section families selection)
  unfolding input_refusal section_refusal families_refusal selection_refusal tried first_fall
  input_rows_lem =
      let one = option_map (refusal WrongSection) (wrong_section section) in
      let two = option_map (refusal FaultyPosition) (faulty_position section) in
      let sized = option_map (refusal WrongFamilies) (wrong_families families) in
      let ordered = option_map (refusal WrongFamilies) (entry_out_of_order families) in
      two-ahead one two (otherwise (families_refusal families) (selection_refusal selection))
      ∙ ap (λ (o : Option Refusal). otherwise one (otherwise two o)) (two-ahead sized ordered (selection_refusal selection))

  pub pass_none : PassChecks section families selection → input_refusal section families selection ≡ None
  pass_none n = input_rows_lem ∙ fall_none (input_rows section families selection) n

  all_rows : (enough : Bool) (built : List Tree)
      → otherwise (otherwise (input_refusal section families selection) (room_refusal enough)) (option_map (refusal LongList) (first_too_long (searched_of section families) built))
      ≡ first_fall (rows section families selection enough built)
  all_rows enough built =
      room-and-size (input_refusal section families selection) enough (first_too_long (searched_of section families) built)
      ∙ ap (λ (o : Option Refusal). otherwise o (first_fall (list_rows enough section families built))) input_rows_lem
      ∙ sym (first_fall_append (input_rows section families selection) (list_rows enough section families built))

  pub listing_table_lem : (work buffer : ℕ) → listing_refusal section families selection work buffer ≡ first_fall (listing_table section families selection work buffer)
  unfolding listing_refusal listing_checks
  listing_table_lem work buffer = all_rows (leb work_length work && leb buffer_length buffer) (parts (tree_of selection))

  walk_unless_lem : (o : Option Refusal) (f : Option ℕ) (b : Bool) (n : ℕ)
      → walk_unless o (unless_too_long f b n) ≡ walk_unless (otherwise o (option_map (refusal LongList) f)) (answered b n)
  walk_unless_lem (Some r) f b n = refl
  walk_unless_lem None None b n = refl
  walk_unless_lem None (Some c) b n = refl

  -- The quick answer is the first refusal of its table that falls; where none does, whether the complete list has a match without excludes, with
  -- how many codes its walk reaches.
  pub quick_table_lem : (work : ℕ)
      → quick_answer section families selection work
      ≡ walk_unless (first_fall (quick_table section families selection work)) (answered (is_yes (complete_list section families selection)) (length (walk_reaches (searched_of section families) (tree_of selection))))
  unfolding quick_answer quick_checks
  quick_table_lem work =
      let s = searched_of section families in
      let t = tree_of selection in
      let unless = walk_unless (quick_checks section families selection work) in
      ap unless (walk_is s t ∙ ap (λ (b : Bool). unless_too_long (first_too_long s (walk_builds s t)) b (length (walk_reaches s t))) (walk_answer_complete s t))
      ∙ walk_unless_lem (quick_checks section families selection work) (first_too_long s (walk_builds s t)) (is_yes (complete_list section families selection)) (length (walk_reaches s t))
      ∙ ap (λ (o : Option Refusal). walk_unless o (answered (is_yes (complete_list section families selection)) (length (walk_reaches s t)))) (all_rows (leb work_length work) (walk_builds s t))
