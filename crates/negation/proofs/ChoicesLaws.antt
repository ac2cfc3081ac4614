-- A choice written: its includes, its excludes after them, and the header from where both end. And all choices written: choice number c is match number
-- c of the not, so that they follow each other as the not's matches do.
use Prim.Native.Nat.{ℕ, ◌+◌, ◌≤◌, ◌<◌}
use native.Mathlib.Omega.{arith}
use native.Mathlib.Numerals.{add-one}
use mathlib.Core.Path.{◌≡◌, sym, ap, ap₂, ◌∙◌}
use mathlib.Core.List.{List, [], ◌∷◌}
use lib.ListN.{length, drop, set}
use lib.Seq.{sets, drop-cons, drop-length}
use Rattle.model.specs.Choices.{choice}
use Rattle.model.specs.Matches.{Match, strings_in}
use Rattle.model.specs.Rules.{no_strings, not_list}
use Rattle.model.proofs.RulesLaws.{length-not, not_at, strings-choice}
use Rattle.std.specs.Prelude.{Ok}
use Rattle.store.specs.declared.Size.{Size}
use Rattle.store.specs.Built.{Built, built_of}
use Rattle.store.specs.Layout.{header_between, match_numbers, matches_numbers}
use Rattle.store.specs.Outcome.{Outcome}
use Rattle.store.specs.Indices.{ClosingMatch, SlotBelow}
use Rattle.store.specs.Put.{Put}
use Rattle.store.specs.Slot.{SlotAt}
use Rattle.store.proofs.LayoutLaws.{length-strs_of, length_match, length_matches}
use Rattle.store.proofs.PutLaws.{length-put, closing_match, closed_match}
use Rattle.store.proofs.RowsLaws.{Rows, rows_start, rows_room, rows_step, rows_finish}
use Rattle.store.proofs.SlotsLaws.{slot-below, answer_made, filled}
use Rattle.negation.specs.Chosen.{Source, SideAt, ChoiceAt, ChoicesAt}
use Rattle.negation.specs.Turned.{side_numbers}

-- stores above a list leave it, and what is to come lies above it too
source-below : {list : List Match} {mem mem' : List ℕ} {src total at q next : ℕ} {xs : List ℕ} → Source list mem src total at → at ≤ q → Put mem mem' q xs next
    → Source list mem' src total next
source-below s h v = record { slot = slot-below v (omega (arith, s.below)) s.slot; below = omega (arith, s.below, v.next_is); total_is = s.total_is }

-- ---- one choice

length_sides : (m : Match) → length (match_numbers m) ≡ 1 + length (side_numbers 0 m) + length (side_numbers 1 m)
unfolding side_numbers
length_sides m = omega (arith, length_match m, length-strs_of 0 m.includes, length-strs_of 1 m.excludes)

module _ {mem : List ℕ} {src total c at : ℕ} (w : ChoiceAt mem src total c at) where
  pub first : SideAt mem src total c 0 (at + 1)
  first =
      let s = w.source in
      record {
        list = w.list;
        source = record { slot = s.slot; below = omega (arith, s.below); total_is = s.total_is };
        in_range = w.in_range;
        sort_is = omega arith;
        room = omega (arith, w.room, length_sides (choice w.list c));
      }

  module _ {E : List ℕ} {b : ℕ} (v : Put mem E (at + 1) (side_numbers 0 (choice first.list c)) b) where
    includes-put : Put mem E (at + 1) (side_numbers 0 (choice w.list c)) b
    unfolding first
    includes-put = v

    pub second : SideAt E src total c 1 b
    second =
        record {
          list = w.list;
          source = source-below w.source (omega arith) includes-put;
          in_range = w.in_range;
          sort_is = omega arith;
          room = omega (arith, w.room, length_sides (choice w.list c), includes-put.next_is, length-put includes-put);
        }

    module _ {F : List ℕ} {e : ℕ} (u : Put E F b (side_numbers 1 (choice second.list c)) e) where
      excludes-put : Put E F b (side_numbers 1 (choice w.list c)) e
      unfolding second
      excludes-put = u

      -- the counts of both fit in a header
      pub ends : ClosingMatch (length F) at b e
      unfolding side_numbers
      ends =
          let all : strings_in (choice w.list c) ≡ length w.list = strings-choice w.list c (rw (← w.source.total_is) w.in_range) in
          closing_match at (choice w.list c) includes-put excludes-put (omega (arith, w.source.slot.few)) (omega (arith, w.room, length_sides (choice w.list c)))

      pub whole : {exit : List ℕ} → exit ≡ set F at (header_between at b e) → Put mem exit at (match_numbers (choice w.list c)) e
      unfolding side_numbers
      whole h = closed_match at (choice w.list c) includes-put excludes-put h

-- ---- all choices

-- the choices before number c are written
abbrev pub Going : List Match → List ℕ → ℕ → List ℕ → ℕ → ℕ → Type 0
Going list mem₀ at mem q c = Rows match_numbers (not_list list) (drop c (not_list list)) mem₀ mem at q

module _ {mem₀ : List ℕ} {src total at : ℕ} (w : ChoicesAt mem₀ src total at) where
  pub start : Going w.list mem₀ at mem₀ at 0
  start = rows_start

  length_all : length (not_list w.list) ≡ total
  length_all = length-not w.list ∙ sym w.source.total_is

  module _ {mem : List ℕ} {q c : ℕ} (g : Going w.list mem₀ at mem q c) where
    module _ (h : c < total) where
      split : drop c (not_list w.list) ≡ choice w.list c ∷ drop (c + 1) (not_list w.list)
      split =
          drop-cons (not_list w.list) c no_strings (omega (arith, length_all))
          ∙ ap₂ (λ m k. m ∷ drop k (not_list w.list)) (not_at w.list c (rw (← w.source.total_is) h)) (sym (add-one c))

      pub given : ChoiceAt mem src total c q
      unfolding matches_numbers
      given =
          record {
            list = w.list;
            source = source-below w.source (omega arith) g.put;
            in_range = h;
            room = rows_room g split w.room;
          }

      pub step : {mem' : List ℕ} {q' : ℕ} → Put mem mem' q (match_numbers (choice given.list c)) q' → Going w.list mem₀ at mem' q' (c + 1)
      unfolding given
      step v = rows_step g split v

    pub finish : c ≤ total → total ≤ c → Put mem₀ mem at (matches_numbers (not_list w.list)) q
    unfolding matches_numbers
    finish h k =
        let end : c ≡ length (not_list w.list) = omega (arith, length_all) in
        rows_finish g (ap (λ j. drop j (not_list w.list)) end ∙ drop-length (not_list w.list))

-- ---- a not in its slot

module _ {mem : List ℕ} {src at : ℕ} {built : Built} {size : Size} (w : SlotAt mem src) (u : SlotBelow (length mem) src at)
    (e : built ≡ built_of (not_list w.list)) (t : built ≡ Ok size) where
  pub all_of : ChoicesAt mem src size.matches (at + 2)
  all_of =
      let z = answer_made (not_list w.list) (sym t ∙ e) in
      record {
        list = w.list;
        source = record { slot = w.slot; below = omega (arith, u.below); total_is = sym z.matches_are ∙ length-not w.list };
        room = omega (arith, length_matches (not_list w.list), z.small.few, z.small.strs, u.room);
      }

  pub made : {E exit : List ℕ} {next : ℕ} → Put mem E (at + 2) (matches_numbers (not_list all_of.list)) next → exit ≡ sets E at (size.matches ∷ size.strings ∷ [])
      → Outcome (not_list w.list) mem exit at (Ok size)
  unfolding all_of
  made v f = filled (sym t ∙ e) v f
