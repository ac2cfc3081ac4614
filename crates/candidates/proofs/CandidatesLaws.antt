-- Why a part of R is enough: a string that covers a position of a range overlaps the range, so that a match of R which doesn't overlap both ranges leaves one of
-- the edges of a match of L uncovered.
use Prim.Native.Nat.{ℕ, ◌+◌, ◌≤◌}
use native.Mathlib.Omega.{arith}
use mathlib.Core.Path.{◌≡◌, refl, sym, ◌∙◌}
use mathlib.Core.Bool.{Bool, true, false, ◌&&◌, ◌||◌, or-true}
use mathlib.Core.List.{List, [], ◌∷◌}
use borrow.Author.Tests.{le-leb, leb-true}
use lib.Dec.{leb}
use Rattle.model.specs.Lists.{any_of}
use Rattle.model.specs.Matches.{Str, Match}
use Rattle.model.specs.Rules.{covered, covers, has_uncovered}
use Rattle.model.proofs.TestsLaws.{both_true, and-join, false-true}
use Rattle.store.specs.Layout.{slot_length, slot_size}
use Rattle.store.specs.Put.{Put}
use Rattle.store.specs.Slot.{SlotHolds}
use Rattle.store.specs.Stream.{Remaining}
use Rattle.store.proofs.StreamLaws.{remaining_below}
use Rattle.strings.specs.Covering.{overlaps}
use Rattle.candidates.specs.declared.Candidates.{Candidates}
use Rattle.strings.specs.declared.positions.Run.{Run}
use Rattle.std.specs.Prelude.{Option, None, Some}
use Rattle.candidates.specs.declared.edges.Ranges.{Ranges}
use Rattle.candidates.specs.Edges.{Within}
use Rattle.candidates.specs.Candidates.{CandidatesAre, KnownAre}
use Rattle.candidates.specs.Overlapping.{overlap_both, any_in_range}
use Rattle.candidates.specs.Passing.{from_first, up_to_last}
use Rattle.candidates.proofs.UncoveredLaws.{uncovered-at}
use Rattle.candidates.proofs.PassingLaws.{all_from_first, all_up_to_last, length-up_to_last}

-- ---- any_in_range

covers-overlaps : (range : Run) (p : ℕ) → Within range p → (s : Str) → covers s p ≡ true → overlaps range.lo.0 range.hi.0 s ≡ true
covers-overlaps range p w s e =
    let both = both_true (leb s.start p) (leb p s.end) e in
    let a = leb-true s.start p both.0 in
    let b = leb-true p s.end both.1 in
    and-join (le-leb s.start range.hi.0 (omega arith)) (le-leb range.lo.0 s.end (omega arith))

covered-overlaps : (range : Run) (p : ℕ) → Within range p → (ss : List Str) → covered ss p ≡ true → any_in_range range ss ≡ true
unfolding any_of
covered-overlaps range p w [] e = false-true e
covered-overlaps range p w (s ∷ ss) e = at (covers s p) refl e (covered-overlaps range p w ss)
  where
    at : (b : Bool) → covers s p ≡ b → (b || covered ss p) ≡ true → (covered ss p ≡ true → any_in_range range ss ≡ true) → (overlaps range.lo.0 range.hi.0 s || any_in_range range ss) ≡ true
    at true c e later = rw (covers-overlaps range p w s c)
    at false c e later = rw (later e) (or-true (overlaps range.lo.0 range.hi.0 s))

-- what has no position in the range isn't covered
apart-uncovered : (range : Run) (p : ℕ) → Within range p → (ss : List Str) → any_in_range range ss ≡ false → covered ss p ≡ false
apart-uncovered range p w ss e = at (covered ss p) refl
  where
    at : (b : Bool) → covered ss p ≡ b → b ≡ false
    at true c = false-true (sym e ∙ covered-overlaps range p w ss c)
    at false c = refl

-- ---- a match of L that covers two positions

module _ (l : Match) (p q : ℕ) (e : covered l.includes p ≡ true) (f : covered l.includes q ≡ true) where
  -- .. has an uncovered position beside a match that doesn't cover one of them ..
  either : (m : Match) (s t : Bool) → (s ≡ false → covered m.includes p ≡ false) → (t ≡ false → covered m.includes q ≡ false) → (s && t) ≡ false → has_uncovered l m ≡ true
  either m true true a b c = false-true (sym c)
  either m true false a b c = uncovered-at l.includes m.includes q f (b refl)
  either m false t a b c = uncovered-at l.includes m.includes p e (a refl)

  -- .. so beside one that doesn't cover both ..
  pub uncovered-both : (m : Match) → (covered m.includes p && covered m.includes q) ≡ false → has_uncovered l m ≡ true
  uncovered-both m = either m (covered m.includes p) (covered m.includes q) (λ z. z) (λ z. z)

  -- .. and beside one that doesn't overlap both ranges with these positions
  pub uncovered-apart : (ranges : Ranges) → Within ranges.start p → Within ranges.end q → (m : Match) → overlap_both ranges m.includes ≡ false → has_uncovered l m ≡ true
  uncovered-apart ranges v w m =
      either m (any_in_range ranges.start m.includes) (any_in_range ranges.end m.includes) (apart-uncovered ranges.start p v m.includes) (apart-uncovered ranges.end q w m.includes)

-- ---- the part of R

module _ {mem : List ℕ} {r : ℕ} {rights : List Match} (slot : SlotHolds mem r rights) where
  -- from the first match on that overlaps both ranges up to the last one
  pub candidates-part : {ranges : Ranges} {stop from end : ℕ} → stop ≡ r + slot_length mem r → Remaining (from_first (overlap_both ranges) rights) mem from stop
      → Remaining (up_to_last (overlap_both ranges) (from_first (overlap_both ranges) rights)) mem from end → CandidatesAre rights mem r (record { ranges = ranges; from = from; end = end })
  candidates-part {ranges} e g h =
      let test = overlap_both ranges in
      record {
        part = up_to_last test (from_first test rights);
        stream = h;
        within = omega (arith, e, slot.header, g.up_to, h.up_to, length-up_to_last test (from_first test rights));
        same = λ p q v w l c d.
            let miss = uncovered-apart l p q c d ranges v w in
            all_up_to_last l test miss (from_first test rights) ∙ all_from_first l test miss rights;
      }

-- stores above R leave the part
pub known-below : {mem mem' : List ℕ} {q next : ℕ} {xs : List ℕ} → Put mem mem' q xs next → (r : ℕ) → r + slot_size ≤ q → (rights : List Match) (known : Option Candidates)
    → KnownAre rights mem r known → KnownAre rights mem' r known
known-below v r h rights None n = tt
known-below v r h rights (Some candidates) n =
    record {
      part = n.part;
      stream = remaining_below v (omega (arith, n.within)) n.stream;
      within = n.within;
      same = n.same;
    }
