-- A match of L against the matches of R, and the loop over L. Two positions that it covers decide for every match of R that doesn't cover both, and a search for
-- a position decides for the others.
use Rattle.std.proofs.Common.{◌≡◌, ℕ, ◌+◌, ◌-◌, ◌<◌, ◌≤◌, Bool, true, false, cond, eqb, List, [], ◌∷◌, length, get_or, take, drop, sym, refl, ap, ◌∙◌, subst, arith, ne_eqb}
use Rattle.model.specs.Lists.{all_of, any_of}
use Rattle.model.specs.Matches.{Match}
use Rattle.model.specs.declared.Position.{Position}
use Rattle.model.specs.Rules.{covered, kept_if, mild_not_list, has_uncovered}
use Rattle.strings.specs.Strings.{strs_at}
use Rattle.store.specs.declared.bounds.Bounds.{Bounds}
use Rattle.store.specs.declared.Size.{Size}
use Rattle.std.specs.Prelude.{Option, None, Some, Ok}
use Rattle.std.specs.List.{copy_within}
use Rattle.store.specs.Layout.{BoundsOf, matches_at, match_length, matches_numbers, slot_size}
use Rattle.store.specs.Outcome.{Closed, Outcome}
use Rattle.store.specs.Put.{Put}
use Rattle.store.specs.Slot.{SlotHolds}
use Rattle.store.specs.Stream.{Remaining, RemainingAt, SearchInvariant}
use Rattle.store.proofs.DecodeLaws.{includes-lent}
use Rattle.store.proofs.EachLaws.{Counting, item, count_step, count_finish}
use Rattle.store.proofs.PutLaws.{length-kept, put-copied, put-kept, put_dropped}
use Rattle.store.proofs.SlotsLaws.{slot-below, closed, matches_held}
use Rattle.store.proofs.StreamLaws.{Next, next-at, none-at, search_here, search_none}
use Rattle.candidates.specs.declared.edges.Edges.{Edges}
use Rattle.candidates.specs.declared.Candidates.{Candidates}
use Rattle.mild_not.specs.Uncovered.{cover_both, mild_not, FoundUncovered}
use Rattle.candidates.specs.Edges.{edges_of, Contains}
use Rattle.candidates.specs.Candidates.{CandidatesAt, CandidatesAre, KnownAre}
use Rattle.mild_not.specs.Keeps.{KeptIs, SearchAt}
use Rattle.candidates.specs.Passing.{from_first}
use Rattle.candidates.proofs.UncoveredLaws.{uncovered-at}
use Rattle.mild_not.proofs.UncoveredLaws.{mild_not-flat_map, mild_not-small}
use Rattle.candidates.proofs.CandidatesLaws.{uncovered-both}
use Rattle.candidates.proofs.EdgesLaws.{edges-covered, no-edges}
use Rattle.candidates.proofs.PassingLaws.{all_from_first}

-- ---- the walk over a part of R

-- the matches of R from `at` on decide as all do, and the includes of l cover the last position found
pub record Against (l : Match) (rights : List Match) (mem : List ℕ) (at end last : ℕ) : Type 0 where
  pub search : SearchInvariant (all_of (has_uncovered l) rights) (all_of (has_uncovered l)) mem at end
  pub within : covered l.includes last ≡ true

module _ {mem : List ℕ} {p from end : ℕ} {edges : Edges} (w : SearchAt mem p edges from end) where
  -- before the first match of R that covers the edges
  pub against_start : {at : ℕ} → Remaining (from_first (cover_both edges.end.0 edges.start.0) w.rights) mem at end → Against w.item w.rights mem at end edges.start.0
  against_start left =
      let both = edges-covered w.item.includes w.held.valid.includes w.edges_are in
      record { search = record { todo = _; left = left; same = all_from_first w.item _ (uncovered-both w.item _ _ both.1 both.0) w.rights }; within = both.0 }

  module _ {at last : ℕ} (g : Against w.item w.rights mem at end last) where
    module _ (h : at < end) where
      N : Next g.search.todo mem at end
      N = next-at g.search.left h

      module _ {L R : Bounds} (l : BoundsOf (get_or mem p 0) p L) (r : BoundsOf (get_or mem at 0) at R) {ls rs : List ℕ}
          (l_is : ls ≡ take (L.excludes - L.includes) (drop L.includes mem)) (r_is : rs ≡ take (R.excludes - R.includes) (drop R.includes mem)) (found : Option Position)
          (test : FoundUncovered (strs_at ls) (strs_at rs) found) where
        -- the search against the match of R in hand, as its parts are lent
        found-uncovered : FoundUncovered w.item.includes N.first.includes found
        found-uncovered =
            subst (λ ss. FoundUncovered ss N.first.includes found) (includes-lent w.held l l_is)
            (subst (λ ss. FoundUncovered (strs_at ls) ss found) (includes-lent N.held r r_is) test)

        pub against_covered : found ≡ None → false ≡ all_of (has_uncovered w.item) w.rights
        unfolding all_of
        against_covered none =
            let covered-first : has_uncovered w.item N.first ≡ false = subst (FoundUncovered w.item.includes N.first.includes) none found-uncovered in
            let decided : all_of (has_uncovered w.item) (N.first ∷ N.rest) ≡ false = rw covered-first in
            sym decided ∙ search_here g.search N

        -- what is left after it
        pub against_left : {next : ℕ} → next ≡ at + match_length (get_or mem at 0) → RemainingAt mem next end
        against_left e = record { list = N.rest; stream = N.after _ e }

        pub against_next : {next : ℕ} (e : next ≡ at + match_length (get_or mem at 0)) {q : Position} {at' : ℕ} → found ≡ Some q → Remaining (from_first (cover_both q.0 last) (against_left e).list) mem at' end
            → Against w.item w.rights mem at' end q.0
        unfolding all_of against_left
        against_next e {q} some left =
            let at_q = subst (FoundUncovered w.item.includes N.first.includes) some found-uncovered in
            let uncovered-first : has_uncovered w.item N.first ≡ true = uncovered-at w.item.includes N.first.includes q.0 at_q.0 at_q.1 in
            let one_more : all_of (has_uncovered w.item) (N.first ∷ N.rest) ≡ all_of (has_uncovered w.item) N.rest = rw uncovered-first in
            let rest = all_from_first w.item _ (uncovered-both w.item q.0 last at_q.0 g.within) N.rest in
            record {
              search = record { todo = _; left = left; same = rest ∙ sym one_more ∙ search_here g.search N };
              within = at_q.0;
            }

    pub against_end : end ≤ at → true ≡ all_of (has_uncovered w.item) w.rights
    unfolding all_of
    against_end h = search_none g.search (none-at g.search.left h)

-- ---- a match of L against R

-- a match without includes has no uncovered position
none-uncovered : (l : Match) → l.includes ≡ [] → (rs : List Match) → eqb (length rs) 0 ≡ all_of (has_uncovered l) rs
unfolding all_of any_of
none-uncovered l e [] = refl
none-uncovered l e (r ∷ rs) =
    let some : eqb (length (r ∷ rs)) 0 ≡ false = ne_eqb (length (r ∷ rs)) 0 (λ z. absurd (omega arith)) in
    let within : all_of (has_uncovered l) (r ∷ rs) ≡ false = rw e in
    some ∙ sym within

module _ {mem : List ℕ} {p n r : ℕ} {known : Option Candidates} (w : CandidatesAt mem p n r known) where
  pub without_includes : {edges : Option Edges} {k : ℕ} → edges ≡ edges_of w.item.includes → edges ≡ None → k ≡ matches_at mem r → KeptIs w.item w.rights mem r known (eqb k 0)
  without_includes e f g =
      let none = no-edges w.item.includes (sym e ∙ f) in
      record { kept = ap (λ n. eqb n 0) (g ∙ matches_held w.slot) ∙ none-uncovered w.item none w.rights; candidates = w.candidates }

  module _ {edges : Edges} (e : edges_of w.item.includes ≡ Some edges) {part : Candidates} (g : CandidatesAre w.rights mem r part) where
    abbrev pub search_at : SearchAt mem p edges part.from part.end
    search_at = record { item = w.item; held = w.held; edges_are = e; rights = g.part; stream = g.stream }

    pub by_search : {b : Bool} → Contains part.ranges edges → b ≡ all_of (has_uncovered w.item) g.part → KeptIs w.item w.rights mem r (Some part) b
    by_search h f =
        let both = edges-covered w.item.includes w.held.valid.includes e in
        record { kept = f ∙ g.same _ _ h.0 h.1 w.item both.0 both.1; candidates = g }

-- ---- a match of L in hand

module _ (rights : List Match) {lefts : List Match} {mem₀ mem : List ℕ} {n at p q i matches : ℕ} (g : Counting (mild_not rights) lefts mem₀ n at mem p q i matches) (h : i < n) where
  -- R lies below what is written, so it lies there still
  abbrev pub answer_at : {r k : ℕ} {known : Option Candidates} → SlotHolds mem₀ r rights → r + slot_size ≤ at → KnownAre rights mem r known → k ≡ n - i → CandidatesAt mem p k r known
  answer_at s u known e =
      let o = item g.going h in
      record {
        item = o.item;
        rights = rights;
        held = o.one.held;
        ahead = record { list = g.going.todo; end = g.going.end; stream = g.going.left; count = omega (arith, g.going.count, e) };
        slot = slot-below g.going.rows.put u s;
        candidates = known;
      }

  module _ {b : Bool} (e : b ≡ all_of (has_uncovered (item g.going h).item) rights) where
    made : mild_not rights (item g.going h).item ≡ kept_if b (item g.going h).item
    unfolding mild_not
    made = ap (λ t. kept_if t (item g.going h).item) (sym e)

    -- where it is kept there is room for it ..
    pub kept-room : b ≡ true → q + match_length (get_or mem p 0) ≤ length mem
    kept-room f =
        let o = item g.going h in
        omega (arith, o.one.room, ap (λ ms. length (matches_numbers ms)) made, length-kept {test = b} o.one.held f)

    module _ {mem' : List ℕ} {p' next : ℕ} (p_is : p' ≡ p + match_length (get_or mem p 0)) where
      -- .. and it is copied and counted
      pub kept-put : b ≡ true → next ≡ q + (p' - p) → mem' ≡ copy_within mem p p' q → Put mem mem' q (matches_numbers (kept_if b (item g.going h).item)) next
      kept-put f next_is copied =
          put-kept {test = b} (item g.going h).item f (put-copied (item g.going h).one.held p_is (omega (arith, p_is, next_is)) (omega (arith, kept-room f, p_is, next_is)) copied)

      -- .. and where not nothing is written
      pub dropped-put : b ≡ false → next ≡ q → mem' ≡ mem → Put mem mem' q (matches_numbers (kept_if b (item g.going h).item)) next
      dropped-put f next_is same =
          subst (λ m. Put mem m q (matches_numbers (kept_if b (item g.going h).item)) next) (sym same)
          (subst (λ n. Put mem mem q (matches_numbers (kept_if b (item g.going h).item)) n) (sym next_is) (put_dropped {test = b} (item g.going h).item mem q f))

      pub keep-next : {matches' : ℕ} → Put mem mem' q (matches_numbers (kept_if b (item g.going h).item)) next → matches' ≡ matches + cond b 1 0
          → Counting (mild_not rights) lefts mem₀ n at mem' p' next (i + 1) matches'
      keep-next v m_is =
          count_step g h (subst (λ ms. Put mem mem' q (matches_numbers ms) next) (sym made) v) p_is
          (m_is ∙ ap (λ k. matches + k) (one b ∙ ap length (sym made)))
        where
          one : (t : Bool) → cond t 1 0 ≡ length (kept_if t (item g.going h).item)
          one true = refl
          one false = refl

-- all of L gone through, and the slot closed
pub mild_not_closed : {lefts : List Match} (rights : List Match) {mem₀ mem exit : List ℕ} {l n at p q i matches : ℕ} {size : Size} → SlotHolds mem₀ l lefts
    → Counting (mild_not rights) lefts mem₀ n (at + 2) mem p q i matches → n ≤ i → Closed mem exit at q matches size
    → Outcome (mild_not_list lefts rights) mem₀ exit at (Ok size)
mild_not_closed rights s g h c = rw mild_not-flat_map (closed (mild_not-small rights s) (count_finish g h) c)
