use Rattle.std.proofs.Common.{◌≡◌, ◌+◌, ◌-◌, ◌≤◌, false, cond, get_or, length, true, refl, sym, ap, ◌∙◌, arith, rules}
use Rattle.store.specs.Layout.{match_length}
use Rattle.store.specs.Slot.{TwoSlots}
use Rattle.store.proofs.EachLaws.{item, slot-each, count-start, count_most, count_finish}
use Rattle.store.proofs.SlotsLaws.{closing}
use Rattle.candidates.specs.Candidates.{CandidatesAt}
use Rattle.candidates.proofs.CandidatesLaws.{known-below}
use Rattle.mild_not.specs.Keeps.{KeptIs}
use Rattle.mild_not.proofs.UncoveredLaws.{mild_not-small}
use Rattle.mild_not.proofs.KeepsLaws.{answer_at, kept-room, kept-put, dropped-put, keep-next, mild_not_closed}
use Rattle.mild_not.proofs.mild_not_list.Goals as goal
use Rattle.mild_not.proofs.mild_not_list.Goals.{After-is_kept, In-loop-i, then-is_kept, else-is_kept}

-- the match of L in hand, with what is known of R
abbrev one : (c : In-loop-i)
    → CandidatesAt c.loop-i.mem c.loop-i.left (c.size_at-n.result.matches - c.loop-i.i) c.args.r c.loop-i.known
one c =
    let w = c.requires.two_slots in
    let g = c.loop-i.invariant.1 w in
    answer_at w.rights g.0 c.loop-i-test.true w.right (omega (arith, c.requires.slot_below_2.below)) g.1 refl

pub loop-i-init : goal.loop-i-init
loop-i-init c = (
  refl,
  λ w. (count-start (slot-each w.left c.requires.slot_below (mild_not-small w.rights w.left) _ c.size_at-n.ensures.matches), tt),
)

pub match_end-end-requires : goal.match_end-end-requires
match_end-end-requires c = (one c).held.header

pub is_kept-requires : goal.is_kept-requires
is_kept-requires c = one (goal.at.is_kept-requires c).In-loop-i

-- it lies below what is written
below : (c : In-loop-i) → c.loop-i.left + match_length (get_or c.loop-i.mem c.loop-i.left 0) ≤ c.loop-i.q
below c = (item (c.loop-i.invariant.1 c.requires.two_slots).0.going c.loop-i-test.true).one.below

-- the answer for it
answer : (c : After-is_kept) (w : TwoSlots c.args.mem.now c.args.l c.args.r)
    → KeptIs (item (c.loop-i.invariant.1 w).0.going c.loop-i-test.true).item w.rights c.loop-i.mem c.args.r c.is_kept.new.known c.is_kept.result
answer c w =
    let g = c.loop-i.invariant.1 w in
    c.is_kept.ensures (answer_at w.rights g.0 c.loop-i-test.true w.right (omega (arith, c.requires.slot_below_2.below)) g.1 refl)

-- where it is kept there is room for it
room : (c : After-is_kept) → c.is_kept.result ≡ true → c.loop-i.q + (c.match_end-end.result - c.loop-i.left) ≤ length c.loop-i.mem
room c e =
    let w = c.requires.two_slots in
    omega (arith, kept-room w.rights (c.loop-i.invariant.1 w).0 c.loop-i-test.true (answer c w).kept e, c.match_end-end.ensures)

pub copy_up-requires : goal.copy_up-requires
copy_up-requires c =
    let p = (goal.at.copy_up-requires c).In-loop-i in
    let fits = room (goal.at.copy_up-requires c).After-is_kept c.if-is_kept.true in
    omega (arith, one p, fits, c.match_end-end.ensures, below p)

pub overflow_add-q-then-is_kept : goal.overflow_add-q-then-is_kept
overflow_add-q-then-is_kept c = omega (arith, room (goal.at.overflow_add-q-then-is_kept c).After-is_kept c.if-is_kept.true)

pub overflow_add-matches : goal.overflow_add-matches
overflow_add-matches c =
    let w = c.requires.two_slots in
    omega (arith, count_most (c.loop-i.invariant.1 w).0, mild_not-small w.rights w.left)

pub loop-i-preserved : goal.loop-i-preserved
loop-i-preserved c =
    let low = c.requires.slot_below_2.below in
    elim c.if-is_kept.branch [
      | then-is_kept b ↦ (
        search rules,
        λ w.
            let g = c.loop-i.invariant.1 w in
            let a = answer (goal.at.loop-i-preserved c).After-is_kept w in
            let put = kept-put w.rights g.0 c.loop-i-test.true a.kept c.match_end-end.ensures b.if-is_kept.true b.q-is (b.mem-is ∙ b.copy_up.ensures) in
            let more = b.matches-is ∙ ap (λ t. c.loop-i.matches + cond t 1 0) (sym b.if-is_kept.true) in
            (keep-next w.rights g.0 c.loop-i-test.true a.kept c.match_end-end.ensures put more, known-below put c.args.r (omega (arith, g.0.going.rows.put.next_is)) w.rights _ a.candidates),
      )
      | else-is_kept b ↦ (
        search rules,
        λ w.
            let g = c.loop-i.invariant.1 w in
            let a = answer (goal.at.loop-i-preserved c).After-is_kept w in
            let put = dropped-put w.rights g.0 c.loop-i-test.true a.kept c.match_end-end.ensures b.if-is_kept.false b.q-is b.mem-is in
            let same : c.if-is_kept.matches ≡ c.loop-i.matches + cond false 1 0 = omega arith in
            let more = same ∙ ap (λ t. c.loop-i.matches + cond t 1 0) (sym b.if-is_kept.false) in
            (keep-next w.rights g.0 c.loop-i-test.true a.kept c.match_end-end.ensures put more, known-below put c.args.r (omega (arith, g.0.going.rows.put.next_is)) w.rights _ a.candidates),
      )
    ]

pub close_slot-requires : goal.close_slot-requires
close_slot-requires c =
    let w = c.requires.two_slots in
    closing (mild_not-small w.rights w.left) (count_finish (c.loop-i.invariant.1 w).0 c.loop-i-test.false) c.requires.slot_below.room

pub returns : goal.returns
returns c w = mild_not_closed w.rights w.left (c.loop-i.invariant.1 w).0 c.loop-i-test.false c.close_slot.ensures
