-- The known part, or the one from the first match that overlaps both new ranges up to the last.
use mathlib.Core.Path.{refl, sym, ◌∙◌, subst}
use Rattle.store.proofs.SlotsLaws.{slot-stream}
use Rattle.candidates.specs.Candidates.{KnownAre}
use Rattle.candidates.proofs.CandidatesLaws.{candidates-part}
use Rattle.candidates.proofs.EdgesLaws.{ahead_contains, contain_contains}
use Rattle.candidates.proofs.candidates_for.Goals as goal

pub returns-then-contain : goal.returns-then-contain
returns-then-contain c w =
    (subst (KnownAre w.rights c.args.mem.now c.args.r) c.in-Some.is w.candidates, contain_contains _ _ (sym c.contain.ensures ∙ c.if-contain.true))

pub first_overlapping-from-requires : goal.first_overlapping-from-requires
first_overlapping-from-requires c = record { list = c.requires.rights; stream = slot-stream c.requires.slot _ _ refl c.slot_end-stop.ensures }

pub end_of_overlapping-end-requires : goal.end_of_overlapping-end-requires
end_of_overlapping-end-requires c =
    record { list = _; stream = c.first_overlapping-from.ensures (record { list = c.requires.rights; stream = slot-stream c.requires.slot _ _ refl c.slot_end-stop.ensures }) }

pub returns : goal.returns
returns c w =
    let stop = c.slot_end-stop.ensures in
    let from = c.first_overlapping-from.ensures (record { list = w.rights; stream = slot-stream w.slot _ _ refl stop }) in (
      candidates-part w.slot stop from (c.end_of_overlapping-end.ensures (record { list = _; stream = from })),
      ahead_contains _ _ (c.ranges_ahead-ranges.ensures w.ahead),
    )
