-- The sums of the headers are the sizes (or-sizes). Where they are within the limits the right list's matches fit after the left list's, below where they were.
use mathlib.Core.Path.{◌≡◌, sym, ◌∙◌}
use Rattle.model.specs.Rules.{or_list}
use Rattle.store.specs.Built.{built_of}
use Rattle.store.specs.Slot.{TwoSlots}
use Rattle.or_and.proofs.OrLaws.{or-sizes, or_filled}
use Rattle.store.proofs.SlotsLaws.{refused}
use Rattle.or_and.proofs.or.or_list.Goals as goal
use Rattle.or_and.proofs.or.or_list.Goals.{After-sized}

-- the size by the headers of both
size_is : (c : After-sized) → (w : TwoSlots c.args.mem.now c.args.l c.args.r) → c.sized.result ≡ built_of (or_list w.lefts w.rights)
size_is c w =
    c.sized.ensures ∙ or-sizes w c.size_at-left.ensures.matches c.size_at-right.ensures.matches c.size_at-left.ensures.strings c.size_at-right.ensures.strings

pub returns-in_err-size : goal.returns-in_err-size
returns-in_err-size c w = refused (size_is (goal.at.returns-in_err-size c).After-sized w) c.in_err-size.was c.from_residual.ensures.0

pub returns : goal.returns
returns c w =
    or_filled w (sym c.in_ok-size.was ∙ size_is (goal.at.returns c).After-sized w) c.slot_end-to.ensures c.slot_end-end.ensures c.requires.slot_size_bound
    c.copy_within.ensures.after c.put_slot_header.ensures
