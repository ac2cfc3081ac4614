-- Invariant: what the filter makes of the matches passed is written after the header, and counted. The law for rules that go match by match, where one match at
-- most is made of each.
use Rattle.std.proofs.Common.{◌≡◌, ◌+◌, length}
use Rattle.model.specs.Rules.{kept}
use Rattle.store.specs.Slot.{SlotAt}
use Rattle.store.proofs.EachLaws.{Counting}
use Rattle.filters.proofs.kept.kept_list.Given as goal

abbrev pub invariant-loop : goal.invariant-loop
invariant-loop g l =
    (length l.mem ≡ length l.initial.mem)
    × ((w : SlotAt l.initial.mem l.src) → Counting (kept (g.K.Keeper.keeping l.keeper)) w.list l.initial.mem l.n (l.at + 2) l.mem l.from l.q l.counter l.matches)
