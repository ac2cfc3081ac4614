-- The list is sized first, so there is room for all of it.
use borrow.Author.Rules.{rules}
use mathlib.Core.Path.{sym, ◌∙◌}
use Prim.Native.Nat.{◌+◌}
use Rattle.model.specs.Rules.{window}
use Rattle.store.specs.Each.{Each}
use Rattle.store.specs.Slot.{SlotAt}
use Rattle.store.proofs.EachLaws.{slot-each}
use Rattle.store.proofs.SlotsLaws.{answer_made, filled, refused}
use Rattle.window.proofs.window_list.Goals as goal
use Rattle.window.proofs.window_list.Goals.{After-size_at-count}

each : (c : After-size_at-count) (w : SlotAt c.args.mem.now c.args.src) → Each (window c.args.n) w.list c.args.mem.now (c.args.src + 2) c.size_at-count.result.matches (c.args.at + 2)
each c w = slot-each w.slot c.requires.slot_below (answer_made _ (sym c.in_ok-size.was ∙ c.window_size.ensures w)).small _ c.size_at-count.ensures.matches

pub returns-in_err-size : goal.returns-in_err-size
returns-in_err-size c w = refused (c.window_size.ensures w) c.in_err-size.was c.from_residual.ensures.0

pub each_match-requires : goal.each_match-requires
each_match-requires c =
    let width = c.requires.window_size in
    let w = c.requires.slot_at in
    record {
      rule = window c.args.n;
      list = w.list;
      each = each (goal.at.each_match-requires c).After-size_at-count w;
      may = λ m p q written v o. search rules;
      does = λ m m' p q next written v o f. search rules;
    }

pub returns : goal.returns
returns c w =
    let width = c.requires.window_size in
    let v = c.each_match.ensures
    (record {
      rule = window c.args.n;
      list = w.list;
      each = each (goal.at.returns c).After-size_at-count w;
      may = λ m p q written u o. search rules;
      does = λ m m' p q next written u o f. search rules;
    }) in
    filled (sym c.in_ok-size.was ∙ c.window_size.ensures w) v c.put_slot_header.ensures
