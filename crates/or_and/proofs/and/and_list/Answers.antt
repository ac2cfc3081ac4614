-- The product is sized first, so there is room for all of it; the right list lies below what is written, so each left match is joined with all of it (AndLaws).
use Prim.Native.Nat.{◌+◌}
use borrow.Author.Rules.{rules}
use mathlib.Core.Path.{sym, ◌∙◌}
use Rattle.store.specs.Each.{Each}
use Rattle.store.specs.Slot.{TwoSlots}
use Rattle.store.proofs.SlotsLaws.{refused, filled}
use Rattle.or_and.proofs.AndLaws.{row_of, and-each, and_item, and_put, and_whole}
use Rattle.or_and.proofs.and.and_list.Goals as goal
use Rattle.or_and.proofs.and.and_list.Goals.{After-size_at-n}

each : (c : After-size_at-n) (w : TwoSlots c.args.mem.now c.args.l c.args.r) → Each (row_of w.rights) w.lefts c.args.mem.now (c.args.l + 2) c.size_at-m.result.matches (c.args.at + 2)
each c w = and-each w (sym c.in_ok-size.was ∙ c.and_size.ensures w) c.requires.slot_below c.size_at-m.ensures.matches

pub returns-in_err-size : goal.returns-in_err-size
returns-in_err-size c w = refused (c.and_size.ensures w) c.in_err-size.was c.from_residual.ensures.0

pub each_match-requires : goal.each_match-requires
each_match-requires c =
    let w = c.requires.two_slots in
    let low = c.requires.slot_below_2.below in
    let n = c.size_at-n.ensures.matches in
    record {
      rule = row_of w.rights;
      list = w.lefts;
      each = each (goal.at.each_match-requires c).After-size_at-n w;
      may = λ m p q written v o. let x = and_item w low n v o in search rules;
      does = λ m m' p q next written v o f. and_put w low n v o (search rules);
    }

pub returns : goal.returns
returns c w =
    let low = c.requires.slot_below_2.below in
    let n = c.size_at-n.ensures.matches in
    let v = c.each_match.ensures
    (record {
      rule = row_of w.rights;
      list = w.lefts;
      each = each (goal.at.returns c).After-size_at-n w;
      may = λ m p q written u o. let x = and_item w low n u o in search rules;
      does = λ m m' p q next written u o f. and_put w low n u o (search rules);
    }) in
    filled (sym c.in_ok-size.was ∙ c.and_size.ensures w) (and_whole w v) c.put_slot_header.ensures
