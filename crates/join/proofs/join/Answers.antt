use Rattle.std.proofs.Common.{arith, sym, ◌∙◌, ◌<◌, ◌^◌, get_or}
use Rattle.join.proofs.JoinLaws.{start_bound, end_bound, join-numbers}
use Rattle.join.proofs.join.Goals as goal

pub new-requires-clause-positions : goal.new-requires-clause-positions
new-requires-clause-positions c =
    let l = c.args.strs.now in
    let first : get_or l 0 0 < 2 ^ 32 = omega (arith, c.type_inv.strs 0) in
    (omega (arith, start_bound l first, c.in_ok-run.ensures.lo_value), omega (arith, end_bound l, c.in_ok-run.ensures.hi_value))

pub returns : goal.returns
returns c =
    join-numbers _ _ _ _ _ _ c.in_ok-run.ensures (sym c.strings_in.ensures ∙ c.in_ok-first.ensures.steps) c.joins_contiguous.ensures c.new.ensures.span_value (rw c.query.ensures at c.new.ensures.tag_value)
