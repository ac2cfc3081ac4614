-- The header says where the first match's strings end; what is after them is whole again (LentLaws).
use Prim.Native.Nat.{◌-◌}
use native.Mathlib.Omega.{arith}
use mathlib.Core.Path.{sym, ap, ◌∙◌}
use lib.ListN.{length, take, drop, get_or}
use Rattle.store.proofs.LentLaws.{NextWhole, next_of, after_whole, next_read, none_left}
use Rattle.store.proofs.lent.MatchesIterator.next.Goals as goal
use Rattle.store.proofs.lent.MatchesIterator.next.Goals.{In-len1-up}

here : (c : In-len1-up) → NextWhole c.self.inside.rest.now (get_or c.self.inside.rest.now 0 0) (take (length c.self.inside.rest.now - 1) (drop 1 c.self.inside.rest.now))
here c = next_of _ c.self.invariant c.in-len1-up.len_at_least

pub returns-in_default-clause-steps : goal.returns-in_default-clause-steps
returns-in_default-clause-steps c = let e = sym c.self.view_is ∙ none_left _ c.in_default.len_below in (e, e)

pub split_at-requires : goal.split_at-requires
split_at-requires c = omega (arith, (here (goal.at.split_at-requires c).In-len1-up).shape.long, c.includes.ensures)

pub split_at-requires-2 : goal.split_at-requires-2
split_at-requires-2 c = omega (arith, (here (goal.at.split_at-requires-2 c).In-len1-up).shape.long, c.includes.ensures, c.excludes.ensures, c.split_at.ensures.back_len)

pub invariant_of-self : goal.invariant_of-self
invariant_of-self c =
    after_whole (here (goal.at.invariant_of-self c).In-len1-up) c.includes.ensures c.excludes.ensures c.split_at.ensures.front c.split_at.ensures.back c.split_at-2.ensures.front
    c.split_at-2.ensures.back

pub returns-clause-steps : goal.returns-clause-steps
returns-clause-steps c =
    sym c.self.view_is
    ∙ next_read (here (goal.at.returns-clause-steps c).In-len1-up) c.includes.ensures c.excludes.ensures c.split_at.ensures.front c.split_at.ensures.back c.split_at-2.ensures.front
    c.split_at-2.ensures.back

pub returns-clause-goes : goal.returns-clause-goes
returns-clause-goes c =
    let steps = sym c.self.view_is
    ∙ next_read (here (goal.at.returns-clause-goes c).In-len1-up) c.includes.ensures c.excludes.ensures c.split_at.ensures.front c.split_at.ensures.back c.split_at-2.ensures.front
    c.split_at-2.ensures.back in
    let e = ap length steps in
    record { on = λ k. (tt, tt, omega (arith, e)); keeps = tt; rests = λ _. tt }
