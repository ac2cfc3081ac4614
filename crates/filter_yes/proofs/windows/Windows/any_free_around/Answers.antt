use Rattle.std.proofs.Common.{arith, rules, ap, sym, not, List, ◌≡◌, ◌≢◌, ◌<◌, ◌≤◌, ◌+◌, ◌-◌, ◌∙◌}
use borrow.Author.Tests.{tests}
use Rattle.model.specs.Lists.{all_of, from_to}
use Rattle.model.specs.Matches.{Str}
use Rattle.model.specs.Rules.{covered}
use Rattle.strings.specs.Strings.{strs_at}
use Rattle.strings.proofs.CoveringLaws.{all_range_empty, all_range-false, advanced_up, advanced_stuck, covered-advanced}
use Rattle.filter_yes.specs.Windows.{taken}
use Rattle.filter_yes.proofs.windows.Windows.any_free_around.Goals as goal

pub returns-then-eq : goal.returns-then-eq
returns-then-eq c =
    let ss : List Str = taken c.args.self.n (strs_at c.args.excludes.now) in
    let same : c.advance-next.result.0 ≡ c.loop-self.last.0 = search (rules, tests) in
    let in-run : c.loop-self.last.0 < c.args.run.lo.0 + c.args.self.n = search (rules, tests) in
    let stuck = advanced_stuck c.loop-self.last.0 ss (sym c.advance-next.ensures ∙ same) in
    sym (ap not (c.loop-self.invariant ∙ all_range-false (covered ss) _ _ (omega arith) stuck))

pub loop-self-smaller : goal.loop-self-smaller
loop-self-smaller c =
    let up = advanced_up c.loop-self.last.0 (taken c.args.self.n (strs_at c.args.excludes.now)) in
    let moved : c.advance-next.result.0 ≢ c.loop-self.last.0 = search (rules, tests) in
    let in-run : c.loop-self.last.0 < c.args.run.lo.0 + c.args.self.n = search (rules, tests) in
    omega arith

pub loop-self-preserved : goal.loop-self-preserved
loop-self-preserved c =
    let ss : List Str = taken c.args.self.n (strs_at c.args.excludes.now) in
    let end = c.args.run.lo.0 + c.args.self.n - 1 in
    c.loop-self.invariant ∙ covered-advanced ss c.loop-self.last.0 end ∙ ap (λ k. all_of (covered ss) (from_to k end)) (sym c.advance-next.ensures)

pub returns : goal.returns
returns c =
    let ss : List Str = taken c.args.self.n (strs_at c.args.excludes.now) in
    let after : c.args.run.lo.0 + c.args.self.n ≤ c.loop-self.last.0 = search (rules, tests) in
    sym (ap not (c.loop-self.invariant ∙ all_range_empty (covered ss) _ _ (omega (arith, c.args.self.size.from_one))))
