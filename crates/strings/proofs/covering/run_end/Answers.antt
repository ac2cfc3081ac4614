use native.Mathlib.Omega.{arith}
use mathlib.Core.List.{List}
use mathlib.Core.Path.{refl, ap, sym, ◌∙◌}
use Rattle.std.proofs.Common.{rules, ◌≡◌, ◌≢◌, ◌<◌, ◌≤◌}
use borrow.Author.Tests.{lt-ltb, le-ltb, tests}
use Rattle.model.specs.Lists.{all_of, from_to}
use Rattle.model.specs.Matches.{Str}
use Rattle.model.specs.Rules.{covered}
use Rattle.strings.specs.Covering.{chosen}
use Rattle.strings.specs.Strings.{strs_at}
use Rattle.strings.proofs.CoveringLaws.{all_range_empty, all_range-false, advanced_up, advanced_stuck, covered-advanced}
use Rattle.strings.proofs.covering.run_end.Goals as goal

pub loop-which-init : goal.loop-which-init
loop-which-init c = (omega arith, refl)

pub returns-then-eq : goal.returns-then-eq
returns-then-eq c =
    let ss : List Str = chosen c.args.which (strs_at c.args.strs.now) in
    let same : c.advance-next.result.0 ≡ c.loop-which.p.0 = search (rules, tests) in
    let in-run : c.loop-which.p.0 ≤ c.args.run.hi.0 = search (rules, tests) in
    let stuck = advanced_stuck _ ss (sym c.advance-next.ensures ∙ same) in
    record { not_before = c.loop-which.invariant.0; uncovered = λ h. stuck; same = c.loop-which.invariant.1 ∙ all_range-false (covered ss) _ _ in-run stuck ∙ sym (le-ltb _ _ in-run) }

pub loop-which-smaller : goal.loop-which-smaller
loop-which-smaller c =
    let up = advanced_up c.loop-which.p.0 (chosen c.args.which (strs_at c.args.strs.now)) in
    let moved : c.advance-next.result.0 ≢ c.loop-which.p.0 = search (rules, tests) in
    let in-run : c.loop-which.p.0 ≤ c.args.run.hi.0 = search (rules, tests) in
    omega arith

pub loop-which-preserved : goal.loop-which-preserved
loop-which-preserved c =
    let ss : List Str = chosen c.args.which (strs_at c.args.strs.now) in
    let up = advanced_up c.loop-which.p.0 ss in
    (omega arith, c.loop-which.invariant.1 ∙ covered-advanced ss _ _ ∙ ap (λ k. all_of (covered ss) (from_to k c.args.run.hi.0)) (sym c.advance-next.ensures))

pub returns : goal.returns
returns c =
    let ss : List Str = chosen c.args.which (strs_at c.args.strs.now) in
    let after : c.args.run.hi.0 < c.loop-which.p.0 = search (rules, tests) in
    record {
      not_before = c.loop-which.invariant.0;
      uncovered = λ h. absurd (omega arith);
      same = c.loop-which.invariant.1 ∙ all_range_empty (covered ss) _ _ after ∙ sym (lt-ltb _ _ after);
    }
