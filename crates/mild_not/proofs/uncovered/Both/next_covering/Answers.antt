use Rattle.std.proofs.Common.{◌+◌, ap, ◌∙◌, subst, sym, arith}
use Rattle.model.specs.AllStrings.{AllStrs}
use Rattle.strings.specs.Strings.{strs_at}
use Rattle.store.specs.Stream.{MatchHeader}
use Rattle.store.specs.ValidStr.{ValidStr}
use Rattle.store.proofs.DecodeLaws.{valid-within}
use Rattle.store.proofs.StreamLaws.{next-at, search_start}
use Rattle.candidates.proofs.PassingLaws.{passing-here, passing-later, passing-none, passing_trans}
use Rattle.mild_not.specs.Uncovered.{cover_both}
use Rattle.mild_not.proofs.uncovered.Both.next_covering.Goals as goal
use Rattle.mild_not.proofs.uncovered.Both.next_covering.Goals.{In-loop-at}

-- the header of the match in hand
one : (c : In-loop-at) → MatchHeader c.args.mem.now c.loop-at.at
one c = (next-at (c.loop-at.invariant.1 c.requires).left c.loop-at-test.true).held.header

pub loop-at-init : goal.loop-at-init
loop-at-init c = (omega arith, λ w. search_start _ w.stream)

pub bounds-mem-at : goal.bounds-mem-at
bounds-mem-at c = omega (arith, one (goal.at.bounds-mem-at c).In-loop-at)

pub bounds-requires : goal.bounds-requires
bounds-requires c = omega (arith, one (goal.at.bounds-requires c).In-loop-at)

pub includes-requires : goal.includes-requires
includes-requires c = omega (arith, one (goal.at.includes-requires c).In-loop-at, c.bounds.ensures)

pub are_covered-requires : goal.are_covered-requires
are_covered-requires c =
    subst (λ xs. AllStrs ValidStr (strs_at xs)) (sym c.includes.ensures) (valid-within (next-at (c.loop-at.invariant.1 c.requires).left c.loop-at-test.true).held c.bounds.ensures)

pub returns-then-are_covered-clause-remaining : goal.returns-then-are_covered-clause-remaining
returns-then-are_covered-clause-remaining c = λ w.
    passing-here (cover_both c.args.self.p.0 c.args.self.q.0) (c.loop-at.invariant.1 w) c.loop-at-test.true c.bounds.ensures
    (c.are_covered.ensures ∙ ap (λ xs. cover_both c.args.self.p.0 c.args.self.q.0 (strs_at xs)) c.includes.ensures) c.if-are_covered.true

pub skip_same_header-at-requires : goal.skip_same_header-at-requires
skip_same_header-at-requires c =
    let later = passing-later (cover_both c.args.self.p.0 c.args.self.q.0) (c.loop-at.invariant.1 c.requires) c.loop-at-test.true c.bounds.ensures
    (c.are_covered.ensures ∙ ap (λ xs. cover_both c.args.self.p.0 c.args.self.q.0 (strs_at xs)) c.includes.ensures) c.if-are_covered.false
    {next = c.loop-at.at + c.length.result} (omega (arith, c.length.ensures)) in
    record { list = later.todo; stream = later.left }

pub loop-at-preserved : goal.loop-at-preserved
loop-at-preserved c = (
  omega (arith, c.skip_same_header-at.ensures.lower_bound, c.loop-at.invariant.0, c.length.ensures),
  λ w.
      let both = cover_both c.args.self.p.0 c.args.self.q.0 in
      let later = passing-later both (c.loop-at.invariant.1 w) c.loop-at-test.true c.bounds.ensures
      (c.are_covered.ensures ∙ ap (λ xs. cover_both c.args.self.p.0 c.args.self.q.0 (strs_at xs)) c.includes.ensures) c.if-are_covered.false
      {next = c.loop-at.at + c.length.result} (omega (arith, c.length.ensures)) in
      passing_trans both later (c.skip_same_header-at.ensures.search_invariant (record { list = later.todo; stream = later.left })),
)

pub returns : goal.returns
returns c = record { lower_bound = c.loop-at.invariant.0; remaining = λ w. passing-none (cover_both c.args.self.p.0 c.args.self.q.0) (c.loop-at.invariant.1 w) c.loop-at-test.false }
