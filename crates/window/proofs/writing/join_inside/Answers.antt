use mathlib.Core.Path.{◌≡◌, sym, ◌∙◌, subst}
use native.Mathlib.Omega.{arith}
use Prim.Native.Nat.{◌+◌, ◌-◌}
use Rattle.std.specs.Prelude.{MatchOption, []}
use Rattle.model.specs.Rules.{window_ends}
use Rattle.model.proofs.ListsLaws.{range_empty}
use Rattle.strings.specs.Strings.{strs_at}
use Rattle.join.proofs.JoinLaws.{start_bound}
use Rattle.window.specs.Windows.{JoinIs}
use Rattle.window.proofs.JoinedLaws.{ends_none, ends-are, join_or_none}
use Rattle.window.proofs.writing.join_inside.Goals as goal

pub returns-in_err-run : goal.returns-in_err-run
returns-in_err-run c =
    subst (λ o. MatchOption o (window_ends c.args.n (strs_at c.args.includes.now) ≡ []) (JoinIs c.args.n (strs_at c.args.includes.now))) (sym c.from_residual.ensures)
    (ends_none c.args.n c.in_err-run.ensures)

pub count_around-requires-clause-start_lt_radix : goal.count_around-requires-clause-start_lt_radix
count_around-requires-clause-start_lt_radix c = omega (arith, c.in_ok-run.ensures.lo_value, start_bound c.args.includes.now (omega (arith, c.type_inv.includes 0)))

pub returns-then-count_around-eq0 : goal.returns-then-count_around-eq0
returns-then-count_around-eq0 c =
    ends-are c.in_ok-run.ensures c.args.n ∙ range_empty c.in_ok-run.run'.hi.0 (c.in_ok-run.run'.lo.0 + c.args.n - 1) (omega (arith, c.if-count_around-eq0.true, c.count_around.ensures, c.requires))

pub returns : goal.returns
returns c = join_or_none _ _ c.in_ok-run.ensures _ c.join.ensures
