-- A match without includes has no window; the windows of any other are told by its join (free_some).
use Rattle.std.proofs.Common.{arith, ◌∙◌, ◌<◌, ◌^◌, get_or}
use Rattle.strings.specs.Strings.{strs_at}
use Rattle.join.proofs.JoinLaws.{start_bound}
use Rattle.filter_yes.proofs.WindowsLaws.{free_none, free_some}
use Rattle.filter_yes.proofs.windows.WindowsAsked.gives_yes.Goals as goal

pub any_free_around-requires : goal.any_free_around-requires
any_free_around-requires c =
    let l = c.args.includes.now in
    let first : get_or l 0 0 < 2 ^ 32 = omega (arith, c.type_inv.includes 0) in
    omega (arith, start_bound l first, c.in-Some.ensures.lo_value)

pub returns-in-Some : goal.returns-in-Some
returns-in-Some c = c.any_free_around.ensures ∙ free_some c.args.self.size _ (strs_at c.args.excludes.now) c.in-Some.ensures

pub returns-in-None : goal.returns-in-None
returns-in-None c = free_none c.args.self.n _ (strs_at c.args.excludes.now) c.in-None.ensures
