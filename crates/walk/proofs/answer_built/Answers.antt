-- The whole part is built, or a list of it is too long; its codes are those but words after its start.
use Rattle.walk.proofs.WalkLaws.{error-is}
use Rattle.walk.proofs.PartsLaws.{starts-before, build-long, build-answers}
use native.Mathlib.Omega.{arith}
use mathlib.Core.Path.{◌∙◌}
use Rattle.walk.proofs.answer_built.Goals as goal

pub build_part-requires : goal.build_part-requires
build_part-requires c = record { walkable = c.requires; lo_value = c.part_start-lo.ensures }

pub returns-in_err-build_part : goal.returns-in_err-build_part
returns-in_err-build_part c w =
    error-is c.from_residual.result _ c.from_residual.ensures ∙ build-long w (c.build_part.ensures w) c.in_err-build_part.was

pub is_yes-requires : goal.is_yes-requires
is_yes-requires c = record { list = _; slot = (c.build_part.ensures c.requires).slot c.in_ok-build_part.was }

pub count_codes-requires : goal.count_codes-requires
count_codes-requires c = omega (arith, c.part_start-lo.ensures, starts-before c.requires)

pub returns : goal.returns
returns c w =
    build-answers
    w
    (c.build_part.ensures w)
    c.in_ok-build_part.was
    c.part_start-lo.ensures
    c.is_yes.ensures
    c.count_codes.ensures
