-- The operand's part is built, or a list of it is too long; the filter is one code more.
use Rattle.walk.proofs.FilterLaws.{operand_walkable, filter-window, filter-long, filter-answers}
use Rattle.walk.proofs.PartsLaws.{starts-before}
use Rattle.walk.proofs.WalkLaws.{some-codes, error-is}
use native.Mathlib.Omega.{arith}
use mathlib.Core.Path.{◌∙◌}
use Rattle.walk.proofs.answer_filter.Goals as goal

pub overflow_sub-operand : goal.overflow_sub-operand
overflow_sub-operand c = omega (arith, some-codes c.requires.walkable)

pub build_part-requires : goal.build_part-requires
build_part-requires c = record { walkable = operand_walkable c.requires.walkable c.requires.hi_value; lo_value = c.part_start-lo.ensures }

pub returns-in_err-build_part : goal.returns-in_err-build_part
returns-in_err-build_part c w =
    let e = c.requires.hi_value in
    error-is c.from_residual.result _ c.from_residual.ensures ∙ filter-long w e (c.build_part.ensures (operand_walkable w e)) c.in_err-build_part.was

pub count_codes-codes-requires : goal.count_codes-codes-requires
count_codes-codes-requires c = omega (arith, c.part_start-lo.ensures, starts-before (operand_walkable c.requires.walkable c.requires.hi_value))

pub is_yes-yes-requires : goal.is_yes-yes-requires
is_yes-yes-requires c =
    let w = c.requires.walkable in
    let e = c.requires.hi_value in
    record { by_index = filter-window w e; slot_at = record { list = _; slot = (c.build_part.ensures (operand_walkable w e)).slot c.in_ok-build_part.was } }

pub returns : goal.returns
returns c w =
    let e = c.requires.hi_value in
    filter-answers
    w
    e
    (c.build_part.ensures (operand_walkable w e))
    c.in_ok-build_part.was
    c.part_start-lo.ensures
    c.is_yes-yes.ensures
    c.count_codes-codes.ensures
