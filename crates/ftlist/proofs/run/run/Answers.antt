-- The tests of the input are the program's own; the numbers that it reads are the bytes'.
use Rattle.std.proofs.Common.{sym, ◌∙◌}
use Rattle.model.proofs.SetsLaws.{take-written}
use Rattle.text.proofs.ProgramLaws.{program_long, program_uneven}
use Rattle.ftlist.proofs.RunLaws.{program_text_lem}
use Rattle.ftlist.proofs.run.run.Goals as goal

pub returns-then-input-gt-MAX_INPUT-clause-text_after : goal.returns-then-input-gt-MAX_INPUT-clause-text_after
returns-then-input-gt-MAX_INPUT-clause-text_after c = c.print_refusal.ensures.text_after ∙ sym (program_long _ c.if-input-gt-MAX_INPUT.true)

pub returns-then-input-ne0-clause-text_after : goal.returns-then-input-ne0-clause-text_after
returns-then-input-ne0-clause-text_after c = c.print_refusal-then-input-ne0.ensures.text_after ∙ sym (program_uneven _ c.if-input-ne0.true)

pub returns-clause-text_after : goal.returns-clause-text_after
returns-clause-text_after c =
    let n = c.read_numbers-n.ensures in
    c.print_numbers.ensures.text_after
    ∙ program_text_lem _ (take-written _ _ _ n.numbers_after n.value n.upper_bound) c.if-input-gt-MAX_INPUT.false c.if-input-ne0.false
