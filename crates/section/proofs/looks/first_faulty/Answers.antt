use Rattle.std.proofs.Common.{sym, ◌∙◌, arith}
use Rattle.model.specs.Section.{size}
use Rattle.section.specs.Looks.{faulty_after}
use Rattle.section.proofs.LooksLaws.{look_first, whole, no_position, last-first}
use Rattle.section.proofs.looks.first_faulty.Goals as goal

pub returns-then-n-eq0 : goal.returns-then-n-eq0
returns-then-n-eq0 c = let s = c.args.section.now in sym (sym (whole s) ∙ no_position s 1 (size s) (omega arith))

pub look-requires-clause-given : goal.look-requires-clause-given
look-requires-clause-given c =
    record { from_one = omega arith; in_order = omega arith; up_to = omega arith; last_is = last-first c.args.section.now _ (rw c.at.ensures at c.sentence-first.ensures) }

pub returns : goal.returns
returns c =
    let s = c.args.section.now in
    c.err.ensures.value ∙ rw (c.look.ensures, c.requires.n_value) (look_first (faulty_after s 1 (size s)) _ ∙ whole s)
