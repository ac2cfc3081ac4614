-- The section is the first part of the numbers, and the selection the rest.
use Rattle.std.proofs.Common.{◌∙◌}
use Rattle.ftlist.proofs.RunLaws.{parts-text}
use Rattle.ftlist.proofs.run.print_numbers.Goals as goal

pub returns-clause-text_after : goal.returns-clause-text_after
returns-clause-text_after c = c.print_listing.ensures.text_after ∙ parts-text c.args.numbers.now _ c.section_length-k.ensures.value
