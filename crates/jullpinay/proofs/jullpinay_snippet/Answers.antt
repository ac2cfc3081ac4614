-- The part's length is the snippet's, and that many words from `from` on are the snippet.
use Rattle.jullpinay.proofs.ExportLaws.{take_snippet}
use mathlib.Core.Path.{refl}
use Rattle.jullpinay.proofs.jullpinay_snippet.Goals as goal

pub returns : goal.returns
returns c = rw c.snippet-part.ensures.result_value (record { value = refl; section_value = take_snippet c.args.section.now c.args.from c.args.to })
