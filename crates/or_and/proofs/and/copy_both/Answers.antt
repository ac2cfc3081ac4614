-- Two copies are one (copied-both).
use Rattle.or_and.proofs.AndLaws.{copied-both}
use Rattle.or_and.proofs.and.copy_both.Goals as goal

pub returns : goal.returns
returns c = copied-both _ c.requires c.copy_up.ensures c.copy_up-2.ensures
