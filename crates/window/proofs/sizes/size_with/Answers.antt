-- A match without includes adds nothing. The windows of any other are counted by its extent and by its excludes (size-counted).
use Rattle.window.proofs.JoinedLaws.{start-low}
use Rattle.window.proofs.SizesLaws.{size_dropped, size-counted}
use Rattle.window.proofs.sizes.size_with.Goals as goal

pub size_around-requires-clause-start_lt_radix : goal.size_around-requires-clause-start_lt_radix
size_around-requires-clause-start_lt_radix c = start-low c.in-Some.ensures c.requires.valid.includes

pub returns-in-Some : goal.returns-in-Some
returns-in-Some c w = size-counted w c.in-Some.ensures c.size_around.ensures

pub returns-in-None : goal.returns-in-None
returns-in-None c w = size_dropped w c.in-None.ensures
