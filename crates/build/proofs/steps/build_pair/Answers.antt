-- In each arm the combination's rule is that of its name (pair_as).
use Rattle.build.proofs.StepsLaws.{pair_as, pair_pushed}
use Rattle.build.proofs.steps.build_pair.Goals as goal

pub build_or-requires : goal.build_or-requires
build_or-requires c = pair_as c.in-Or.is c.requires

pub build_and-requires : goal.build_and-requires
build_and-requires c = pair_as c.in-And.is c.requires

pub build_mild_not-requires : goal.build_mild_not-requires
build_mild_not-requires c = pair_as c.in-MildNot.is c.requires

pub returns-in-Or : goal.returns-in-Or
returns-in-Or c w = pair_pushed c.in-Or.is w c.build_or.ensures

pub returns-in-And : goal.returns-in-And
returns-in-And c w = pair_pushed c.in-And.is w c.build_and.ensures

pub returns-in-MildNot : goal.returns-in-MildNot
returns-in-MildNot c w = pair_pushed c.in-MildNot.is w c.build_mild_not.ensures
