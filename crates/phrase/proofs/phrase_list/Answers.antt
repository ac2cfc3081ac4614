-- A phrase whose words are out of the table is found by equality (KinLaws).
use Rattle.std.proofs.Common.{subst}
use Rattle.store.specs.Outcome.{Outcome}
use Rattle.phrase.proofs.KinLaws.{equal_list}
use Rattle.phrase.proofs.phrase_list.Goals as goal

pub returns-then-words-eq1 : goal.returns-then-words-eq1
returns-then-words-eq1 c =
    subst (λ ms. Outcome ms c.args.mem.now c.list_of.new.mem c.args.at c.list_of.result)
    (equal_list c.args.section.now c.args.families.now c.args.words.now (c.look_up.ensures.none c.if-not-look_up.true) c.args.rank) c.list_of.ensures

pub returns-else-words-eq1 : goal.returns-else-words-eq1
returns-else-words-eq1 c =
    subst (λ ms. Outcome ms c.args.mem.now c.list_of-else-words-eq1.new.mem c.args.at c.list_of-else-words-eq1.result)
    (equal_list c.args.section.now c.args.families.now c.args.words.now (c.look_up.ensures.none c.if-not-look_up.true) c.args.rank) c.list_of-else-words-eq1.ensures
