-- Looked for by equality where no word is in the table (KinLaws), else by families: there is a find exactly where there is a next start (starts-some).
use Rattle.std.proofs.Common.{not, ap, ◌∙◌}
use Rattle.model.specs.Families.{equal_words}
use Rattle.model.specs.Lists.{is_empty}
use Rattle.phrase.proofs.KinLaws.{equal_list}
use Rattle.phrase.proofs.StartsLaws.{starts-some}
use Rattle.phrase.proofs.is_found.Goals as goal

pub returns-then-words-eq1 : goal.returns-then-words-eq1
returns-then-words-eq1 c rank =
    c.is_some.ensures
    ∙ starts-some (equal_words c.args.section.now) c.args.words.now c.start_from.result rank c.start_from.ensures.next
    ∙ ap (λ ms. not (is_empty ms)) (equal_list c.args.section.now c.args.families.now c.args.words.now (c.look_up.ensures.none c.if-not-look_up.true) rank)

pub returns-else-words-eq1 : goal.returns-else-words-eq1
returns-else-words-eq1 c rank =
    c.is_some-else-words-eq1.ensures
    ∙ starts-some (equal_words c.args.section.now) c.args.words.now c.start_from-else-words-eq1.result rank c.start_from-else-words-eq1.ensures.next
    ∙ ap (λ ms. not (is_empty ms)) (equal_list c.args.section.now c.args.families.now c.args.words.now (c.look_up.ensures.none c.if-not-look_up.true) rank)
