-- Out of the table a word is its only kin; in it they are gathered by its family (KinLaws).
use Rattle.std.proofs.Common.{◌++◌, ◌∷◌, [], ap, sym, subst, ◌∙◌}
use Rattle.families.specs.Kin.{KinOf}
use Rattle.families.proofs.KinLaws.{kin_alone, kin_gathered}
use Rattle.families.proofs.table.Table.tell_kin.Goals as goal

pub returns-in-None : goal.returns-in-None
returns-in-None c = λ e.
    let alone = kin_alone c.args.self.now.lent.now c.args.word (sym c.requires ∙ c.in-None.is) in
    subst (KinOf c.args.self.now.lent.now c.args.word) (sym (c.push.ensures ∙ ap (λ xs. xs ++ c.args.word ∷ []) c.clear.ensures)) alone

pub returns-in-Some : goal.returns-in-Some
returns-in-Some c = λ e.
    kin_gathered c.args.self.now.accepted c.args.word c.in-Some.family (sym c.requires ∙ c.in-Some.is) (c.gather.ensures e)
