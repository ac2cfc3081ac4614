-- The kin are the words that fit.
use Rattle.std.proofs.Common.{◌+◌, get_or, sym, ◌∙◌}
use Rattle.phrase.proofs.KinLaws.{among}
use Rattle.phrase.proofs.fitting.Fitting.first_fits.Goals as goal

pub returns-in-Some : goal.returns-in-Some
returns-in-Some c =
    let token = get_or c.args.self.now.section.now (c.args.p + c.args.self.now.first) 0 in
    let kin_of = rw c.in-Some.is at c.args.self.now.kin_of in
    c.contains.ensures.value ∙ among token c.in-Some.kin.now ∙ sym (kin_of token)
