use Rattle.std.proofs.Common.{rules}
use Rattle.std.proofs.lemmas.Result.{err_from_is_err_and}
use Rattle.model.specs.declared.Code.TheVariants.{Occurs}
use Rattle.model.specs.declared.Times.TheVariants.{AtLeast, FromTo}
use Rattle.flat_rules.proofs.PhrasesLaws.{phrase_alone, phrase-fails, phrase_times}
use Rattle.flat_rules.proofs.phrase.Goals as goal

pub returns-in_err-words : goal.returns-in_err-words
returns-in_err-words c =
    let p = err_from_is_err_and c.from_residual.result c.from_residual.ensures.1 in
    rw (p.1, p.2) (phrase-fails c.in_err-words.ensures)

pub returns-then-not-takes : goal.returns-then-not-takes
returns-then-not-takes c = phrase_alone c.args.reader.now c.words.new.reader c.in_ok-words.ensures c.if-not-takes.ensures

pub returns : goal.returns
returns c =
    phrase_times c.args.reader.now c.words.new.reader c.in_ok-words.ensures c.if-not-takes.ensures
    (c.range.ensures (λ a. Occurs (AtLeast a)) (λ a b. Occurs (FromTo a b)) (λ n x l k. search rules) (λ a b x l m k. search rules))
