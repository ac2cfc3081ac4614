use Rattle.flat_rules.proofs.AnswersLaws.{answers-code, answers-same}
use Rattle.flat_rules.proofs.RangesLaws.{either-first, either-second}
use Rattle.flat_rules.proofs.either.Goals as goal

pub returns-then-takes : goal.returns-then-takes
returns-then-takes c =
    let t = c.if-takes.ensures in
    answers-code c.args.reader.now _ c.args.c t (λ n. either-first _ _ c.args.c _ c.args.d t.is) c.push.ensures

pub returns : goal.returns
returns c =
    let k = c.if-takes.ensures in
    answers-same c.args.reader.now _ k.same (either-second _ _ c.args.c _ c.args.d k.is) c.coded.ensures
