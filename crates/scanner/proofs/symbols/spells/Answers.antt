-- Byte by byte, as the whole.
use Rattle.std.proofs.Common.{rules, tests}
use Rattle.std.proofs.lemmas.Bool.Decides.{same_from_decides}
use Rattle.std.proofs.lemmas.Iterator.{YieldsList-from_slice, YieldsList-from_zip, same_from_all}
use Rattle.std.proofs.lemmas.Slice.Eq.{bytes_eq-Decides}
use Rattle.scanner.proofs.symbols.spells.Goals as goal

pub returns-then-word-keyword : goal.returns-then-word-keyword
returns-then-word-keyword c =
    same_from_decides _ _
    (same_from_all c.all.new.self _ _ _ _ c.all.ensures.ran (YieldsList-from_zip (YieldsList-from_slice c.args.word.now cc) (YieldsList-from_slice c.args.keyword.now cc)) c.if-word-keyword.true
    (λ x q k. search (rules, tests)) (λ x q k. search (rules, tests)))
    (bytes_eq-Decides c.args.word.now c.args.keyword.now)
