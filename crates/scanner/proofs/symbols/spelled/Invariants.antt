-- The keywords left spell the word as all do.
use Rattle.std.proofs.Common.{◌≡◌, drop}
use Rattle.scanner.specs.Symbols.{first_spelled}
use Rattle.scanner.proofs.symbols.spelled.Given as goal

abbrev pub invariant-loop-keyword : goal.invariant-loop-keyword
invariant-loop-keyword l = first_spelled l.word (drop l.keyword-index l.keywords) ≡ first_spelled l.word l.keywords
