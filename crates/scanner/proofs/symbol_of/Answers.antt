-- A word has its keyword's symbol, the four signs theirs, and any other sign one that no rule asks for.
use Rattle.std.proofs.Common.{arith, refl}
use Rattle.grammar.specs.Symbols.{symbol_of}
use Rattle.scanner.specs.Symbols.{named}
use Rattle.scanner.proofs.SymbolsLaws.{other_sign, sign-named, word-named}
use Rattle.scanner.proofs.symbol_of.Goals as goal

pub returns-in-97 : goal.returns-in-97
returns-in-97 c = word-named _ _ _ _ c.word_symbol.ensures c.in-97.is

pub returns-in-48 : goal.returns-in-48
unfolding symbol_of named
returns-in-48 c = rw c.in-48.is refl

pub returns-in-34 : goal.returns-in-34
unfolding symbol_of named
returns-in-34 c = rw c.in-34.is refl

pub returns-in-40 : goal.returns-in-40
unfolding symbol_of named
returns-in-40 c = rw c.in-40.is refl

pub returns-in-41 : goal.returns-in-41
unfolding symbol_of named
returns-in-41 c = rw c.in-41.is refl

pub returns-in_default : goal.returns-in_default
returns-in_default c =
    sign-named _ _ _ _ (λ e. omega arith) (other_sign _ (λ e. omega arith) (λ e. omega arith) (λ e. omega arith) (λ e. omega arith))
