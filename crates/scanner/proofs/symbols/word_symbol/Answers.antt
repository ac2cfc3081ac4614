-- Each table has the keywords of its length, in the order of their numbers.
use Rattle.std.proofs.Common.{arith, refl, rules}
use Rattle.scanner.specs.Symbols.{named}
use Rattle.scanner.proofs.SymbolsLaws.{other_word, spelled_is_of_length}
use Rattle.scanner.proofs.symbols.word_symbol.Goals as goal

pub returns-in-2 : goal.returns-in-2
unfolding named
returns-in-2 c = spelled_is_of_length _ 2 c.in-2.is _ _ c.spelled.ensures (search rules)

pub returns-in-3 : goal.returns-in-3
unfolding named
returns-in-3 c = spelled_is_of_length _ 3 c.in-3.is _ _ c.spelled-in-3.ensures (search rules)

pub returns-in-4 : goal.returns-in-4
unfolding named
returns-in-4 c = spelled_is_of_length _ 4 c.in-4.is _ _ c.spelled-in-4.ensures (search rules)

pub returns-in-5 : goal.returns-in-5
unfolding named
returns-in-5 c = spelled_is_of_length _ 5 c.in-5.is _ _ c.spelled-in-5.ensures (search rules)

pub returns-in-6 : goal.returns-in-6
unfolding named
returns-in-6 c = spelled_is_of_length _ 6 c.in-6.is _ _ c.spelled-in-6.ensures (search rules)

pub returns-in-7 : goal.returns-in-7
unfolding named
returns-in-7 c = spelled_is_of_length _ 7 c.in-7.is _ _ c.spelled-in-7.ensures (search rules)

pub returns-in-8 : goal.returns-in-8
unfolding named
returns-in-8 c = spelled_is_of_length _ 8 c.in-8.is _ _ c.spelled-in-8.ensures (search rules)

pub returns-in-9 : goal.returns-in-9
unfolding named
returns-in-9 c = spelled_is_of_length _ 9 c.in-9.is _ _ c.spelled-in-9.ensures (search rules)

pub returns-in_default : goal.returns-in_default
returns-in_default c =
    other_word c.args.word.now _ refl (λ e. omega arith) (λ e. omega arith) (λ e. omega arith) (λ e. omega arith) (λ e. omega arith) (λ e. omega arith) (λ e. omega arith) (λ e. omega arith)
