-- A level of the grammar is an operand and a row of operators with their operands.
use Rattle.std.specs.Prelude.{ℕ, true, false, ◌+◌, ◌<◌, ◌≡◌, eqb, []}
use Rattle.model.specs.declared.Code.TheVariants.{Combine}
use Rattle.model.specs.declared.Pair.{Pair}
use Rattle.model.specs.declared.Pair.TheVariants.{Or, And, MildNot}
use Rattle.model.specs.declared.Refusal.{Refusal}
use Rattle.model.specs.Limits.{max_text}
use Rattle.grammar.specs.Symbols.{k_ftor, k_ftand, k_not, symbol_in}
use Rattle.grammar.specs.Grammar.{failed, read, Rule, ◌then◌, expect, not_in, row}
use Rattle.lent_text.specs.State.{State, left, stream_of}

-- the symbol that an operator begins with, and the rule that reads it
abbrev pub begins_with : Pair → ℕ
begins_with Or = k_ftor
begins_with And = k_ftand
begins_with MildNot = k_not

abbrev pub operator_rule : Pair → Rule
operator_rule Or = expect k_ftor
operator_rule And = expect k_ftand
operator_rule MildNot = not_in

-- an operator was read; none is there; one begins, and isn't whole
pub record Operated (pair : Pair) (s e : State) : Type 0 where
  pub first : eqb (symbol_in (stream_of s)) (begins_with pair) ≡ true
  pub is : operator_rule pair (stream_of s) ≡ read [] (stream_of e)
  pub fewer : left e < left s
  pub room : e.codes.count + left e < max_text
  pub codes_are : e.codes ≡ s.codes

pub record Ended (pair : Pair) (s e : State) : Type 0 where
  pub first : eqb (symbol_in (stream_of s)) (begins_with pair) ≡ false
  pub same : e ≡ s

pub record Broken (pair : Pair) (s : State) (r : Refusal) : Type 0 where
  pub first : eqb (symbol_in (stream_of s)) (begins_with pair) ≡ true
  pub is : operator_rule pair (stream_of s) ≡ failed r.reason r.place

-- the level of an operator, over the rule of its operands
unfoldable pub level_rule : Pair → (ℕ → Rule) → ℕ → Rule
level_rule pair operand n ts = operand n ts then row n (begins_with pair) (operator_rule pair) (Combine pair) (operand n)
