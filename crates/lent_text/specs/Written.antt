-- What it is to write codes after others.
use Rattle.std.specs.Prelude.{◌+◌, ◌≤◌, ◌≡◌, List, length, map, replicate}
use Rattle.std.proofs.lemmas.List.Edits.{sets}
use Rattle.model.specs.declared.Code.{Code}
use Rattle.model.specs.Limits.{max_codes}
use Rattle.model.specs.Selection.{kind_of, operand_of}
use Rattle.lent_text.specs.declared.codes.Codes.{Codes}

abbrev pub no_codes : Codes
no_codes = record { count = 0; kinds = replicate max_codes 0; operands = replicate max_codes 0 }

-- The codes cs were written after those before. Codes past 64 are counted, and once there are such nothing is said of those written.
pub record Written (cs : List Code) (entry exit : Codes) : Type 0 where
  pub counted : exit.count ≡ entry.count + length cs
  pub kinds : exit.count ≤ max_codes → exit.kinds ≡ sets entry.kinds entry.count (map kind_of cs)
  pub operands : exit.count ≤ max_codes → exit.operands ≡ sets entry.operands entry.count (map operand_of cs)
