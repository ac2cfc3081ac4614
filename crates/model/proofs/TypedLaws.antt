-- The selection of codes: how long it is, and that of over 64 codes is refused.
use Prim.Native.Nat.{ℕ, ◌+◌, ◌*◌, ◌<◌}
use native.Mathlib.Omega.{arith}
use mathlib.Core.List.{List, ◌∷◌, ◌++◌, map}
use Rattle.std.specs.Prelude.{Some}
use mathlib.Core.Path.{◌≡◌}
use borrow.Author.Tests.{le-leb, lt-leb}
use lib.ListN.{length, length-append, length-map}
use Rattle.model.specs.declared.Code.{Code}
use Rattle.model.specs.Checks.{wrong_selection}
use Rattle.model.specs.Limits.{max_codes}
use Rattle.model.specs.Section.{well_sized}
use Rattle.model.specs.Selection.{kind_of, operand_of}
use Rattle.model.specs.Typed.{selection_of}

pub length-selection : (cs : List Code) → length (selection_of cs) ≡ 1 + 2 * length cs
unfolding selection_of
length-selection cs = omega (arith, length-append (map kind_of cs) (map operand_of cs), length-map cs kind_of, length-map cs operand_of)

-- "3, place 0": over 64 codes, whatever follows their number
pub wrong_over : (m : ℕ) (rest : List ℕ) → max_codes < m → wrong_selection (m ∷ rest) ≡ Some 0
unfolding wrong_selection well_sized
wrong_over m rest h = rw (le-leb 1 m (omega arith), lt-leb m max_codes h)

pub selection-over : (cs : List Code) → max_codes < length cs → wrong_selection (selection_of cs) ≡ Some 0
unfolding selection_of
selection-over cs h = wrong_over (length cs) (map kind_of cs ++ map operand_of cs) h
