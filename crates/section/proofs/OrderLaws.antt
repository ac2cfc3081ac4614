-- Just one of two numbers is zero where the tests for zero differ.
use Rattle.std.proofs.Common.{◌≡◌, Bool, true, false, not, refl}
use mathlib.Core.Bool.{beq, xor}

pub differ : (a b : Bool) → not (beq a b) ≡ xor a b
unfolding beq xor
differ true true = refl
differ true false = refl
differ false true = refl
differ false false = refl
