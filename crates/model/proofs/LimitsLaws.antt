-- Two numbers in one, first × 65,536 + second, are read as those two: the start and the end of a span, the least and the most of a distance.
use Prim.Native.Nat.{ℕ, ◌+◌, ◌*◌, ◌/◌, ◌%◌, ◌<◌}
use native.Mathlib.Omega.{arith}
use mathlib.Core.Path.{◌≡◌}
use Rattle.model.specs.Limits.{radix}

-- ---- radix

module _ (first second : ℕ) (h : second < radix) where
  pub upper_half : (first * radix + second) / radix ≡ first
  upper_half = omega arith

  pub lower_half : (first * radix + second) % radix ≡ second
  lower_half = omega arith
