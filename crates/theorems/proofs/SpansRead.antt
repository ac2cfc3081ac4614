-- F-2: start and end are the two halves of the span's number.
use native.Mathlib.Omega.{arith}
use Rattle.model.proofs.LimitsLaws.{upper_half, lower_half}
use Rattle.theorems.specs.Requests.{SpansRead}

pub spans-read : SpansRead
spans-read s h k = record { in_32_bits = omega arith; start_read = upper_half s.start s.end k; end_read = lower_half s.start s.end k }
