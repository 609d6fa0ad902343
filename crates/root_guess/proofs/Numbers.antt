-- Which patterns of an f64 are no NaN.
use mathlib.Core.Bool.{not}
use Prim.Native.Nat.{ℕ, ◌%◌, ◌<◌}
use native.Mathlib.Omega.{arith}
use lib.Arith.{le→nltb}
use lib.Dec.{T}
use lib.Ieee.{binary64, nan_bits}
use lib.Ieee.Bits.{nan_bits_above}

-- an f64's pattern below infinity's
pub not_nan_bits64 : (b : ℕ) → b < 0x7ff0_0000_0000_0000 → T (not (nan_bits binary64 b))
not_nan_bits64 b h =
    rw (nan_bits_above binary64 b) (le→nltb 0x7ff0_0000_0000_0000 (b % 0x8000_0000_0000_0000) (omega arith))
