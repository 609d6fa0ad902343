-- Which patterns are a NaN's. No proof cites these two laws. They stand because docs/PORT.md names them.
use mathlib.Core.Path.{◌≡◌}
use mathlib.Core.Bool.{false, not}
use Prim.Native.Nat.{ℕ, ◌/◌, ◌%◌, ◌≤◌, ◌<◌}
use native.Mathlib.Omega.{arith}
use borrow.Author.Tests.{ne_eqb}
use lib.Dec.{T, eqb}
use lib.Arith.{le→nltb}
use lib.Ieee.Bits.{nan_bits_above}
use lib.Ieee.{binary32, div, of_bits, nan_bits}

-- a pattern above infinity's, the sign aside: 0 / 0 is the NaN
pub above : (b : ℕ) → 0x7f80_0000 < b % 0x8000_0000 → div binary32 (of_bits binary32 0) (of_bits binary32 0) ≡ of_bits binary32 b
unfolding div of_bits
above b h =
    let q : b % 0x8000_0000 / 0x80_0000 ≡ 255 = omega arith in
    let z : eqb (b % 0x80_0000) 0 ≡ false = ne_eqb (b % 0x80_0000) 0 (λ e. omega arith) in
    simp (q, z)

-- any other pattern
pub below : (b : ℕ) → b % 0x8000_0000 ≤ 0x7f80_0000 → T (not (nan_bits binary32 b))
below b h = rw (nan_bits_above binary32 b) (le→nltb 0x7f80_0000 (b % 0x8000_0000) h)
