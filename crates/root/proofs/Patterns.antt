-- What a bit pattern stands for: its sign, and if finite its units, by exponent's field and fraction.
use mathlib.Core.Path.{◌≡◌, sym}
use mathlib.Core.Bool.{true, false, not}
use Prim.Native.Nat.{ℕ, zero, suc, ◌+◌, ◌*◌, ◌/◌, ◌%◌, ◌^◌, ◌≤◌, ◌<◌}
use native.Mathlib.Nat.{mul-one, mul-pos, mod-eq_of_lt}
use native.Mathlib.Omega.{arith}
use borrow.Author.Tests.{le-leb, lt-leb}
use lib.Arith.{le→nltb}
use lib.Dec.{T}
use lib.Pow.{pow_pos}
use lib.Ieee.{Float, binary32, of_fields, of_bits, to_bits, nan_bits, fits}
use lib.Ieee.Bits.{of_bits-to_bits, nan_bits_above}
use lib.Ieee.Exact.{HasValue}
use Rattle.float.proofs.Fields.{field_units, field_value}
use Rattle.float.specs.Units.{in_units}
use Rattle.float.proofs.Units.{units_of_lem}

-- ---- by the field x and the fraction t
pub field_positive : (x t : ℕ) → 0 < x * 2 ^ 23 + t → 0 < field_units x t
field_positive zero t h = rw (mul-one t) (omega arith)
field_positive (suc x) t h = mul-pos {m = 2 ^ 23 + t} {n = 2 ^ x} (omega arith) (pow_pos x)

-- ---- by the bits
pub sign_clear : (b : ℕ) → b < 0x8000_0000 → of_bits binary32 b ≡ of_fields binary32 false (b / 2 ^ 23) (b % 2 ^ 23)
unfolding of_bits
sign_clear b h = rw (lt-leb 0x8000_0000 b h, mod-eq_of_lt h)

pub sign_set : (b : ℕ) → 0x8000_0000 ≤ b
    → of_bits binary32 b ≡ of_fields binary32 true (b % 0x8000_0000 / 2 ^ 23) (b % 2 ^ 23)
unfolding of_bits
sign_set b h = rw (le-leb 0x8000_0000 b h)

pub value_at : (b : ℕ) → b < 0x7f80_0000
    → HasValue (of_bits binary32 b) false (field_units (b / 2 ^ 23) (b % 2 ^ 23)) (2 ^ 149)
value_at b h = rw (sign_clear b (omega arith)) (field_value false (b / 2 ^ 23) (b % 2 ^ 23) (omega arith))

pub units_at : (b : ℕ) → b < 0x7f80_0000 → in_units (of_bits binary32 b) ≡ field_units (b / 2 ^ 23) (b % 2 ^ 23)
units_at b h = units_of_lem (of_bits binary32 b) false (field_units (b / 2 ^ 23) (b % 2 ^ 23)) (value_at b h)

-- ---- a float and its own bits
pub from_bits : (x : Float) (b : ℕ) → T (fits binary32 x) → to_bits binary32 x ≡ b → x ≡ of_bits binary32 b
from_bits x b f e = rw (← e) (sym (of_bits-to_bits binary32 x f))

pub not_nan_bits : (b : ℕ) → b < 0x7f80_0000 → T (not (nan_bits binary32 b))
not_nan_bits b h = rw (nan_bits_above binary32 b) (le→nltb 0x7f80_0000 (b % 0x8000_0000) (omega arith))
