-- What the exponent's field x and the fraction t of a finite f32's bits stand for, in units of 2 ^ -149.
use mathlib.Core.Path.{◌≡◌, refl}
use mathlib.Core.Bool.{Bool, cond}
use Prim.Native.Nat.{ℕ, zero, suc, ◌+◌, ◌*◌, ◌^◌, ◌<◌}
use native.Mathlib.Omega.{arith}
use borrow.Author.Tests.{ne_eqb}
use lib.Dec.{eqb}
use lib.Ieee.{nan, inf, binary32, of_fields}
use lib.Ieee.Exact.{HasValue, odd_sign}

-- a field of 0 has no leading digit, and counts as a field of 1
abbrev pub field_units : ℕ → ℕ → ℕ
field_units zero t = t * 2 ^ 0
field_units (suc x) t = (2 ^ 23 + t) * 2 ^ x

pub field_value : (s : Bool) (x t : ℕ) → x < 255 → HasValue (of_fields binary32 s x t) s (field_units x t) (2 ^ 149)
unfolding of_fields
field_value s zero t h = odd_sign 24 s t 0 149
field_value s (suc x) t h = rw (ne_eqb (suc x) 255 (λ e. omega arith)) (odd_sign 24 s (2 ^ 23 + t) x 149)

-- the highest field
pub field_top : (s : Bool) (t : ℕ) → of_fields binary32 s 255 t ≡ cond (eqb t 0) (inf s) nan
unfolding of_fields
field_top s t = refl
