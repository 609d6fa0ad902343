-- A finite f32 as a whole number: its multiple of 2 ^ -149, the smallest f32 above zero. Definitions only.
use Rattle.std.specs.Prelude.{ℕ, ◌*◌, ◌/◌, ◌^◌, Bool, true, false, ℤ, pos, neg_ℤ, Float}
use Rattle.std.specs.Float.{nan, inf, fin}
use Rattle.std.specs.Float.Ieee.{up, down}

-- the whole number of size n with the sign s
abbrev pub signed : Bool → ℕ → ℤ
signed false n = pos n
signed true n = neg_ℤ (pos n)

-- how many units of 2 ^ -149 the size of a finite value is, a whole number for every f32; 0 for a NaN and an infinity
abbrev pub in_units : Float → ℕ
in_units nan = 0
in_units (inf s) = 0
in_units (fin s m e) = m * up e * 2 ^ 149 / down e

-- the same with the value's sign
abbrev pub units_of : Float → ℤ
units_of nan = pos 0
units_of (inf s) = pos 0
units_of (fin s m e) = signed s (in_units (fin s m e))
