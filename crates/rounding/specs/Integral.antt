-- What IEEE 754 asks of rounding to an integral value (5.9), over whole numbers: in the directed roundings the closest value on
-- one side of x (4.3.2), with the sign of x even where the result is a zero (6.3). Definitions only.
use Rattle.std.specs.Prelude.{◌≡◌, ◌*◌, Bool, false, T, ℤ, pos, ◌*ℤ◌, int_le, Float}
use Rattle.std.specs.Float.{nan, inf, fin}
use Rattle.std.specs.Float.Ieee.{up, down}
use Rattle.float.specs.Units.{signed}

abbrev pub sign : Float → Bool
sign nan = false
sign (inf s) = s
sign (fin s m e) = s

-- k = x, k ≤ x and x ≤ k, for a whole number k and a finite x = m * up e / down e: both sides times `down e`
abbrev pub Equal : ℤ → Float → Type 0
Equal k nan = ⊥
Equal k (inf s) = ⊥
Equal k (fin s m e) = k *ℤ pos (down e) ≡ signed s (m * up e)

abbrev pub at_most : ℤ → Float → Bool
at_most k nan = false
at_most k (inf s) = false
at_most k (fin s m e) = int_le (k *ℤ pos (down e)) (signed s (m * up e))

abbrev pub at_least : ℤ → Float → Bool
at_least k nan = false
at_least k (inf s) = false
at_least k (fin s m e) = int_le (signed s (m * up e)) (k *ℤ pos (down e))

-- roundToIntegralTowardNegative: r is a whole number not above x, no whole number that is not above x is greater, and r has x's sign
pub record TowardNegative (x r : Float) : Type 0 where
  pub n : ℤ
  pub exact : Equal n r
  pub not_above : T (at_most n x)
  pub closest : (k : ℤ) → T (at_most k x) → T (int_le k n)
  pub sign_of_floor : sign r ≡ sign x

-- roundToIntegralTowardPositive: r is a whole number not below x, no whole number that is not below x is less, and r has x's sign
pub record TowardPositive (x r : Float) : Type 0 where
  pub n : ℤ
  pub exact : Equal n r
  pub not_below : T (at_least n x)
  pub closest : (k : ℤ) → T (at_least k x) → T (int_le n k)
  pub sign_of_ceiling : sign r ≡ sign x
