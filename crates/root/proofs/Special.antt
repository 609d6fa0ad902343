-- The root of a NaN, of the infinities, of the zeros, and of what is below zero.
use mathlib.Core.Path.{◌≡◌, refl}
use mathlib.Core.Bool.{Bool, true, false}
use Prim.Native.Nat.{ℕ, zero, suc, ◌*◌, ◌+◌}
use native.Mathlib.Omega.{arith}
use lib.IntN.{ℤ, pos}
use lib.Dec.{eqb-suc-zero}
use lib.Ieee.{Float, nan, inf, fin, up, down, lt}
use borrow.Author.Tests.{ltb-true}
use denote.Floats.{passes}
use Rattle.root.specs.Root.{sqrt_of}

pub sqrt_of_nan : sqrt_of nan ≡ nan
unfolding sqrt_of
sqrt_of_nan = refl

pub sqrt_of_infinity : sqrt_of (inf false) ≡ inf false
unfolding sqrt_of
sqrt_of_infinity = refl

pub sqrt_of_minus_infinity : sqrt_of (inf true) ≡ nan
unfolding sqrt_of
sqrt_of_minus_infinity = refl

-- +0 gives +0, and -0 gives -0
pub sqrt_of_zero : (s : Bool) → sqrt_of (fin s 0 (pos 0)) ≡ fin s 0 (pos 0)
unfolding sqrt_of
sqrt_of_zero s = refl

pub sqrt_of_negative : (m : ℕ) (e : ℤ) → sqrt_of (fin true (suc m) e) ≡ nan
unfolding sqrt_of
sqrt_of_negative m e = rw (eqb-suc-zero m)

-- below zero by the order: -infinity, and a finite number that is no zero
pub sqrt_below_zero : (x : Float) → lt x (fin false 0 (pos 0)) ≡ true → sqrt_of x ≡ nan
unfolding lt
sqrt_below_zero nan h = sqrt_of_nan
sqrt_below_zero (inf true) h = sqrt_of_minus_infinity
sqrt_below_zero (inf false) h = absurd (passes _ h)
sqrt_below_zero (fin false m e) h = absurd (omega (arith, ltb-true (m * up e * 1) (0 * down e) h))
sqrt_below_zero (fin true zero e) h = absurd (omega (arith, ltb-true 0 (0 * up e * 1 + 0 * down e) h))
sqrt_below_zero (fin true (suc m) e) h = sqrt_of_negative m e
