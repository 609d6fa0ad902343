-- The zero of a float.
use mathlib.Core.Path.{◌≡◌, refl}
use mathlib.Core.Bool.{Bool, false}
use Prim.Native.Nat.{ℕ, zero, suc, ◌*◌, ◌^◌}
use native.Mathlib.Nat.{mul-pos, pow-suc}
use native.Mathlib.Omega.{arith}
use lib.IntN.{ℤ, pos, negsuc}
use lib.Dec.{T, eqb, eqb→eq}
use lib.Pow.{pow_pos}
use lib.Ieee.{Float, fin, binary32, fits, up, down}
use lib.Ieee.Fits.{up_pos}

abbrev pub +0 : Float
+0 = fin false 0 (pos 0)

-- the format writes zero in one way
pub one_zero : (e : ℤ) → T (eqb (up e * down e) 1) → e ≡ pos 0
one_zero (pos zero) h = refl
one_zero (pos (suc k)) h = absurd (omega (arith, eqb→eq (2 ^ suc k * 1) 1 h, pow-suc 2 k, pow_pos k))
one_zero (negsuc k) h = absurd (omega (arith, eqb→eq (1 * 2 ^ suc k) 1 h, pow-suc 2 k, pow_pos k))

pub no_size : (s : Bool) (m : ℕ) (e : ℤ) → T (fits binary32 (fin s m e)) → m * up e ≡ 0 → (m ≡ 0) × (e ≡ pos 0)
unfolding fits
no_size s zero e f h = (refl, one_zero e f)
no_size s (suc m) e f h = absurd (omega (arith, mul-pos {m = suc m} {n = up e} (omega arith) (up_pos e)))
