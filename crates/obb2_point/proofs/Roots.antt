-- Which floats have no root, and which of two has not the lesser one, by one comparison each.
use mathlib.Core.Path.{◌≡◌, refl, sym, ap, ◌∙◌}
use mathlib.Core.Bool.{Bool, true, false, not, true≢false}
use Prim.Native.Nat.{ℕ, zero, suc, ◌*◌, ◌<◌}
use native.Mathlib.Nat.{zero-mul, mul-pos, zero-lt-suc}
use native.Mathlib.Omega.{arith}
use lib.IntN.{ℤ}
use lib.Dec.{T}
use lib.Ieee.{Float, nan, inf, fin, binary32, up, down, fits, le, lt, eq, is_nan}
use lib.Ieee.Fits.{up_pos}
use borrow.Author.Tests.{lt-ltb, ne_eqb}
use Rattle.float.proofs.Sign.{+0}
use Rattle.float.proofs.Tests.{odd_number}
use Rattle.root.specs.Root.{sqrt_of, nearest_root, rounded, dropped}
use Rattle.root.specs.Radicand.{radicand}
use Rattle.root.proofs.Special.{sqrt_of_negative}
use Rattle.root.proofs.Monotone.{sqrt_monotone}

-- ---- zero compared

zero_le_zero : (s : Bool) (e : ℤ) → le +0 (fin s 0 e) ≡ true
unfolding le lt eq
zero_le_zero true e = simp zero-mul
zero_le_zero false e = simp zero-mul

some_size : (m : ℕ) (e : ℤ) → 0 < suc m * up e * 1
some_size m e = omega (arith, mul-pos {m = suc m} {n = up e} (zero-lt-suc m) (up_pos e))

zero_le_minus : (m : ℕ) (e : ℤ) → le +0 (fin true (suc m) e) ≡ false
unfolding le lt eq
zero_le_minus m e = rw (ne_eqb (0 * down e) (suc m * up e * 1) (λ h. omega (arith, h, zero-mul (down e), some_size m e)))

zero_le_plus : (m : ℕ) (e : ℤ) → le +0 (fin false (suc m) e) ≡ true
unfolding le lt eq
zero_le_plus m e = rw (lt-ltb (0 * down e) (suc m * up e * 1) (omega (arith, zero-mul (down e), some_size m e)))

-- ---- roots

pub no_root : (x : Float) → not (le +0 x) ≡ is_nan (sqrt_of x)
unfolding le lt eq is_nan sqrt_of nearest_root
no_root nan = refl
no_root (inf true) = refl
no_root (inf false) = refl
no_root (fin s zero e) = ap not (zero_le_zero s e)
no_root (fin true (suc m) e) = ap not (zero_le_minus m e) ∙ sym (ap is_nan (sqrt_of_negative m e))
no_root (fin false (suc m) e) = ap not (zero_le_plus m e) ∙ sym (rw (ne_eqb (suc m) 0 (λ h. omega (arith, h))) (odd_number 25 false (rounded n) (dropped n) 149))
  where
    n : ℕ
    n = radicand (fin false (suc m) e)

pub no_lesser_root : (x y : Float) → T (fits binary32 x) → T (fits binary32 y) → lt y x ≡ false → lt (sqrt_of y) (sqrt_of x) ≡ false
no_lesser_root x y f g h = go (lt (sqrt_of y) (sqrt_of x)) refl
  where
    go : (t : Bool) → lt (sqrt_of y) (sqrt_of x) ≡ t → t ≡ false
    go true k = absurd (true≢false (sym (sqrt_monotone x y f g k) ∙ h))
    go false k = refl
