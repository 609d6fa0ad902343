-- The whole numbers around a size, and that an f32 holds each exactly. Sizes are compared over whole numbers:
-- n against m * 2 ^ e is n * down e against m * up e.
use Rattle.std.proofs.Common.{◌≡◌, ℕ, zero, suc, ◌+◌, ◌-◌, ◌*◌, ◌^◌, ◌≤◌, Bool, T, ℤ, pos, negsuc, sym, refl, ◌∙◌, subst, le_trans, add-zero, div-lt_iff_lt-mul, add-mul, le-div_iff_mul-le, div-le_self, div-mul-le_self, div-one, arith, pow_pos}
use native.Mathlib.Nat.{div-le_of_le-mul, lt-div-mul-add}
use lib.Ieee.{Float, fin, binary32, up, down, fits}
use lib.Ieee.Fits.{down_pos}
use lib.Ieee.Exact.{HasValue}
use lib.Ieee.Back.{round_whole}
use Rattle.float.proofs.Units.{in_units_lem}
use Rattle.rounding.specs.Values.{size_down, size_up, whole_of}
use Rattle.rounding.proofs.Whole.{is_whole}

-- n is the greatest whole number that is not above the size m * 2 ^ e, or the least that is not below it
pub record Greatest (n m : ℕ) (e : ℤ) : Type 0 where
  pub not_above : n * down e ≤ m * up e
  pub greatest : (k : ℕ) → k * down e ≤ m * up e → k ≤ n

pub record Least (n m : ℕ) (e : ℤ) : Type 0 where
  pub not_below : m * up e ≤ n * down e
  pub least : (k : ℕ) → m * up e ≤ k * down e → n ≤ k

pub down_greatest : (m : ℕ) (e : ℤ) → Greatest (size_down m e) m e
down_greatest m e = record { not_above = div-mul-le_self (m * up e) (down e); greatest = λ k h. (le-div_iff_mul-le (down_pos e)).1 h }

pub up_least : (m : ℕ) (e : ℤ) → Least (size_up m e) m e
up_least m e =
    record {
      not_below = omega (arith, lt-div-mul-add {a = m * up e + (down e - 1)} (down_pos e), down_pos e);
      least = λ k h. omega (arith, (div-lt_iff_lt-mul {x = m * up e + (down e - 1)} {y = k + 1} (down_pos e)).1 (omega (arith, add-mul k 1 (down e), down_pos e)));
    }

-- the whole number is held exactly
exact_at : (s : Bool) (n : ℕ) → n ≤ 2 ^ 24 → HasValue (whole_of s n) s n 1
unfolding whole_of
exact_at s n h = round_whole binary32 s n h

-- an f32 with no fraction is that whole number
exact_pos : (s : Bool) (m k n : ℕ) → T (fits binary32 (fin s (suc m) (pos k))) → n ≡ suc m * 2 ^ k → HasValue (whole_of s n) s n 1
exact_pos s m k n f is =
    subst (λ (i : ℕ). HasValue (whole_of s i) s i 1) (sym is) (subst (λ (x : Float). HasValue x s (suc m * 2 ^ k) 1) (is_whole s m k f) (refl, refl))

pub down_exact : (s : Bool) (m : ℕ) (e : ℤ) → T (fits binary32 (fin s m e)) → HasValue (whole_of s (size_down m e)) s (size_down m e) 1
down_exact s zero e f = exact_at s _ (le_trans (div-le_self (0 * up e) (down e)) (omega arith))
down_exact s (suc m) (pos k) f = exact_pos s m k _ f (div-one (suc m * 2 ^ k))
down_exact s (suc m) (negsuc k) f = exact_at s _ (le_trans (div-le_self (suc m * 1) (2 ^ suc k)) (omega (arith, (in_units_lem s (suc m) (negsuc k) f).few)))

pub up_exact : (s : Bool) (m : ℕ) (e : ℤ) → T (fits binary32 (fin s m e)) → HasValue (whole_of s (size_up m e)) s (size_up m e) 1
up_exact s zero e f = exact_at s _ (div-le_of_le-mul (down e) (omega (arith, down_pos e)))
up_exact s (suc m) (pos k) f = exact_pos s m k _ f (div-one (suc m * 2 ^ k + 0) ∙ add-zero (suc m * 2 ^ k))
up_exact s (suc m) (negsuc k) f = exact_at s _ (div-le_of_le-mul (2 ^ suc k) (omega (arith, (in_units_lem s (suc m) (negsuc k) f).few, pow_pos (suc k))))
