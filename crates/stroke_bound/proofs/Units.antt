-- The exact difference of two f32, in units and over the denominators of the two.
use mathlib.Core.Path.{◌≡◌, refl, sym, ap, ◌∙◌}
use mathlib.Core.Bool.{Bool, true, false, cond}
use Prim.Native.Nat.{ℕ, zero, suc, ◌+◌, ◌-◌, ◌*◌, ◌^◌}
use native.Mathlib.Nat.{mul_comm, mul_assoc, mul_right_comm, add-mul}
use native.Mathlib.Omega.{arith}
use borrow.Author.Tests.{ltb-true, ltb-false}
use lib.IntN.{ℤ, pos, negsuc, nat_abs, ◌-ℤ◌, sub_ℕ}
use lib.Dec.{T, ltb}
use lib.Ieee.{fin, binary32, up, down, fits}
use Rattle.float.specs.Units.{signed, in_units}
use Rattle.float.proofs.Units.{in_units_lem, units_exact}
use Rattle.rounded.proofs.Apart.{sub_mul}
use Rattle.stroke_bound.specs.Bound.{difference_of}

-- |±a - ±b|
abbrev pub gap : Bool → ℕ → Bool → ℕ → ℕ
gap true a true b = a - b + (b - a)
gap false a false b = a - b + (b - a)
gap true a false b = a + b
gap false a true b = a + b

-- ---- over whole numbers with a sign

apart : (a b : ℕ) → nat_abs (sub_ℕ a b) ≡ a - b + (b - a)
apart a b = go (ltb a b) refl
  where
    go : (t : Bool) → ltb a b ≡ t → nat_abs (cond t (negsuc (b - suc a)) (pos (a - b))) ≡ a - b + (b - a)
    go true e = omega (arith, ltb-true a b e)
    go false e = omega (arith, ltb-false a b e)

pub signed_gap : (s : Bool) (a : ℕ) (t : Bool) (b : ℕ) → nat_abs (signed t b -ℤ signed s a) ≡ gap s a t b
signed_gap false zero false b = omega arith
signed_gap false (suc a) false b = apart b (suc a) ∙ omega arith
signed_gap false zero true zero = refl
signed_gap false zero true (suc b) = apart 0 (suc b) ∙ omega arith
signed_gap false (suc a) true zero = apart 0 (suc a) ∙ omega arith
signed_gap false (suc a) true (suc b) = omega arith
signed_gap true zero false b = omega arith
signed_gap true (suc a) false b = omega arith
signed_gap true zero true zero = refl
signed_gap true zero true (suc b) = apart 0 (suc b) ∙ omega arith
signed_gap true (suc a) true zero = omega arith
signed_gap true (suc a) true (suc b) = apart (suc a) (suc b)

-- ---- over the two denominators

level_scale : (a b c : ℕ) → a * c - b * c + (b * c - a * c) ≡ (a - b + (b - a)) * c
level_scale a b c = omega (arith, add-mul (a - b) (b - a) c, sub_mul a b c, sub_mul b a c)

gap_scale : (s t : Bool) (a b c : ℕ) → gap s (a * c) t (b * c) ≡ gap s a t b * c
gap_scale true false a b c = sym (add-mul a b c)
gap_scale false true a b c = sym (add-mul a b c)
gap_scale true true a b c = level_scale a b c
gap_scale false false a b c = level_scale a b c

-- M / E is a units and N / F is b, of which U are one
over : (s t : Bool) (M N E F a b U : ℕ) → M * U ≡ a * E → N * U ≡ b * F → gap s (M * F) t (N * E) * U ≡ gap s a t b * (E * F)
over s t M N E F a b U x y =
    sym (gap_scale s t (M * F) (N * E) U)
    ∙ ap (λ (z : ℕ). gap s z t (N * E * U)) (mul_right_comm M F U ∙ ap (λ (z : ℕ). z * F) x ∙ mul_assoc a E F)
    ∙ ap (λ (z : ℕ). gap s (a * (E * F)) t z) (mul_right_comm N E U ∙ ap (λ (z : ℕ). z * E) y ∙ mul_assoc b F E ∙ ap (λ (z : ℕ). b * z) (mul_comm F E))
    ∙ gap_scale s t a b (E * F)

pub difference_over :
    (s : Bool) (m : ℕ) (e : ℤ) (t : Bool) (n : ℕ) (d : ℤ) → T (fits binary32 (fin s m e)) → T (fits binary32 (fin t n d)) →
    gap s (m * up e * down d) t (n * up d * down e) * 2 ^ 149 ≡ difference_of (fin s m e) (fin t n d) * (down e * down d)
difference_over s m e t n d f g =
    over s t (m * up e) (n * up d) (down e) (down d) (in_units (fin s m e)) (in_units (fin t n d)) (2 ^ 149)
    (units_exact s m e (in_units_lem s m e f)) (units_exact t n d (in_units_lem t n d g))
    ∙ ap (λ (z : ℕ). z * (down e * down d)) (sym (signed_gap s (in_units (fin s m e)) t (in_units (fin t n d))))
