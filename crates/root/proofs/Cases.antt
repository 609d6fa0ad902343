-- The root of a float by its bits where it is not both finite and above zero: of the zeros, of +infinity, of a NaN, and below zero; and which
-- bits stand for a float that is both.
use mathlib.Core.Path.{◌≡◌, refl, sym}
use mathlib.Core.Logic.{◌⊎◌, inl, inr}
use mathlib.Core.Bool.{Bool, true, false, cond, true≢false}
use Prim.Native.Nat.{ℕ, zero, suc, ◌/◌, ◌%◌, ◌^◌, ◌≤◌, ◌<◌}
use native.Mathlib.Nat.{le_of_lt, eq-or-lt_of_le}
use native.Mathlib.Omega.{arith}
use lib.Dec.{T, eqb}
use lib.Ieee.{Float, nan, inf, fin, binary32, of_fields, of_bits}
use lib.Ieee.Exact.{HasValue}
use lib.Ieee.Positive.{positive, positive_of_value}
use Rattle.float.proofs.Fields.{field_units, field_value, field_top}
use Rattle.root.specs.Root.{sqrt_of}
use Rattle.root.proofs.Special.{sqrt_of_nan, sqrt_of_infinity, sqrt_of_minus_infinity}
use Rattle.root.proofs.Special.{sqrt_of_zero, sqrt_of_negative}
use Rattle.root.proofs.Patterns.{field_positive, sign_clear, sign_set, value_at}

-- the root of v is r, and v is not both finite and above zero: no digit is worked
abbrev pub Unworked : Float → Float → Type 0
Unworked v r = (sqrt_of v ≡ r) × (positive v ≡ false)

pub root_nan : Unworked nan nan
root_nan = (sqrt_of_nan, refl)

-- ---- the zeros
pub root_zero : Unworked (of_bits binary32 0) (of_bits binary32 0)
unfolding of_bits
root_zero = (sqrt_of_zero false, refl)

pub root_minus_zero : Unworked (of_bits binary32 0x8000_0000) (of_bits binary32 0x8000_0000)
unfolding of_bits
root_minus_zero = (sqrt_of_zero true, refl)

-- ---- positive and finite
pub positive_at : (b : ℕ) → 0 < b → b < 0x7f80_0000 → T (positive (of_bits binary32 b))
positive_at b p h =
    let units = field_units (b / 2 ^ 23) (b % 2 ^ 23) in
    let some : 0 < units = field_positive (b / 2 ^ 23) (b % 2 ^ 23) (omega arith) in
    positive_of_value (of_bits binary32 b) units (2 ^ 149) (value_at b h) some

-- ---- +infinity, and NaNs with the sign clear
pub root_top : (b : ℕ) → 0x7f80_0000 ≤ b → b < 0x8000_0000 → Unworked (of_bits binary32 b) (of_bits binary32 b)
root_top b l h =
    let field : b / 2 ^ 23 ≡ 255 = omega arith in
    rw (sign_clear b h, field, field_top false (b % 2 ^ 23)) (kept (eqb (b % 2 ^ 23) 0))
  where
    kept : (infinite : Bool) → Unworked (cond infinite (inf false) nan) (cond infinite (inf false) nan)
    kept true = (sqrt_of_infinity, refl)
    kept false = root_nan

-- ---- below zero, and NaNs with the sign set
value_negative : (v : Float) (a : ℕ) → 0 < a → HasValue v true a (2 ^ 149) → Unworked v nan
value_negative nan a p h = absurd h
value_negative (inf s) a p h = absurd h
value_negative (fin false m e) a p h = absurd (true≢false (sym h.0))
value_negative (fin true zero e) a p h = absurd (positive_of_value (fin false zero e) a (2 ^ 149) (refl, h.1) p)
value_negative (fin true (suc m) e) a p h = (sqrt_of_negative m e, refl)

pub root_negative : (b : ℕ) → 0x8000_0000 < b → b < 0x1_0000_0000 → Unworked (of_bits binary32 b) nan
root_negative b l h =
    let most : b % 0x8000_0000 / 2 ^ 23 ≤ 255 = omega arith in
    rw (sign_set b (le_of_lt l)) (go (b % 0x8000_0000 / 2 ^ 23) refl (eq-or-lt_of_le most))
  where
    none : (infinite : Bool) → Unworked (cond infinite (inf true) nan) nan
    none true = (sqrt_of_minus_infinity, refl)
    none false = root_nan

    go : (x : ℕ) → b % 0x8000_0000 / 2 ^ 23 ≡ x → (x ≡ 255) ⊎ (x < 255)
        → Unworked (of_fields binary32 true x (b % 2 ^ 23)) nan
    go x e (inl top) = rw (top, field_top true (b % 2 ^ 23)) (none (eqb (b % 2 ^ 23) 0))
    go x e (inr under) =
        value_negative (of_fields binary32 true x (b % 2 ^ 23)) (field_units x (b % 2 ^ 23))
        (field_positive x (b % 2 ^ 23) (omega arith))
        (field_value true x (b % 2 ^ 23) under)
