-- The whole part of a number from 1 up to 2 ^ 24, from its bits: its 24 digits, less those behind the point.
use Rattle.std.proofs.Common.{◌≡◌, ℕ, zero, suc, ◌+◌, ◌-◌, ◌*◌, ◌/◌, ◌%◌, ◌^◌, ◌<◌, ◌≤◌, Bool, true, false, cond, not, T, eqb, leb, ℤ, sym, ap, ◌∙◌, subst, inl, inr, le_trans, le_of_eq, lt_of_lt_of_le, le-add_right, lt_of_le_of_lt, mul-le-mul_right, mod-eq_of_lt, mul_comm, add_comm, lt_of_mul-lt-mul_right, eq-or-lt_of_le, mul-lt-mul_of_pos_right, mul_right_comm, le_of_mul-le-mul_right, arith, lit≤, pow_pos, pow-add, shl_lt, shr-shr, leb-false}
use lib.Pow.{shl-shr}
use lib.Ieee.{Float, nan, inf, fin, binary32, up, down, of_fields, of_bits, to_bits, fits, is_nan, le, lt, to_unsigned}
use lib.Ieee.Bits.{of_bits-to_bits}
use lib.Ieee.Exact.{HasValue}
use lib.Ieee.Fits.{down_pos}
use lib.Ieee.Nearest.{div_same}
use lib.Ieee.Scale.{finite}
use Rattle.float.proofs.Fields.{field_units, field_value, field_top}
use Rattle.float.proofs.Units.{pow_lt_back}
use Rattle.rounding.proofs.Sizes.{pow2, Under, under, part, unsigned, over_zero, one_size}

-- ---- the field of a number is not the highest
field_lt : (s : Bool) (j t m : ℕ) (e : ℤ) → j ≤ 255 → of_fields binary32 s j t ≡ fin false m e → j < 255
field_lt s j t m e h is = elim (eq-or-lt_of_le h) [ inl top ↦ absurd (no (eqb t 0) (sym (field_top s t) ∙ rw top at is)) | inr less ↦ less ]
  where
    no : (b : Bool) → cond b (inf s) nan ≡ fin false m e → ⊥
    no true is = subst (λ (y : Float). T (not (finite y))) is tt
    no false is = subst (λ (y : Float). T (not (finite y))) is tt

-- ---- the field of a number from 1 up to 2 ^ 24 says how many of the digits are behind the point
record Cut (j t n : ℕ) : Type 0 where
  low : 127 ≤ j
  high : j ≤ 150
  shifted : (t + 2 ^ 23) / 2 ^ (150 - j) ≡ n

shifted_down : (q j : ℕ) → j ≤ 149 → q / 2 ^ (149 - j) ≡ q * 2 ^ j / 2 ^ 149
shifted_down q j h =
    let join : j + (149 - j) ≡ 149 = omega arith in
    ap (λ (k : ℕ). k / 2 ^ (149 - j)) (sym (shl-shr q j))
    ∙ shr-shr (q * 2 ^ j) j (149 - j)
    ∙ ap (λ (k : ℕ). q * 2 ^ j / 2 ^ k) join

-- n / d is from 1 up to 2 ^ 24, and so is the same number in units, a / 2 ^ 149
module _ (n d a : ℕ) (p : 0 < d) (v : n * 2 ^ 149 ≡ a * d) where
  units_ge : d ≤ n → 2 ^ 149 ≤ a
  units_ge h = le_of_mul-le-mul_right (le_trans (le_of_eq (mul_comm (2 ^ 149) d)) (le_trans (mul-le-mul_right (2 ^ 149) h) (le_of_eq v))) p

  units_lt : n < 2 ^ 24 * d → a < 2 ^ 173
  units_lt h = lt_of_mul-lt-mul_right d (lt_of_le_of_lt (le_of_eq (sym v)) (lt_of_lt_of_le (mul-lt-mul_of_pos_right h (pow_pos 149)) (le_of_eq (mul_right_comm (2 ^ 24) d (2 ^ 149)))))

cut : (j t n d : ℕ) → t < 2 ^ 23 → 0 < d → d ≤ n → n < 2 ^ 24 * d → n * 2 ^ 149 ≡ field_units j t * d → Cut j t (n / d)
cut zero t n d h p lo hi v = absurd (omega (arith, pow_lt_back 149 (23 + 0) (lt_of_le_of_lt (units_ge n d (t * 2 ^ 0) p v lo) (shl_lt 23 0 h))))
cut (suc j) t n d h p lo hi v =
    let q = 2 ^ 23 + t in
    let few : q < 2 ^ 24 = omega arith in
    let least : 149 < 24 + j = pow_lt_back 149 (24 + j) (lt_of_le_of_lt (units_ge n d (q * 2 ^ j) p v lo) (shl_lt 24 j few)) in
    let most : 23 + j < 173 =
    pow_lt_back (23 + j) 173 (lt_of_le_of_lt (le_trans (le_of_eq (pow-add 2 23 j)) (mul-le-mul_right (2 ^ j) (le-add_right (2 ^ 23) t))) (units_lt n d (q * 2 ^ j) p v hi)) in
    let by : 150 - suc j ≡ 149 - j = omega arith in
    record {
      low = omega arith;
      high = omega arith;
      shifted =
          rw (by, add_comm t (2 ^ 23))
          (shifted_down q j (omega arith) ∙ sym (div_same n d (q * 2 ^ j) (2 ^ 149) p (pow_pos 149) v));
    }

-- ---- by the bits
cut_bits : (b m : ℕ) (e : ℤ) → of_bits binary32 b ≡ fin false m e → down e ≤ m * up e → m * up e < 2 ^ 24 * down e → Cut (b / 2 ^ 23) (b % 2 ^ 23) (part m e)
unfolding of_bits
cut_bits b m e is lo hi =
    let s = leb (2 ^ 31) b in
    let j = b % 2 ^ 31 / 2 ^ 23 in
    let t = b % 2 ^ 23 in
    let v : HasValue (fin false m e) s (field_units j t) (2 ^ 149) =
    subst (λ (y : Float). HasValue y s (field_units j t) (2 ^ 149)) is (field_value s j t (field_lt s j t m e (omega arith) is)) in
    let small : b < 2 ^ 31 = leb-false (2 ^ 31) b (sym v.0) in
    subst (λ (k : ℕ). Cut (k / 2 ^ 23) (b % 2 ^ 23) (part m e)) (mod-eq_of_lt small)
    (cut (b % 2 ^ 31 / 2 ^ 23) (b % 2 ^ 23) (m * up e) (down e) (omega arith) (down_pos e) lo hi v.1)

-- ---- what `whole_part` asks
module _ (x : Float) (f : T (fits binary32 x)) (a : le (pow2 0) x ≡ true) (b : lt x (pow2 24) ≡ true) where
  abbrev bits : ℕ
  bits = to_bits binary32 x

  u : Under 24 x
  u = under 24 x (over_zero x a) b

  c : Cut (bits / 2 ^ 23) (bits % 2 ^ 23) (part u.m u.e)
  c = cut_bits bits u.m u.e (of_bits-to_bits binary32 x f ∙ u.is) (one_size u.m u.e (rw u.is at a)) u.below

  pub is_no_nan : T (not (is_nan x))
  unfolding is_nan
  is_no_nan = subst (λ (y : Float). T (not (is_nan y))) (sym u.is) tt

  pub field_low : 127 ≤ bits / 2 ^ 23
  field_low = c.low

  pub field_high : bits / 2 ^ 23 ≤ 150
  field_high = c.high

  pub whole_part : (bits % 2 ^ 23 + 2 ^ 23) / 2 ^ (150 - bits / 2 ^ 23) ≡ to_unsigned 32 x
  whole_part = c.shifted ∙ sym (unsigned 32 (lit≤ tt) u)
