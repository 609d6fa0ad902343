-- The bits of a rounded root: k * 2 ^ 23 + q stands for q * 2 ^ k units, where q has 24 digits.
use mathlib.Core.Path.{◌≡◌, sym, ap, ◌∙◌}
use mathlib.Core.Bool.{false}
use Prim.Native.Nat.{ℕ, ◌+◌, ◌-◌, ◌*◌, ◌%◌, ◌^◌, ◌≤◌, ◌<◌}
use native.Mathlib.Nat.{le_refl, le_of_lt, lt_of_lt_of_le}
use native.Mathlib.Nat.{mul_assoc, mul-pos, mul-div_cancel, mul-lt-mul_of_pos_right}
use native.Mathlib.Omega.{arith}
use lib.Dec.{T, lit≤}
use lib.Pow.{pow-add, pow_mono, pow_pos, shl_lt}
use lib.Ieee.{binary32, size, odd, of_bits, to_bits}
use lib.Ieee.Bits.{of_bits-to_bits}
use lib.Ieee.Exact.{odd_sign}
use lib.Ieee.Fits.{odd-fits}
use lib.Ieee.Positive.{positive, positive_of_value}
use Rattle.float.specs.Units.{in_units}
use Rattle.root.specs.Root.{nearest_root}
use Rattle.root.specs.Steps.{half, Split, Rounds, Worked}
use Rattle.float.proofs.Units.{units_of_lem}
use Rattle.root.proofs.Leading.{digits_after}
use Rattle.root.proofs.Worked.{worked_scaled}
use Rattle.root.proofs.Units.{positive_bits}

module _ (q k : ℕ) (low : 2 ^ 23 ≤ q) (high : q < 2 ^ 24) where
  packed_positive : T (positive (odd 25 false q k 149))
  packed_positive =
      let some : 0 < q = omega arith in
      let units : 0 < q * 2 ^ k = mul-pos some (pow_pos k) in
      positive_of_value (odd 25 false q k 149) (q * 2 ^ k) (2 ^ 149) (odd_sign 25 false q k 149) units

  packed_bits : to_bits binary32 (odd 25 false q k 149) ≡ k * 2 ^ 23 + q
  packed_bits =
      let v = odd 25 false q k 149 in
      let more : q < q + 1 = omega arith in
      let upto : q * 2 ^ k < (q + 1) * 2 ^ k = mul-lt-mul_of_pos_right more (pow_pos k) in
      let after : size (q * 2 ^ k) - 24 ≡ k = digits_after k q (q * 2 ^ k) low high (le_refl (q * 2 ^ k)) upto in
      positive_bits v packed_positive
      ∙ rw (units_of_lem v false (q * 2 ^ k) (odd_sign 25 false q k 149), after, mul-div_cancel q (pow_pos k))

  packed : k ≤ 250 → of_bits binary32 (k * 2 ^ 23 + q) ≡ odd 25 false q k 149
  packed few =
      let room : 24 + k ≤ 277 = omega arith in
      let under : q * 2 ^ k < 2 ^ 277 = lt_of_lt_of_le (shl_lt 24 k high) (pow_mono room) in
      let digits : q < 2 ^ 25 = lt_of_lt_of_le high (lit≤ tt) in
      let held = odd-fits binary32 25 false q k digits (le_of_lt high) under in
      rw (← packed_bits) (of_bits-to_bits binary32 (odd 25 false q k 149) held)

-- ---- n is d where e is odd, and twice d where e is even
pub split_odd : (d e : ℕ) → 24 ≤ e → (e % 2 ≡ 0 → ⊥) → Split d e d
split_odd d e h z = go (half e) (omega arith)
  where
    go : (k : ℕ) → e ≡ 23 + (k + k) → d * 2 ^ e ≡ d * 2 ^ 23 * (2 ^ k * 2 ^ k)
    go k s = rw (s, pow-add 2 23 (k + k), pow-add 2 k k) (sym (mul_assoc d (2 ^ 23) (2 ^ k * 2 ^ k)))

pub split_even : (d e : ℕ) → 24 ≤ e → e % 2 ≡ 0 → Split d e (d + d)
split_even d e h z = go (half e) (omega arith)
  where
    go : (k : ℕ) → e ≡ 24 + (k + k) → d * 2 ^ e ≡ (d + d) * 2 ^ 23 * (2 ^ k * 2 ^ k)
    go k s =
        let double : d * 2 ^ 24 ≡ (d + d) * 2 ^ 23 = omega arith in
        rw (s, pow-add 2 24 (k + k), pow-add 2 k k, ← mul_assoc d (2 ^ 24) (2 ^ k * 2 ^ k), double)

-- ---- the float of the bits
root_of_scaled : {m q : ℕ} (k : ℕ) → Rounds m q → nearest_root (m * (2 ^ k * 2 ^ k)) ≡ odd 25 false q k 149
unfolding nearest_root
root_of_scaled k r = rw ((r.same k).0, (r.same k).1)

module _ {q : ℕ} (d e n : ℕ) (most : e ≤ 402) (split : Split d e n) (r : Rounds (n * 2 ^ 23) q) where
  float : of_bits binary32 (half e * 2 ^ 23 + q) ≡ odd 25 false q (half e) 149
  float = packed q (half e) r.low r.high (few e most)
    where
      few : (e : ℕ) → e ≤ 402 → half e ≤ 250
      few e h = omega arith

  pub root_float : (half e * 2 ^ 23 + q < 0x7f80_0000) × (of_bits binary32 (half e * 2 ^ 23 + q) ≡ nearest_root (d * 2 ^ e))
  root_float = (room e q most r.high, float ∙ sym (rw split (root_of_scaled (half e) r)))
    where
      room : (e q : ℕ) → e ≤ 402 → q < 2 ^ 24 → half e * 2 ^ 23 + q < 0x7f80_0000
      room e q h k = omega arith

  -- ---- and the count that the code returns with it
  pub root_digits : {w : ℕ} → Worked (n * 2 ^ 23) q w → Worked (d * 2 ^ e) (in_units (of_bits binary32 (half e * 2 ^ 23 + q))) w
  root_digits digits = rw (split, units) (worked_scaled (half e) digits)
    where
      units : in_units (of_bits binary32 (half e * 2 ^ 23 + q)) ≡ q * 2 ^ half e
      units = ap in_units float ∙ units_of_lem (odd 25 false q (half e) 149) false (q * 2 ^ half e) (odd_sign 25 false q (half e) 149)
