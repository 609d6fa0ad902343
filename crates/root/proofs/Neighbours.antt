-- From 2 ^ (23 + k) units up the f32s are multiples of 2 ^ k, so none lies between two in a row.
use mathlib.Core.Path.{◌≡◌, sym, ◌∙◌}
use Prim.Native.Nat.{ℕ, suc, ◌+◌, ◌-◌, ◌*◌, ◌^◌, ◌≤◌, ◌<◌}
use native.Mathlib.Nat.{le_of_eq, le_of_lt, le_trans, lt_of_lt_of_le, lt_of_le_of_lt, lt_of_not-le, not-le_of_lt}
use native.Mathlib.Nat.{le_of_suc-le-suc, mul-le-mul_right, lt_of_mul-lt-mul_right}
use native.Mathlib.Omega.{arith}
use lib.Pow.{pow-add, shl_lt}
use Rattle.float.proofs.Units.{Representable, multiple, pow_lt_back}

multiple_of : (k y : ℕ) → Representable y → 2 ^ (23 + k) ≤ y → (z : ℕ) × (y ≡ z * 2 ^ k)
multiple_of k y r h =
    let m = r.digits in
    let j = r.places in
    let under : 2 ^ (23 + k) < 2 ^ (24 + j) = lt_of_le_of_lt h (rw r.value (shl_lt 24 j r.few)) in
    let few : 23 + k < 24 + j = pow_lt_back (23 + k) (24 + j) under in
    (m * 2 ^ (j - k), r.value ∙ multiple m j k (omega arith))

module _ (k q y : ℕ) (low : 2 ^ 23 ≤ q) (r : Representable y) where
  pub next_up : q * 2 ^ k < y → (q + 1) * 2 ^ k ≤ y
  next_up h =
      let reach : 2 ^ (23 + k) ≤ q * 2 ^ k = rw (pow-add 2 23 k) (mul-le-mul_right (2 ^ k) low) in
      let g = multiple_of k y r (le_trans reach (le_of_lt h)) in
      let above : q < g.0 = lt_of_mul-lt-mul_right (2 ^ k) (lt_of_lt_of_le h (le_of_eq g.1)) in
      let next : q + 1 ≤ g.0 = omega arith in
      le_trans (mul-le-mul_right (2 ^ k) next) (le_of_eq (sym g.1))

  pub next_down : y < (q + 1) * 2 ^ k → y ≤ q * 2 ^ k
  next_down h = le_of_suc-le-suc (lt_of_not-le (λ (g : suc (q * 2 ^ k) ≤ y). not-le_of_lt h (next_up g)))
