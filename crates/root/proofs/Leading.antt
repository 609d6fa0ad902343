-- The leading 24 digits of a whole root, and how many come after them.
use mathlib.Core.Path.{◌≡◌}
use Prim.Native.Nat.{ℕ, ◌+◌, ◌-◌, ◌*◌, ◌^◌, ◌≤◌, ◌<◌}
use native.Mathlib.Nat.{le_trans, lt_of_le_of_lt, lt_of_lt_of_le, lt_of_not-le, not-le_of_lt}
use native.Mathlib.Nat.{add-mul, one-mul, mul-pos, mul-mul-mul_comm, mul-le-mul_right, mul-lt-mul_of_pos_right}
use native.Mathlib.Nat.{div-mul-le_self, lt-div-mul-add, le-div_iff_mul-le, div-eq_of_lt-le}
use native.Mathlib.Omega.{arith}
use lib.Pow.{pow-add, pow_mono, pow_pos}
use lib.Ieee.{size}
use lib.Ieee.Digits.{size-lt, size-le, size_reaches}
use Rattle.root.specs.Root.{whole_root_of, dropped, leading}
use Rattle.root.proofs.Squares.{root_lt}
use Rattle.root.proofs.Whole.{IsRoot, whole_root, root_low}

pub size_above : (w j : ℕ) → 2 ^ j ≤ w → j < size w
size_above w j h = lt_of_not-le (λ (g : size w ≤ j). not-le_of_lt (lt_of_lt_of_le (size-lt w) (pow_mono g)) h)

-- from q * 2 ^ k up to the next such number there are k digits after the leading 24, which are q
pub digits_after : (k q w : ℕ) → 2 ^ 23 ≤ q → q < 2 ^ 24 → q * 2 ^ k ≤ w → w < (q + 1) * 2 ^ k → size w - 24 ≡ k
digits_after k q w low high from upto =
    let top : q + 1 ≤ 2 ^ 24 = omega arith in
    let under : w < 2 ^ (24 + k) = lt_of_lt_of_le upto (rw (pow-add 2 24 k) (mul-le-mul_right (2 ^ k) top)) in
    let reach : 2 ^ (23 + k) ≤ w = le_trans (rw (pow-add 2 23 k) (mul-le-mul_right (2 ^ k) low)) from in
    omega (arith, size-le w (24 + k) under, size_above w (23 + k) reach)

-- ---- of any number
pub leading_low : (n : ℕ) → 2 ^ 46 ≤ n → 2 ^ 23 ≤ leading n
leading_low n big =
    let w = whole_root_of n in
    let long : 23 < size w = size_above w 23 (root_low big (whole_root n)) in
    let last : 23 + dropped n < size w = omega arith in
    let reach : 2 ^ (23 + dropped n) ≤ w = size_reaches w (23 + dropped n) last in
    (le-div_iff_mul-le (pow_pos (dropped n))).1 (rw (pow-add 2 23 (dropped n)) at reach)

pub leading_under : (n : ℕ) → leading n * 2 ^ dropped n ≤ whole_root_of n
leading_under n = div-mul-le_self (whole_root_of n) (2 ^ dropped n)

pub leading_over : (n : ℕ) → whole_root_of n < (leading n + 1) * 2 ^ dropped n
leading_over n =
    rw (add-mul (leading n) 1 (2 ^ dropped n), one-mul (2 ^ dropped n)) (lt-div-mul-add (pow_pos (dropped n)))

-- ---- of a power of four times m, where the whole root q of m has 24 digits
scaled_low : {m q w : ℕ} (u : ℕ) → IsRoot m q → IsRoot (m * (u * u)) w → q * u ≤ w
scaled_low {m} {q} {w} u r s =
    let square : q * q * (u * u) < (w + 1) * (w + 1) = lt_of_le_of_lt (mul-le-mul_right (u * u) r.low) s.next in
    let under : q * u < w + 1 = root_lt (q * u) (w + 1) (rw (mul-mul-mul_comm q u q u) square) in
    omega arith

scaled_high : {m q w : ℕ} (u : ℕ) → 0 < u → IsRoot m q → IsRoot (m * (u * u)) w → w < (q + 1) * u
scaled_high {m} {q} {w} u p r s =
    let square : m * (u * u) < (q + 1) * (q + 1) * (u * u) = mul-lt-mul_of_pos_right r.next (mul-pos p p) in
    root_lt w ((q + 1) * u) (rw (mul-mul-mul_comm (q + 1) u (q + 1) u) (lt_of_le_of_lt s.low square))

module _ {m q : ℕ} (k : ℕ) (r : IsRoot m q) (low : 2 ^ 23 ≤ q) (high : q < 2 ^ 24) where
  from : q * 2 ^ k ≤ whole_root_of (m * (2 ^ k * 2 ^ k))
  from = scaled_low (2 ^ k) r (whole_root (m * (2 ^ k * 2 ^ k)))

  upto : whole_root_of (m * (2 ^ k * 2 ^ k)) < (q + 1) * 2 ^ k
  upto = scaled_high (2 ^ k) (pow_pos k) r (whole_root (m * (2 ^ k * 2 ^ k)))

  pub dropped_is : dropped (m * (2 ^ k * 2 ^ k)) ≡ k
  dropped_is = digits_after k q _ low high from upto

  pub leading_is : leading (m * (2 ^ k * 2 ^ k)) ≡ q
  leading_is = rw dropped_is (div-eq_of_lt-le (2 ^ k) from upto)
