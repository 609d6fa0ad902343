-- The binary digits of a whole number up to its last 1: those of its odd part, the number without its factors of two. An exact root of an f32
-- has 12 of them at most.
use mathlib.Core.Path.{◌≡◌, refl, sym, ap, ◌∙◌, subst}
use Prim.Native.Nat.{ℕ, zero, suc, ◌+◌, ◌-◌, ◌*◌, ◌/◌, ◌%◌, ◌^◌, ◌≤◌, ◌<◌}
use native.Mathlib.Nat.{lt_of_lt_of_le, le_of_suc-le-suc}
use native.Mathlib.Nat.{mul_assoc, mul-one, mul-le-mul_right, mul-mul-mul_comm, pow-succ'}
use native.Mathlib.Omega.{arith}
use lib.Bits.{shifted_half, shifted_even}
use lib.Count.{count_trailing_zeros}
use lib.Dec.{lit≤}
use lib.Pow.{pow-add, shl_lt}
use lib.Ieee.{size}
use lib.Ieee.Digits.{size-lt, size-le, size_reaches}
use Rattle.float.proofs.Units.{Representable}
use Rattle.root.specs.Digits.{to_last_one, HasDigits}
use Rattle.root.proofs.Squares.{square_odd, root_lt}
use Rattle.root.proofs.Leading.{size_above}
use Rattle.root.proofs.Halfway.{odd_apart}

-- ---- trailing zeros add to the digits, and are all that is not counted

pub size_shifted : (m i : ℕ) → 0 < m → size (m * 2 ^ i) ≡ size m + i
size_shifted m i some =
    let last : size m - 1 < size m = omega (arith, size_above m 0 some) in
    let reach : 2 ^ (size m - 1 + i) ≤ m * 2 ^ i =
    rw (pow-add 2 (size m - 1) i) (mul-le-mul_right (2 ^ i) (size_reaches m (size m - 1) last)) in
    omega (arith, size-le (m * 2 ^ i) (size m + i) (shl_lt (size m) i (size-lt m)), size_above (m * 2 ^ i) (size m - 1 + i) reach)

trailing : (d m i : ℕ) → m % 2 ≡ 1 → i < d → count_trailing_zeros d (m * 2 ^ i) ≡ i
unfolding count_trailing_zeros
trailing zero m i o h = omega arith
trailing (suc d) m zero o h = rw (mul-one m, o)
trailing (suc d) m (suc i) o h = rw (shifted_even m i, shifted_half m i) (ap suc (trailing d m i o (le_of_suc-le-suc h)))

pub to_last_one_lem : {r d : ℕ} → HasDigits r d → to_last_one r ≡ d
to_last_one_lem {r} {d} h =
    let m = h.odd_part in
    let i = h.zeros in
    let some : 0 < m = omega (arith, h.odd) in
    let length : size r ≡ size m + i = ap size (sym h.value) ∙ size_shifted m i some in
    let within : i < size r = omega (arith, size_above m 0 some) in
    let after : count_trailing_zeros (size r) r ≡ i = ap (count_trailing_zeros (size r)) (sym h.value) ∙ trailing (size r) m i h.odd within in
    omega (arith, h.count)

-- a power of two more changes only the zeros
pub shifted_digits : {r d : ℕ} (k : ℕ) → HasDigits r d → HasDigits (r * 2 ^ k) d
shifted_digits {r} {d} k h = record {
  odd_part = h.odd_part;
  zeros = h.zeros + k;
  value = rw (pow-add 2 h.zeros k, ← h.value) (sym (mul_assoc h.odd_part (2 ^ h.zeros) (2 ^ k)));
  odd = h.odd;
  count = h.count;
}

-- ---- every number above zero has such digits: it is an odd one times a power of two
odd_times : (d w : ℕ) → 0 < w → w < 2 ^ d → (c : ℕ) × HasDigits w c
odd_times zero w some h = absurd (omega arith)
odd_times (suc d) w some h =
    let double : w < 2 * 2 ^ d = rw (pow-succ' 2 d) at h in
    go (w % 2) refl (λ (e : w % 2 ≡ 0). odd_times d (w / 2) (omega arith) (omega arith))
  where
    go : (r : ℕ) → w % 2 ≡ r → (w % 2 ≡ 0 → (c : ℕ) × HasDigits (w / 2) c) → (c : ℕ) × HasDigits w c
    go zero e half =
        let t = half e in
        let twice : w / 2 * 2 ^ 1 ≡ w = omega arith in
        (t.0, subst (λ (v : ℕ). HasDigits v t.0) twice (shifted_digits 1 t.1))
    go (suc r) e half =
        (size w, record { odd_part = w; zeros = 0; value = mul-one w; odd = omega arith; count = refl })

-- ---- an exact root of a number of at most 24 digits times a power of two

square_is_odd : (m : ℕ) → m % 2 ≡ 1 → m * m % 2 ≡ 1
square_is_odd m o =
    let h = m / 2 in
    let halves : m ≡ 2 * h + 1 = omega arith in
    let squares : m * m ≡ (2 * h + 1) * (2 * h + 1) = ap (λ (x : ℕ). x * x) halves in
    omega (arith, square_odd h)

-- its odd part has at most 12: the square of that is odd, and so it is no longer than those 24
short : {n w d : ℕ} → Representable n → w * w ≡ n → (h : HasDigits w d) → h.odd_part < 2 ^ 12
short {n} {w} {d} r e h =
    let m = h.odd_part in
    let k = h.zeros in
    let square : m * 2 ^ k * (m * 2 ^ k) ≡ n = ap (λ (x : ℕ). x * x) h.value ∙ e in
    let same : m * m * 2 ^ (k + k) ≡ r.digits * 2 ^ r.places =
    rw (pow-add 2 k k) (sym (mul-mul-mul_comm m (2 ^ k) m (2 ^ k)) ∙ square ∙ r.value) in
    let within : r.digits < m * m → ⊥ = λ g. odd_apart (m * m) r.digits (k + k) r.places (square_is_odd m h.odd) g same in
    root_lt m (2 ^ 12) (omega (arith, r.few))

pub exact_few : {n w d : ℕ} → Representable n → w * w ≡ n → HasDigits w d → d ≤ 12
exact_few r e h = omega (arith, h.count, size-le h.odd_part 12 (short r e h))

pub exact_representable : {n w : ℕ} → Representable n → 0 < w → w * w ≡ n → Representable w
exact_representable {n} {w} r some e =
    let h = (odd_times (size w) w some (size-lt w)).1 in
    record { digits = h.odd_part; places = h.zeros; few = lt_of_lt_of_le (short r e h) (lit≤ tt); value = sym h.value }
