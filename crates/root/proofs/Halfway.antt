-- The point halfway between q and q + 1 steps of u, by its square: on which side of it a root lies, and that the root
-- of a number of at most 24 digits times a power of two is never on it.
use mathlib.Core.Path.{◌≡◌, sym, ◌∙◌}
use Prim.Native.Nat.{ℕ, zero, suc, ◌+◌, ◌*◌, ◌%◌, ◌^◌, ◌≤◌, ◌<◌}
use native.Mathlib.Nat.{mul_comm, mul_assoc, mul_left_comm, mul-pos, pow-succ'}
use native.Mathlib.Nat.{mul-le-mul_right, mul-lt-mul_of_pos_right, le-mul_of_pos_right}
use native.Mathlib.Omega.{arith}
use lib.Pow.{pow-add, pow_pos}
use Rattle.root.proofs.Squares.{square_odd, square_scaled}

-- twice the point is (2 * q + 1) * u
half_square : (q u : ℕ) → (2 * q + 1) * u * ((2 * q + 1) * u) ≡ (4 * (q * q + q) + 1) * (u * u)
half_square q u = square_scaled (2 * q + 1) u (square_odd q)

-- ---- the side, by what the square of q leaves of m
pub half_below : (m q u : ℕ) → q * q + q < m → (2 * q + 1) * u * ((2 * q + 1) * u) ≤ 4 * (m * (u * u))
half_below m q u h =
    let l : 4 * (q * q + q) + 1 ≤ 4 * m = omega arith in
    rw (half_square q u, ← mul_assoc 4 m (u * u)) (mul-le-mul_right (u * u) l)

pub half_above : (m q u : ℕ) → 0 < u → m ≤ q * q + q → 4 * (m * (u * u)) < (2 * q + 1) * u * ((2 * q + 1) * u)
half_above m q u positive h =
    let l : 4 * m < 4 * (q * q + q) + 1 = omega arith in
    rw (half_square q u, ← mul_assoc 4 m (u * u)) (mul-lt-mul_of_pos_right l (mul-pos positive positive))

-- ---- no tie

double : (a i : ℕ) → a * 2 ^ suc i ≡ 2 * (a * 2 ^ i)
double a i = rw (pow-succ' 2 i) (mul_left_comm a 2 (2 ^ i))

-- an odd number times a power of two is no smaller number times a power of two
pub odd_apart : (a m i j : ℕ) → a % 2 ≡ 1 → m < a → a * 2 ^ i ≡ m * 2 ^ j → ⊥
odd_apart a m i zero o l e = omega (arith, le-mul_of_pos_right a (pow_pos i))
odd_apart a m zero (suc j) o l e = omega (arith, double m j)
odd_apart a m (suc i) (suc j) o l e = odd_apart a m i j o l (omega (arith, double a i, double m j))

pub no_tie : (m p q k : ℕ) → m < 2 ^ 24 → 2 ^ 23 ≤ q
    → (2 * q + 1) * 2 ^ k * ((2 * q + 1) * 2 ^ k) ≡ 4 * (m * 2 ^ p) → ⊥
no_tie m p q k few full e =
    odd_apart (4 * (q * q + q) + 1) m (k + k) (p + 2) (omega arith) (omega arith) squares
  where
    squares : (4 * (q * q + q) + 1) * 2 ^ (k + k) ≡ m * 2 ^ (p + 2)
    squares =
        rw (pow-add 2 k k, pow-add 2 p 2)
        (sym (half_square q (2 ^ k)) ∙ e ∙ mul_comm 4 (m * 2 ^ p) ∙ mul_assoc m (2 ^ p) 4)
