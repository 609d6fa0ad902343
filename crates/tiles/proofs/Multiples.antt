-- Multiples of a number, and of powers of two: where two differ, they differ by how much at least.
use mathlib.Core.Path.{◌≡◌, ◌∙◌}
use mathlib.Core.Logic.{◌⊎◌, inl, inr}
use Prim.Native.Nat.{ℕ, zero, suc, ◌+◌, ◌-◌, ◌*◌, ◌^◌, ◌≤◌, ◌<◌, zero-le, suc-le-suc}
use native.Mathlib.Nat.{le_of_lt, zero-lt-suc, suc-mul, mul-le-mul_right, lt_of_mul-lt-mul_right}
use native.Mathlib.Omega.{arith}
use Rattle.float.proofs.Units.{multiple}

pub lt_or_ge : (a b : ℕ) → (a < b) ⊎ (b ≤ a)
lt_or_ge a zero = inr zero-le
lt_or_ge zero (suc b) = inl (zero-lt-suc b)
lt_or_ge (suc a) (suc b) = elim (lt_or_ge a b) [ inl l ↦ inl (suc-le-suc l) | inr l ↦ inr (suc-le-suc l) ]

-- two multiples of d that differ do so by d at least
pub apart : (a b d : ℕ) {M N : ℕ} → M ≡ a * d → N ≡ b * d → M < N → M + d ≤ N
apart a b d e f l =
    let p : suc a * d ≤ b * d = mul-le-mul_right d (lt_of_mul-lt-mul_right d {m = a} {n = b} (omega arith)) in
    let q : suc a * d ≡ a * d + d = suc-mul a d in
    omega arith

-- a multiple of 2 ^ i and one of 2 ^ k that differ do so by more than an h that is below both powers
pub gap : (a i b k h : ℕ) {M N : ℕ} → M ≡ a * 2 ^ i → N ≡ b * 2 ^ k → h < 2 ^ i → h < 2 ^ k → M < N → M + h < N
gap a i b k h e f I K l = elim (lt_or_ge i k) [
  | inl g ↦ let p = apart a (b * 2 ^ (k - i)) (2 ^ i) e (f ∙ multiple b k i (le_of_lt g)) l in omega arith
  | inr g ↦ let p = apart (a * 2 ^ (i - k)) b (2 ^ k) (e ∙ multiple a i k g) f l in omega arith
]
