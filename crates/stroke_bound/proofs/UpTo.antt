-- A quotient rounded up is the least whole number that the exact one does not pass.
use mathlib.Core.Path.{◌≡◌, refl, sym}
use mathlib.Core.Bool.{Bool, true, false, cond}
use Prim.Native.Nat.{ℕ, suc, ◌+◌, ◌*◌, ◌≤◌, ◌<◌}
use native.Mathlib.Nat.{le_trans, le_of_eq, le_antisymm, suc-mul, mul_right_comm, mul-le-mul_right, le_of_mul-le-mul_right, div-lt_iff_lt-mul}
use native.Mathlib.Omega.{arith}
use native.Mathlib.Decide.{dec_le}
use borrow.Author.Tests.{ltb-true, ltb-false}
use lib.Dec.{ltb}
use Rattle.stroke_bound.specs.Bound.{up_to}

pub up_to_over : (u n : ℕ) → 0 < u → n ≤ up_to u n * u
up_to_over u n p =
    let k = up_to u n in
    let h : k < suc k = omega arith in
    omega (arith, (div-lt_iff_lt-mul p).0 h, suc-mul k u)

pub up_to_least : (u n k : ℕ) → 0 < u → n ≤ k * u → up_to u n ≤ k
up_to_least u n k p h =
    let l : up_to u n < suc k = (div-lt_iff_lt-mul p).1 (omega (arith, suc-mul k u)) in omega arith

-- n / u is m / v
half : (u n v m : ℕ) → 0 < u → 0 < v → n * v ≡ m * u → up_to u n ≤ up_to v m
half u n v m p q e =
    let k = up_to v m in
    up_to_least u n k p
    (le_of_mul-le-mul_right (le_trans (le_of_eq e) (le_trans (mul-le-mul_right u (up_to_over v m q)) (le_of_eq (mul_right_comm k v u)))) q)

pub up_to_same : (u n v m : ℕ) → 0 < u → 0 < v → n * v ≡ m * u → up_to u n ≡ up_to v m
up_to_same u n v m p q e = le_antisymm (half u n v m p q e) (half v m u n q p (sym e))

-- k is n / u rounded up or one less: n tells which
pub up_to_either : (u n k : ℕ) → 0 < u → k ≤ up_to u n → up_to u n ≤ suc k → cond (ltb (k * u) n) (k + 1) k ≡ up_to u n
up_to_either u n k p a b = go (ltb (k * u) n) refl
  where
    go : (t : Bool) → ltb (k * u) n ≡ t → cond t (k + 1) k ≡ up_to u n
    go false e = omega (arith, up_to_least u n k p (ltb-false (k * u) n e))
    go true e = elim (dec_le (up_to u n) k) [
      | yes h ↦ let l : up_to u n * u ≤ k * u = mul-le-mul_right u h in absurd (omega (arith, l, up_to_over u n p, ltb-true (k * u) n e))
      | no h ↦ omega arith
    ]
