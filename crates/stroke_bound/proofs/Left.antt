-- The higher of two numbers less a whole number, as a float, is above the lower one only where it is so exactly, and always there if the
-- higher number is the larger one in size.
use mathlib.Core.Path.{◌≡◌, refl, ap, ◌∙◌}
use mathlib.Core.Bool.{Bool, true, false, cond}
use Prim.Native.Nat.{ℕ, ◌+◌, ◌-◌, ◌*◌, ◌≤◌, ◌<◌}
use native.Mathlib.Nat.{mul_comm, mul_assoc, add-mul, le_of_lt, mul-le-mul_right, lt_of_mul-lt-mul_right}
use native.Mathlib.Omega.{arith}
use borrow.Author.Tests.{ltb-true, ltb-false, lt-ltb, le-ltb}
use lib.Dec.{ltb}
use lib.Ieee.{Float, binary32, below, round, sum, lt}
use lib.Ieee.Exact.{HasValue}
use Rattle.rounded.proofs.Signed.{value_lt, not_past}
use Rattle.rounded.proofs.Apart.{sub_mul}
use Rattle.stroke_bound.proofs.Units.{gap}

-- x is ±a / c, the higher number ±b / d, and k is taken from it
module _ (x : Float) (a c b d k : ℕ) (C : 0 < c) (D : 0 < d) where
  taken : k * d * c ≡ k * (c * d)
  taken = mul_assoc k d c ∙ ap (λ (z : ℕ). k * z) (mul_comm d c)

  more : (b + k * d) * c ≡ b * c + k * (c * d)
  more = add-mul b (k * d) c ∙ ap (λ (z : ℕ). b * c + z) taken

  less : (b - k * d) * c ≡ b * c - k * (c * d)
  less = sub_mul b (k * d) c ∙ ap (λ (z : ℕ). b * c - z) taken

  past : (k * d - b) * c ≡ k * (c * d) - b * c
  past = sub_mul (k * d) b c ∙ ap (λ (z : ℕ). z - b * c) taken

  pub left_not :
      (s t : Bool) → HasValue x s a c → HasValue (round binary32 s a c) s a c → below t (b * c) s (a * d) ≡ false →
      gap s (a * d) t (b * c) ≤ k * (c * d) → lt x (sum binary32 t b true (k * d) d) ≡ false
  unfolding sum
  left_not false true v r o h = not_past x false a c true (b + k * d) d C D v r refl
  left_not true true v r o h =
      not_past x true a c true (b + k * d) d C D v r
      (le-ltb ((b + k * d) * c) (a * d) (omega (arith, more, ltb-false (a * d) (b * c) o, h)))
  left_not s false v r o h = go s (ltb b (k * d)) refl v r o h
    where
      go :
          (s u : Bool) → ltb b (k * d) ≡ u → HasValue x s a c → HasValue (round binary32 s a c) s a c → below false (b * c) s (a * d) ≡ false →
          gap s (a * d) false (b * c) ≤ k * (c * d) → lt x (cond u (round binary32 true (k * d - b) d) (round binary32 false (b - k * d) d)) ≡ false
      go false true q v r o h = not_past x false a c true (k * d - b) d C D v r refl
      go true true q v r o h =
          not_past x true a c true (k * d - b) d C D v r (le-ltb ((k * d - b) * c) (a * d) (omega (arith, past, h)))
      go false false q v r o h =
          not_past x false a c false (b - k * d) d C D v r (le-ltb (a * d) ((b - k * d) * c) (omega (arith, less, h)))
      go true false q v r o h =
          let l : k * d * c ≤ b * c = mul-le-mul_right c (ltb-false b (k * d) q) in
          not_past x true a c false (b - k * d) d C D v r (le-ltb 0 (a * d + (b - k * d) * c) (omega (arith, less, h, taken, l)))

  pub left_above :
      (s : Bool) → HasValue x s a c → ((z : Bool) (r : ℕ) → r ≤ b → HasValue (round binary32 z r d) z r d) → a * d ≤ b * c →
      k * (c * d) < gap s (a * d) false (b * c) → lt x (sum binary32 false b true (k * d) d) ≡ true
  unfolding sum
  left_above s v exact o h = go s (ltb b (k * d)) refl v h
    where
      go :
          (s u : Bool) → ltb b (k * d) ≡ u → HasValue x s a c → k * (c * d) < gap s (a * d) false (b * c) →
          lt x (cond u (round binary32 true (k * d - b) d) (round binary32 false (b - k * d) d)) ≡ true
      go false true q v h =
          let l : b * c ≤ k * d * c = mul-le-mul_right c (le_of_lt (ltb-true b (k * d) q)) in absurd (omega (arith, taken))
      go true true q v h =
          let l : k * d * c < (b + b) * c = omega (arith, taken, add-mul b b c) in
          let j : b * c ≤ k * d * c = mul-le-mul_right c (le_of_lt (ltb-true b (k * d) q)) in
          let r = k * d - b in
          value_lt x (round binary32 true r d) true a c true r d C D v (exact true r (omega (arith, lt_of_mul-lt-mul_right c l)))
          ∙ lt-ltb (r * c) (a * d) (omega (arith, past, taken, h))
      go false false q v h =
          let r = b - k * d in
          value_lt x (round binary32 false r d) false a c false r d C D v (exact false r (omega arith))
          ∙ lt-ltb (a * d) (r * c) (omega (arith, less, h))
      go true false q v h =
          let r = b - k * d in
          value_lt x (round binary32 false r d) true a c false r d C D v (exact false r (omega arith))
          ∙ lt-ltb 0 (a * d + r * c) (omega (arith, less, h))
