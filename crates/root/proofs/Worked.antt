-- How many digits were worked, from the turn that ends the loop to the root as a float.
use mathlib.Core.Path.{◌≡◌, refl, sym, ap, ◌∙◌}
use mathlib.Core.Bool.{Bool, true, false, cond}
use Prim.Native.Nat.{ℕ, zero, suc, ◌+◌, ◌*◌, ◌^◌, ◌≤◌, ◌<◌}
use native.Mathlib.Nat.{pow-succ'}
use native.Mathlib.Omega.{arith}
use borrow.Author.Tests.{eqb-true, eqb-false}
use lib.Dec.{eqb}
use lib.Pow.{pow_pos}
use lib.Ieee.{size}
use lib.Ieee.Digits.{size-le}
use Rattle.root.specs.Digits.{to_last_one, digits_of, HasDigits}
use Rattle.root.specs.Steps.{IsWholeRoot, Worked}
use Rattle.root.proofs.Squares.{square_scaled, square_unscaled}
use Rattle.root.proofs.Whole.{is_root, root_low, root_high}
use Rattle.root.proofs.Leading.{size_above}
use Rattle.root.proofs.LastOne.{size_shifted, to_last_one_lem, shifted_digits}
use Rattle.root.proofs.Turn.{Chosen}

-- ---- the turn of the digit of weight 2 ^ i, after w others

module _ {n root rest bit : ℕ} (i w : ℕ) (weight : bit ≡ 2 ^ i) (turns : w + i ≡ 23) (c : Chosen n root rest bit) where
  -- nothing is left: this digit is the last 1 of a root of 24 digits
  pub exact_worked : 2 ^ 46 ≤ n → n < 2 ^ 48 → rest ≡ 0 → IsWholeRoot n root rest → Worked n root (w + 1)
  exact_worked low high none r = record { exact = λ e. digits; inexact = λ no. absurd (no (omega (arith, r.square))) }
    where
      found : c.found * 2 ^ i ≡ root
      found = sym (rw (← weight) c.made)

      some : 0 < c.found
      some = omega (arith, c.last none)

      full : size root ≡ 24
      full = omega (arith, size-le root 24 (root_high high (is_root r)), size_above root 23 (root_low low (is_root r)))

      length : size root ≡ size c.found + i
      length = ap size (sym found) ∙ size_shifted c.found i some

      digits : HasDigits root (w + 1)
      digits = record { odd_part = c.found; zeros = i; value = found; odd = c.last none; count = omega (arith, full, length) }

  -- something is left after the last digit
  pub inexact_worked : (rest ≡ 0 → ⊥) → bit ≡ 1 → IsWholeRoot n root rest → Worked n root (w + 1)
  inexact_worked more one r =
      record { exact = λ e. absurd (more (omega (arith, r.square))); inexact = λ no. omega (arith, last i (sym weight ∙ one)) }
    where
      last : (i : ℕ) → 2 ^ i ≡ 1 → i ≡ 0
      last zero e = refl
      last (suc i) e = omega (arith, pow-succ' 2 i)

-- ---- the root rounded up is not exact
pub worked_up : {n q rest d : ℕ} → q < rest → IsWholeRoot n q rest → Worked n q d → Worked n (q + 1) d
worked_up {n} {q} {rest} {d} above r w = record {
  exact = λ e. absurd (omega (arith, r.next));
  inexact = λ no. w.inexact (λ (e : q * q ≡ n). omega (arith, r.square));
}

-- ---- times a power of four the root is times a power of two
pub worked_scaled : {m r d : ℕ} (k : ℕ) → Worked m r d → Worked (m * (2 ^ k * 2 ^ k)) (r * 2 ^ k) d
worked_scaled {m} {r} {d} k w = record {
  exact = λ e. shifted_digits k (w.exact (square_unscaled r (2 ^ k) (pow_pos k) e));
  inexact = λ no. w.inexact (λ (e : r * r ≡ m). no (square_scaled r (2 ^ k) e));
}

-- ---- the definition counts the same
pub worked_value : {n r d : ℕ} → Worked n r d → digits_of n r ≡ d
worked_value {n} {r} {d} w = go (eqb (r * r) n) refl
  where
    go : (same : Bool) → eqb (r * r) n ≡ same → cond same (to_last_one r) 24 ≡ d
    go true e = to_last_one_lem (w.exact (eqb-true (r * r) n e))
    go false e = sym (w.inexact (eqb-false (r * r) n e))
