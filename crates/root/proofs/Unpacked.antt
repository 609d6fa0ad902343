-- The radicand of a positive bit pattern, by the significand and exponent that the code takes from it.
use mathlib.Core.Path.{◌≡◌, refl, sym, ◌∙◌}
use Prim.Native.Nat.{ℕ, zero, suc, ◌+◌, ◌*◌, ◌/◌, ◌%◌, ◌^◌, ◌<◌}
use native.Mathlib.Nat.{add_comm, mul_assoc, mul-one}
use native.Mathlib.Omega.{arith}
use lib.Pow.{pow-add}
use lib.Ieee.{binary32, of_bits}
use Rattle.float.proofs.Fields.{field_units}
use Rattle.float.specs.Units.{in_units}
use Rattle.root.specs.Radicand.{radicand}
use Rattle.root.specs.Steps.{Scaled}
use Rattle.root.proofs.Patterns.{units_at}

pub subnormal : {d e : ℕ} (b : ℕ) → b < 0x7f80_0000 → b / 2 ^ 23 ≡ 0 → Scaled (b % 2 ^ 23 * 2 ^ 149) d e
    → Scaled (radicand (of_bits binary32 b)) d e
subnormal b h z s =
    let units : in_units (of_bits binary32 b) ≡ b % 2 ^ 23 = units_at b h ∙ rw z (mul-one (b % 2 ^ 23)) in
    rw units s

pub normal : (b : ℕ) → b < 0x7f80_0000 → (b / 2 ^ 23 ≡ 0 → ⊥)
    → Scaled (radicand (of_bits binary32 b)) (b % 2 ^ 23 + 2 ^ 23) (b / 2 ^ 23 + 148)
normal b h z = record {
  value = rw (units_at b h) (leading_digit (b / 2 ^ 23) (b % 2 ^ 23) z);
  low = omega arith;
  high = omega arith;
  least = omega arith;
  most = omega arith;
}
  where
    leading_digit : (x t : ℕ) → (x ≡ 0 → ⊥) → (t + 2 ^ 23) * 2 ^ (x + 148) ≡ field_units x t * 2 ^ 149
    leading_digit zero t h = absurd (h refl)
    leading_digit (suc x) t h =
        let more : suc x + 148 ≡ x + 149 = omega arith in
        rw (more, pow-add 2 x 149, add_comm t (2 ^ 23)) (sym (mul_assoc (2 ^ 23 + t) (2 ^ x) (2 ^ 149)))
