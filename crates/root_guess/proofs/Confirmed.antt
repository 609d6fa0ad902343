-- What confirms a root: q is √(n * 2 ^ 23) rounded where that root lies between the two points halfway to the neighbours of q. Then the float of
-- its bits is the square root.
use mathlib.Core.Path.{◌≡◌, refl, sym, ap, ◌∙◌, subst}
use mathlib.Core.Bool.{true}
use Prim.Native.Nat.{ℕ, zero, suc, ◌+◌, ◌-◌, ◌*◌, ◌^◌, ◌≤◌, ◌<◌}
use native.Mathlib.Decide.{dec_le}
use native.Mathlib.Omega.{arith}
use lib.Ieee.{Float, binary32, fits, of_bits, to_bits}
use denote.Floats.{passes}
use Rattle.root.specs.Root.{nearest_root, sqrt_of}
use Rattle.root.specs.Radicand.{radicand}
use Rattle.root.specs.Steps.{Scaled, half, Split, Rounds}
use Rattle.root.proofs.Rounding.{up, down}
use Rattle.root.proofs.Units.{positive_root}
use Rattle.root.proofs.Packed.{root_float}
use Rattle.root.proofs.Cases.{positive_at}
use Rattle.root.proofs.Patterns.{from_bits}

-- the square of q is at most n * 2 ^ 23, and q is the whole root and rounds down; or it is above, and q - 1 is the whole root and rounds up
pub confirmed : (n q : ℕ) → 2 ^ 23 ≤ n → n ≤ 2 ^ 25 - 2 → q * q < n * 2 ^ 23 + q → n * 2 ^ 23 ≤ q * q + q → Rounds (n * 2 ^ 23) q
confirmed n zero lo hi under over = absurd (omega arith)
confirmed n (suc w) lo hi under over = elim (dec_le (suc w * suc w) (n * 2 ^ 23)) [
  | yes a ↦ down {q = suc w} {rest = n * 2 ^ 23 - suc w * suc w} n lo hi (record { square = omega arith; next = omega arith }) (omega arith)
  | no b ↦
      let next : w + 1 ≡ suc w = omega arith in
      let whole = up {q = w} {rest = n * 2 ^ 23 - w * w} n lo hi (record { square = omega arith; next = omega arith }) in
      subst (Rounds (n * 2 ^ 23)) next (whole (omega arith))
]

-- the root of a normal number by its bits b and its parts d and e
pub root_of_normal : (b d e n q : ℕ) → 2 ^ 23 ≤ b → b < 0x7f80_0000 → Scaled (radicand (of_bits binary32 b)) d e → Split d e n → Rounds (n * 2 ^ 23) q
    → (half e * 2 ^ 23 + q < 0x7f80_0000) × (of_bits binary32 (half e * 2 ^ 23 + q) ≡ sqrt_of (of_bits binary32 b))
root_of_normal b d e n q low high s split r =
    let f = root_float d e n s.most split r in
    let above = positive_at b (omega arith) high in
    (f.0, f.1 ∙ ap nearest_root s.value ∙ sym (positive_root (of_bits binary32 b) above))

-- the root of x by its bits
pub root_of_bits : (x : Float) (b : ℕ) → fits binary32 x ≡ true → of_bits binary32 b ≡ sqrt_of (of_bits binary32 (to_bits binary32 x)) → of_bits binary32 b ≡ sqrt_of x
root_of_bits x b held found = found ∙ sym (ap sqrt_of (from_bits x (to_bits binary32 x) (passes _ held) refl))
