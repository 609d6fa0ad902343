-- The hexadecimal digits of a number are those of its bytes, the highest first.
use mathlib.Core.Path.{◌≡◌, refl, ap, ◌∙◌, subst}
use mathlib.Core.Bool.{Bool, true, ◌&&◌, and-eq-true_iff}
use Prim.Native.Nat.{ℕ, zero, suc, ◌/◌, ◌%◌, ◌^◌, ◌<◌}
use native.Mathlib.Decide.{dec_le}
use native.Mathlib.Omega.{arith}
use lib.Dec.{eqb}
use borrow.Author.Tests.{eqb-true}
use Rattle.std.specs.Prelude.{slice_index}
use Rattle.std.specs.Int.{w32, to_be_bytes}
use Rattle.hex.specs.Hex.{lower_digits, encode_with, encode_lower}
use Rattle.text.specs.Numbers.{digit, hex8}

-- the first n glyphs are the digits: tested, and so each
same : ℕ → Bool
same zero = true
same (suc n) = eqb (slice_index lower_digits n) (digit n) && same n

each : (n d : ℕ) → same n ≡ true → d < n → slice_index lower_digits d ≡ digit d
unfolding same
each zero d e h = absurd (omega arith)
each (suc n) d e h =
    let both = (and-eq-true_iff (eqb (slice_index lower_digits n) (digit n)) (same n)).0 e in
    elim (dec_le n d) [
      | yes a ↦ let last : n ≡ d = omega arith in subst (λ (k : ℕ). slice_index lower_digits k ≡ digit k) last (eqb-true _ _ both.0)
      | no b ↦ each n d both.1 (omega arith)
    ]

glyph : (d k : ℕ) → d < 16 → d ≡ k → slice_index lower_digits d ≡ digit k
unfolding same
glyph d k h e = each 16 d refl h ∙ ap digit e

pub hex8_is : (x : ℕ) → x < 2 ^ 32 → encode_lower (to_be_bytes w32 x) ≡ hex8 x
unfolding encode_with hex8
hex8_is x h =
    rw (
      glyph (x / 16777216 % 256 / 16) (x / 0x1000_0000 % 16) (omega arith) (omega arith),
      glyph (x / 16777216 % 256 % 16) (x / 0x100_0000 % 16) (omega arith) (omega arith),
      glyph (x / 65536 % 256 / 16) (x / 0x10_0000 % 16) (omega arith) (omega arith),
      glyph (x / 65536 % 256 % 16) (x / 0x1_0000 % 16) (omega arith) (omega arith),
      glyph (x / 256 % 256 / 16) (x / 0x1000 % 16) (omega arith) (omega arith),
      glyph (x / 256 % 256 % 16) (x / 0x100 % 16) (omega arith) (omega arith),
      glyph (x % 256 / 16) (x / 0x10 % 16) (omega arith) (omega arith),
      glyph (x % 256 % 16) (x % 16) (omega arith) (omega arith),
    )
