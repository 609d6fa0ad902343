-- What the steps of the square root hand on to each other. Definitions only.
use Rattle.std.specs.Prelude.{◌≡◌, ℕ, ◌+◌, ◌-◌, ◌*◌, ◌/◌, ◌^◌, ◌≤◌, ◌<◌}
use Rattle.root.specs.Root.{rounded, dropped}
use Rattle.root.specs.Digits.{HasDigits}

-- n as a significand of 24 binary digits times a power of two, in the range of the radicands of f32s
pub record Scaled (n significand exponent : ℕ) : Type 0 where
  pub value : significand * 2 ^ exponent ≡ n
  pub low : 2 ^ 23 ≤ significand
  pub high : significand < 2 ^ 24
  pub least : 24 ≤ exponent
  pub most : exponent ≤ 402

-- half of how far the exponent is above 23
abbrev pub half : ℕ → ℕ
half e = (e - 23) / 2

-- d * 2 ^ e as n * 2 ^ 23 times a power of four
abbrev pub Split : ℕ → ℕ → ℕ → Type 0
Split d e n = d * 2 ^ e ≡ n * 2 ^ 23 * (2 ^ half e * 2 ^ half e)

-- root is the largest whole number whose square is at most n, and rest is what its square leaves of n
pub record IsWholeRoot (n root rest : ℕ) : Type 0 where
  pub square : root * root + rest ≡ n
  pub next : n < (root + 1) * (root + 1)

-- r is √m rounded, and has 24 digits. So r is the root of m * 4 ^ k rounded to 24 digits too, and k digits are dropped
pub record Rounds (m r : ℕ) : Type 0 where
  pub low : 2 ^ 23 ≤ r
  pub high : r < 2 ^ 24
  pub same : (k : ℕ) → (rounded (m * (2 ^ k * 2 ^ k)) ≡ r) × (dropped (m * (2 ^ k * 2 ^ k)) ≡ k)

-- d binary digits of √n were worked, where r is √n rounded: up to the last 1 of r if the square of r is n, and otherwise 24
pub record Worked (n r d : ℕ) : Type 0 where
  pub exact : r * r ≡ n → HasDigits r d
  pub inexact : (r * r ≡ n → ⊥) → d ≡ 24
