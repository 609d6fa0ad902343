-- How many binary digits of a square root are worked: those of an exact root up to its last 1, and 24 of any other. Definitions only.
use Rattle.std.specs.Prelude.{◌≡◌, false, cond, ℕ, ◌-◌, ◌*◌, ◌%◌, ◌^◌, ◌≤◌, ◌<◌, T, eqb, Float}
use Rattle.std.specs.Int.Count.{count_trailing_zeros}
use Rattle.std.specs.Float.Ieee.{size}
use Rattle.std.specs.Float.Ieee.Positive.{positive}
use Rattle.float.specs.Units.{in_units}
use Rattle.root.specs.Radicand.{radicand}
use Rattle.root.specs.Root.{sqrt_of}

-- ---- the count

-- the binary digits of r from its leading 1 to its last 1: of 12, which is 1100, there are 2
abbrev pub to_last_one : ℕ → ℕ
to_last_one r = size r - count_trailing_zeros (size r) r

-- of r, which is √n rounded: up to the last 1 where the square of r is n, and otherwise the 24 of an f32
abbrev pub digits_of : ℕ → ℕ → ℕ
digits_of n r = cond (eqb (r * r) n) (to_last_one r) 24

-- of the square root of a float, by its units: none for a NaN, either zero, an infinity and what is below zero
unfoldable pub sqrt_digits_of : Float → ℕ
unfolding sqrt_of size count_trailing_zeros
sqrt_digits_of x = cond (positive x) (digits_of (radicand x) (in_units (sqrt_of x))) 0

-- ---- what is counted

-- r is an odd whole number of d binary digits times a power of two
pub record HasDigits (r d : ℕ) : Type 0 where
  pub odd_part : ℕ
  pub zeros : ℕ
  pub value : odd_part * 2 ^ zeros ≡ r
  pub odd : odd_part % 2 ≡ 1
  pub count : size odd_part ≡ d

-- where x is finite and above zero: √x is exactly p / q units
abbrev pub ExactRoot : Float → ℕ → ℕ → Type 0
ExactRoot x p q = (0 < q) × (p * p ≡ radicand x * (q * q))

-- d digits of √x are worked, and r is √x where that is exact
pub record DigitsWorked (x r : Float) (d : ℕ) : Type 0 where
  pub answers : d ≡ sqrt_digits_of x
  -- √x is exactly p / q units: so is r, d counts the digits of r up to the last 1, and these are never more than 12
  pub returned : T (positive x) → (p q : ℕ) → ExactRoot x p q → in_units r * q ≡ p
  pub exact : T (positive x) → (p q : ℕ) → ExactRoot x p q → HasDigits (in_units r) d
  pub few : T (positive x) → (p q : ℕ) → ExactRoot x p q → d ≤ 12
  -- √x is irrational
  pub inexact : T (positive x) → ((p q : ℕ) → ExactRoot x p q → ⊥) → d ≡ 24
  -- a NaN, either zero, an infinity and what is below zero
  pub none : positive x ≡ false → d ≡ 0
