-- Numbers by their bits, each with the bits of its square root and how many digits are worked: antt computes both from the definitions.
use mathlib.Core.Path.{◌≡◌, refl}
use mathlib.Core.List.{List, [], ◌∷◌, map}
use Prim.Native.Nat.{ℕ}
use lib.Ieee.{binary32, of_bits, to_bits}
use Rattle.root.specs.Root.{sqrt_of}
use Rattle.root.specs.Digits.{sqrt_digits_of}

record Sample : Type 0 where
  number : ℕ
  root : ℕ
  digits : ℕ

abbrev sample : ℕ → ℕ → ℕ → Sample
sample n r d = record { number = n; root = r; digits = d }

samples : List Sample
samples =
    -- √4 = 2, √9 = 3, √6.25 = 2.5, and √(4,095 * 4,095): no exact root counts more
    sample 0x4080_0000 0x4000_0000 1
    ∷ sample 0x4110_0000 0x4040_0000 2
    ∷ sample 0x40c8_0000 0x4020_0000 3
    ∷ sample 0x4b7f_e001 0x457f_f000 12
    -- 2 ^ -148, a subnormal
    ∷ sample 2 0x1a80_0000 1
    -- √2, that of the number right above 4, which is rounded to 2, and those of the smallest and the largest
    ∷ sample 0x4000_0000 0x3fb5_04f3 24
    ∷ sample 0x4080_0001 0x4000_0000 24
    ∷ sample 1 0x1a35_04f3 24
    ∷ sample 0x7f7f_ffff 0x5f7f_ffff 24
    -- +0, -0, +infinity, -4 and a NaN
    ∷ sample 0 0 0
    ∷ sample 0x8000_0000 0x8000_0000 0
    ∷ sample 0x7f80_0000 0x7f80_0000 0
    ∷ sample 0xc080_0000 0x7fc0_0000 0
    ∷ sample 0x7fc0_0000 0x7fc0_0000 0
    ∷ []

roots_right : map (λ (s : Sample). to_bits binary32 (sqrt_of (of_bits binary32 s.number))) samples ≡ map (λ (s : Sample). s.root) samples
unfolding samples sqrt_of of_bits to_bits
roots_right = refl

digits_right : map (λ (s : Sample). sqrt_digits_of (of_bits binary32 s.number)) samples ≡ map (λ (s : Sample). s.digits) samples
unfolding samples sqrt_digits_of of_bits
digits_right = refl
