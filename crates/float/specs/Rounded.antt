-- The four operations on f32, each rounded to the nearest f32 as IEEE 754 has it, and the numbers that formulas name. Definitions only.
use Rattle.std.specs.Prelude.{Float}
use Rattle.std.specs.Float.{binary32}
use Rattle.std.specs.Float.Ieee.{add, sub, mul, div, of_bits}

infixl 6 ◌⊕◌ ◌⊖◌
infixl 7 ◌⊗◌ ◌⊘◌
abbrev pub ◌⊕◌ : Float → Float → Float
a ⊕ b = add binary32 a b

abbrev pub ◌⊖◌ : Float → Float → Float
a ⊖ b = sub binary32 a b

abbrev pub ◌⊗◌ : Float → Float → Float
a ⊗ b = mul binary32 a b

abbrev pub ◌⊘◌ : Float → Float → Float
a ⊘ b = div binary32 a b

-- numbers by their bit patterns, which is how the code has its literals
abbrev pub +0 : Float
+0 = of_bits binary32 0

abbrev pub half : Float
half = of_bits binary32 0x3f00_0000

abbrev pub one : Float
one = of_bits binary32 0x3f80_0000

-- 2 ^ -23, Rust's f32::EPSILON
abbrev pub epsilon : Float
epsilon = of_bits binary32 0x3400_0000
