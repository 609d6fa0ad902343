-- Which bit patterns of a float are written as they were read. Definitions only.
use Rattle.std.specs.Prelude.{◌≡◌, ℕ, T}
use Rattle.std.specs.Float.{binary32}
use Rattle.std.specs.Float.Ieee.{nan_bits}

-- where an entry is kept as its bits: every pattern is written as it was read
abbrev pub AnyBits : ℕ → Type 0
AnyBits p = Unit {0}

-- where an entry is kept as a float: of the patterns of a NaN only 7fc00000 is written as it was read, and every other pattern is
abbrev pub OneNan : ℕ → Type 0
OneNan p = T (nan_bits binary32 p) → p ≡ 0x7fc0_0000
