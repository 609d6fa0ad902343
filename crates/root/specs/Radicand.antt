-- What the square root of an f32 is the root of, over whole numbers. Definitions only.
use Rattle.std.specs.Prelude.{ℕ, ◌*◌, ◌^◌, Float}
use Rattle.float.specs.Units.{in_units}

-- where x is a units of 2 ^ -149, √x is √(a * 2 ^ 149) units
abbrev pub radicand : Float → ℕ
radicand x = in_units x * 2 ^ 149
