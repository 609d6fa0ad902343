-- The library's absolute value and its test of a finite number are those of specs/Values.antt and of the toolchain.
use mathlib.Core.Bool.{false}
use mathlib.Core.Path.{◌≡◌, refl}
use lib.Ieee.{Float, nan, inf, fin}
use lib.Ieee.Scale.{finite}
use Rattle.std.specs.Float.{float_with_sign, float_is_finite}
use Rattle.float.specs.Values.{abs_of}

pub without_sign : (x : Float) → float_with_sign false x ≡ abs_of x
unfolding float_with_sign abs_of
without_sign nan = refl
without_sign (inf s) = refl
without_sign (fin s m e) = refl

pub is_finite : (x : Float) → float_is_finite x ≡ finite x
unfolding float_is_finite
is_finite nan = refl
is_finite (inf s) = refl
is_finite (fin s m e) = refl
