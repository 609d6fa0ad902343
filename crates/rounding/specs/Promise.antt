-- The contract of `floor` and `ceil`: the two directed roundings of an f32 to an integral value. Definitions only.
use Rattle.std.specs.Prelude.{◌≡◌, not, T, Float}
use Rattle.std.specs.Float.{binary32}
use Rattle.std.specs.Float.Ieee.{fits}
use Rattle.std.specs.Float.Ieee.Scale.{finite}

-- r is the f32 x rounded in the direction that `Toward` says, with the value that `value_of` works out
pub record RoundsToIntegral (Toward : Float → Float → Type 0) (value_of : Float → Float) (x r : Float) : Type 0 where
  pub answers : r ≡ value_of x
  -- of a finite number r is what the standard asks for, and no other f32 is
  pub rounds : T (finite x) → Toward x r
  pub only : T (finite x) → (q : Float) → T (fits binary32 q) → Toward x q → q ≡ r
  -- a NaN and the infinities are themselves
  pub kept : T (not (finite x)) → r ≡ x
