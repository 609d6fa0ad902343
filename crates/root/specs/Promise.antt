-- The contract of `sqrt`: the squareRoot of IEEE 754 (5.4.1), to the nearest f32 (4.3.1), with the special values of 6.1, 6.2,
-- 6.3 and 7.2. Between two neighbours no tie is ever to be broken: the point halfway has 25 binary digits and is odd, so
-- its square is odd too and has more digits than an f32. Definitions only.
use Rattle.std.specs.Prelude.{◌≡◌, Bool, true, false, pos, T, Float}
use Rattle.std.specs.Float.{nan, inf, fin}
use Rattle.std.specs.Float.Ieee.{lt}
use Rattle.std.specs.Float.Ieee.Positive.{positive}
use Rattle.root.specs.Root.{sqrt_of}
use Rattle.root.specs.Nearest.{IsNearest}

-- r is the square root of the f32 x
pub record SquareRoot (x r : Float) : Type 0 where
  pub answers : r ≡ sqrt_of x
  -- finite and above zero: r is the f32 nearest to √x, and nothing else is
  pub nearest : T (positive x) → IsNearest x r
  pub only : T (positive x) → (q : Float) → IsNearest x q → q ≡ r
  -- -0 gives -0, and +0 gives +0
  pub zero : (s : Bool) → x ≡ fin s 0 (pos 0) → r ≡ fin s 0 (pos 0)
  pub infinite : x ≡ inf false → r ≡ inf false
  -- what is below zero has no root, -infinity with it
  pub negative : lt x (fin false 0 (pos 0)) ≡ true → r ≡ nan
  pub not_a_number : x ≡ nan → r ≡ nan
