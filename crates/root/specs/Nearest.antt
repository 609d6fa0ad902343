-- What it is for an f32 to be the nearest to √x, by comparing squares of whole numbers. Definitions only.
use Rattle.std.specs.Prelude.{ℕ, ◌+◌, ◌*◌, ◌<◌, T, Float}
use Rattle.std.specs.Float.{binary32}
use Rattle.std.specs.Float.Ieee.{fits}
use Rattle.std.specs.Float.Ieee.Positive.{positive}
use Rattle.std.specs.Float.Ieee.Scale.{finite}
use Rattle.float.specs.Units.{in_units}
use Rattle.root.specs.Radicand.{radicand}

-- r is nearer to √n than y is, for whole numbers r and y that differ: √n lies on r's side of the point halfway between
-- them. That point is (r + y) / 2, so 2 * √n is compared with r + y, by their squares. The order is strict: no tie.
pub record Nearer (n r y : ℕ) : Type 0 where
  pub above : r < y → 4 * n < (r + y) * (r + y)
  pub below : y < r → (r + y) * (r + y) < 4 * n

-- r is an f32, finite and above zero, and nearer to √x than every other finite f32. All are counted in units, of which
-- √x is √(radicand x). Of a y below zero only the size is looked at: -y is nearer to √x than y is.
pub record IsNearest (x r : Float) : Type 0 where
  pub held : T (fits binary32 r)
  pub positive : T (positive r)
  pub nearer : (y : Float) → T (fits binary32 y) → T (finite y) → Nearer (radicand x) (in_units r) (in_units y)
