-- What is inside one dimension of an upright box. Definitions only.
use Rattle.std.specs.Prelude.{Bool, ◌&&◌, Float}
use Rattle.std.specs.Float.Ieee.{le}
use Rattle.types.specs.declared.shape.Range.{Range}

-- low ≤ at ≤ high, which no NaN meets
abbrev pub within_of : Range → Float → Bool
within_of r at = le r.low at && le at r.high
