-- What a range's two ends tell, each operation rounded. Definitions only.
use Rattle.std.specs.Prelude.{Bool, Float}
use Rattle.std.specs.Float.Ieee.{lt, le}
use Rattle.types.specs.declared.shape.Range.{Range}
use Rattle.float.specs.Rounded.{◌⊕◌, ◌⊖◌, ◌⊗◌, half}

-- low ≤ high, which no NaN meets
abbrev pub ordered_of : Range → Bool
ordered_of r = le r.low r.high

-- the first's high end is below the second's low end: equal ends touch, and no NaN is below or above
abbrev pub below_of : Range → Range → Bool
below_of a b = lt a.high b.low

abbrev pub middle_of : Range → Float
middle_of r = (r.low ⊕ r.high) ⊗ half

abbrev pub length_of : Range → Float
length_of r = r.high ⊖ r.low
