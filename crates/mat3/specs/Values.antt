-- What a homogeneous transform makes of a point, each operation rounded. Definitions only.
use Rattle.std.specs.Prelude.{cond, Float, Option, None, Some}
use Rattle.std.specs.Float.Ieee.{eq}
use Rattle.types.specs.declared.shape.Mat3.{Mat3}
use Rattle.types.specs.declared.shape.Vec2.{Vec2}
use Rattle.float.specs.Rounded.{◌⊕◌, ◌⊗◌, ◌⊘◌, +0}

-- one row of the matrix times (x, y, 1)
abbrev pub row_times : Float → Float → Float → Vec2 → Float
row_times a b c p = a ⊗ p.x ⊕ b ⊗ p.y ⊕ c

abbrev pub denominator_of : Mat3 → Vec2 → Float
denominator_of m p = row_times m.m20 m.m21 m.m22 p

-- none where the denominator is a zero of either sign; a NaN is no zero
unfoldable pub transform_homogeneous_of : Mat3 → Vec2 → Option Vec2
transform_homogeneous_of m p =
    let w = denominator_of m p in
    cond (eq w +0) None (Some (record { x = row_times m.m00 m.m01 m.m02 p ⊘ w; y = row_times m.m10 m.m11 m.m12 p ⊘ w }))
