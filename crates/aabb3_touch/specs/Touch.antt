-- Whether a box of space has a point, and whether two boxes touch. Definitions only.
use Rattle.std.specs.Prelude.{Bool, Float, not, ◌&&◌, ◌||◌}
use Rattle.std.specs.Float.Ieee.{lt}
use Rattle.types.specs.declared.shape.Range.{Range}
use Rattle.types.specs.declared.shape.Vec3.{Vec3}
use Rattle.types.specs.declared.shape.Aabb3.{Aabb3}
use Rattle.types.specs.Range.{ordered_of}
use Rattle.types.specs.Aabb3.{x_range_of, y_range_of, z_range_of}
use Rattle.axes.specs.Axes.{apart_of}

-- by x alone: low ≤ high, which no NaN meets
abbrev pub is_active_of : Aabb3 → Bool
is_active_of b = ordered_of (x_range_of b)

-- below the low end or above the high one; a NaN is neither
abbrev pub outside_of : Range → Float → Bool
outside_of r at = lt at r.low || lt r.high at

-- outside in no dimension
abbrev pub is_contain_of : Aabb3 → Vec3 → Bool
is_contain_of b p = not (outside_of (x_range_of b) p.x || outside_of (y_range_of b) p.y || outside_of (z_range_of b) p.z)

-- in some dimension one box lies wholly below the other: a comparison with a NaN says nothing
abbrev pub are_apart_of : Aabb3 → Aabb3 → Bool
are_apart_of a b =
    apart_of (x_range_of a) (x_range_of b)
    || apart_of (y_range_of a) (y_range_of b)
    || apart_of (z_range_of a) (z_range_of b)

abbrev pub is_intersect_of : Aabb3 → Aabb3 → Bool
is_intersect_of a b = is_active_of a && is_active_of b && not (are_apart_of a b)
