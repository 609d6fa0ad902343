-- How far a box of space is from a point, and whether it may be near another box, each operation rounded. Definitions only.
use Rattle.std.specs.Prelude.{Bool, true, false, not, Float, Option, None, Some, Result, Ok, Err}
use Rattle.std.specs.Float.Ieee.{lt}
use Rattle.types.specs.declared.shape.Vec3.{Vec3}
use Rattle.types.specs.declared.shape.Range.{Range}
use Rattle.types.specs.declared.shape.Aabb3.{Aabb3}
use Rattle.types.specs.declared.refusal.Refusal.{Refusal}
use Rattle.types.specs.Aabb3.{x_range_of, y_range_of, z_range_of}
use Rattle.float.specs.Rounded.{◌⊕◌, ◌⊖◌, ◌⊗◌, +0}
use Rattle.float.specs.Values.{min_of, max_of}
use Rattle.range.specs.Values.{distance_to_range_of}

-- the coordinate raised to the low end and then lowered to the high one, by the minimum and the maximum that drop a NaN; the square of what it
-- moved
abbrev pub square_of : Range → Float → Float
square_of r at = let d = at ⊖ min_of (max_of at r.low) r.high in d ⊗ d

-- summed from 0, in x, y and z
abbrev pub min_sq_dist_to_point3_of : Aabb3 → Vec3 → Float
min_sq_dist_to_point3_of b p =
    +0
    ⊕ square_of (x_range_of b) p.x
    ⊕ square_of (y_range_of b) p.y
    ⊕ square_of (z_range_of b) p.z

-- ranges that touch or overlap are near, and so are those whose gap is not above the threshold, as none is above a NaN
unfoldable pub gap_answer : Float → Result (Option Float) Refusal → Result Bool Refusal
gap_answer threshold (Ok None) = Ok true
gap_answer threshold (Ok (Some gap)) = Ok (not (lt threshold gap))
gap_answer threshold (Err refusal) = Err refusal

abbrev pub near_of : Range → Range → Float → Result Bool Refusal
near_of a b threshold = gap_answer threshold (distance_to_range_of a b)

-- the first answer where it is a no or a refusal, and else the second
unfoldable pub unless_yes_of : Result Bool Refusal → Result Bool Refusal → Result Bool Refusal
unless_yes_of (Ok true) second = second
unless_yes_of (Ok false) second = Ok false
unless_yes_of (Err refusal) second = Err refusal

-- in x, y and z: Order at the first dimension reached with a range not ordered
abbrev pub is_possible_distance_of : Aabb3 → Aabb3 → Float → Result Bool Refusal
is_possible_distance_of a b t =
    unless_yes_of (near_of (x_range_of a) (x_range_of b) t) (unless_yes_of (near_of (y_range_of a) (y_range_of b) t) (near_of (z_range_of a) (z_range_of b) t))
