-- Points against a box: the nearest point of it, and how far, each operation rounded. Definitions only.
use Rattle.std.specs.Prelude.{Bool, cond, Float, Result, Ok, Err}
use Rattle.std.specs.Float.Ieee.{lt}
use Rattle.types.specs.declared.shape.Vec2.{Vec2}
use Rattle.types.specs.declared.shape.Range.{Range}
use Rattle.types.specs.declared.shape.Aabb2.{Aabb2}
use Rattle.types.specs.Range.{middle_of, length_of}
use Rattle.types.specs.Aabb2.{x_range_of, y_range_of, is_ordered_of}
use Rattle.types.specs.declared.refusal.Refusal.{Refusal}
use Rattle.types.specs.declared.refusal.Refusal.TheVariants.{Order}
use Rattle.float.specs.Rounded.{◌⊕◌, ◌⊖◌, ◌⊗◌, +0, half}
use Rattle.float.specs.Values.{abs_of, min_of, max_of, clamp_of}
use Rattle.vec2.specs.Values as vec2

-- how far a coordinate lies past the nearer end of an ordered range; negative inside
abbrev pub past_of : Range → Float → Float
past_of r at = abs_of (at ⊖ middle_of r) ⊖ length_of r ⊗ half

abbrev pub past_x : Aabb2 → Vec2 → Float
past_x b p = past_of (x_range_of b) p.x

abbrev pub past_y : Aabb2 → Vec2 → Float
past_y b p = past_of (y_range_of b) p.y

-- strictly more than either: a square that only touches does not overlap
abbrev pub is_intersect_square_of : Aabb2 → Vec2 → Float → Bool
is_intersect_square_of b p r = lt (max_of (past_x b p) (past_y b p)) r

-- Order where the box is not ordered, in x and then in y
unfoldable pub nearest_point2_of : Aabb2 → Vec2 → Result Vec2 Refusal
nearest_point2_of b p =
    cond (is_ordered_of b)
    (Ok (record { x = clamp_of p.x b.min_x b.max_x; y = clamp_of p.y b.min_y b.max_y }))
    (Err Order)

-- outside, the length of what lies past in each dimension; inside, the larger of the two, which is negative
abbrev pub sdf_of : Aabb2 → Vec2 → Float
sdf_of b p = vec2.length_of (record { x = max_of (past_x b p) +0; y = max_of (past_y b p) +0 }) ⊕ min_of (max_of (past_x b p) (past_y b p)) +0
