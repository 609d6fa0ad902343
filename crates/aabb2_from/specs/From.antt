-- Boxes made from points and from other boxes, each operation rounded. Definitions only.
use Rattle.std.specs.Prelude.{cond, Float, Result, Ok, Err}
use Rattle.std.specs.Float.Ieee.{le}
use Rattle.types.specs.declared.shape.Vec2.{Vec2}
use Rattle.types.specs.declared.shape.Aabb2.{Aabb2}
use Rattle.types.specs.declared.refusal.Refusal.{Refusal}
use Rattle.types.specs.declared.refusal.Refusal.TheVariants.{Radius}
use Rattle.float.specs.Rounded.{◌⊕◌, ◌⊖◌, +0}
use Rattle.float.specs.Values.{min_of, max_of}

-- the square around a point, whatever the radius
abbrev pub around_of : Vec2 → Float → Aabb2
around_of p r = record { min_x = p.x ⊖ r; min_y = p.y ⊖ r; max_x = p.x ⊕ r; max_y = p.y ⊕ r }

-- the box around two boxes
abbrev pub from_two_aabbs_of : Aabb2 → Aabb2 → Aabb2
from_two_aabbs_of a b =
    record {
      min_x = min_of a.min_x b.min_x;
      min_y = min_of a.min_y b.min_y;
      max_x = max_of a.max_x b.max_x;
      max_y = max_of a.max_y b.max_y;
    }

abbrev pub from_two_points_of : Vec2 → Vec2 → Float → Aabb2
from_two_points_of p q r = from_two_aabbs_of (around_of p r) (around_of q r)

-- Radius where the radius is not at least 0, which no NaN is
unfoldable pub from_point_of : Vec2 → Float → Result Aabb2 Refusal
from_point_of p r = cond (le +0 r) (Ok (around_of p r)) (Err Radius)

unfoldable pub add_point_of : Aabb2 → Vec2 → Float → Result Aabb2 Refusal
add_point_of b p r = cond (le +0 r) (Ok (from_two_aabbs_of b (around_of p r))) (Err Radius)
