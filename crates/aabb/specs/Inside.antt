-- Points in an upright box of the plane, and the box's centre. Definitions only.
use Rattle.std.specs.Prelude.{Bool, ◌&&◌}
use Rattle.types.specs.declared.shape.Vec2.{Vec2}
use Rattle.types.specs.declared.shape.Aabb2.{Aabb2}
use Rattle.types.specs.Range.{middle_of}
use Rattle.types.specs.Aabb2.{x_range_of, y_range_of}
use Rattle.slabs.specs.Inside.{within_of}

-- in both dimensions
unfoldable pub is_include_point_of : Aabb2 → Vec2 → Bool
is_include_point_of b p = within_of (x_range_of b) p.x && within_of (y_range_of b) p.y

abbrev pub center_of : Aabb2 → Vec2
center_of b = record { x = middle_of (x_range_of b); y = middle_of (y_range_of b) }
