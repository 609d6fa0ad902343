-- Points in an upright box of space, and the box's centre. Definitions only.
use Rattle.std.specs.Prelude.{Bool, ◌&&◌}
use Rattle.types.specs.declared.shape.Vec3.{Vec3}
use Rattle.types.specs.declared.shape.Aabb3.{Aabb3}
use Rattle.types.specs.Range.{middle_of}
use Rattle.types.specs.Aabb3.{x_range_of, y_range_of, z_range_of}
use Rattle.slabs.specs.Inside.{within_of}

-- in each of the three dimensions
unfoldable pub is_include_point_of : Aabb3 → Vec3 → Bool
is_include_point_of b p =
    within_of (x_range_of b) p.x
    && within_of (y_range_of b) p.y
    && within_of (z_range_of b) p.z

abbrev pub center_of : Aabb3 → Vec3
center_of b =
    record {
      x = middle_of (x_range_of b);
      y = middle_of (y_range_of b);
      z = middle_of (z_range_of b);
    }
