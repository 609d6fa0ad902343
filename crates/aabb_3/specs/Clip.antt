-- The clip of a line and of a ray against an upright box of space, over the clip by any number of slabs. Definitions only.
use Rattle.std.specs.Prelude.{List, [], ◌∷◌}
use Rattle.types.specs.declared.shape.Vec3.{Vec3}
use Rattle.types.specs.declared.shape.Aabb3.{Aabb3}
use Rattle.slabs.specs.declared.Interval.{Interval}
use Rattle.slabs.specs.declared.Slab.{Slab}
use Rattle.slabs.specs.declared.crossing.Crossing.{Crossing}
use Rattle.slabs.specs.Clip.{clip_over, ahead_of}
use Rattle.slabs.specs.Entry.{with_edge}

-- the box and the line, seen in one dimension
abbrev pub slab_x_of : Aabb3 → Vec3 → Vec3 → Slab
slab_x_of b p d = record { low = b.min_x; high = b.max_x; origin = p.x; direction = d.x }

abbrev pub slab_y_of : Aabb3 → Vec3 → Vec3 → Slab
slab_y_of b p d = record { low = b.min_y; high = b.max_y; origin = p.y; direction = d.y }

abbrev pub slab_z_of : Aabb3 → Vec3 → Vec3 → Slab
slab_z_of b p d = record { low = b.min_z; high = b.max_z; origin = p.z; direction = d.z }

-- x first, then y and z, as the Rust has them
abbrev pub slabs : Aabb3 → Vec3 → Vec3 → List Slab
slabs b p d = slab_x_of b p d ∷ slab_y_of b p d ∷ slab_z_of b p d ∷ []

unfoldable pub intersections_against_line_of : Aabb3 → Vec3 → Vec3 → Interval
intersections_against_line_of b p d = clip_over (slabs b p d)

unfoldable pub intersections_against_ray_of : Aabb3 → Vec3 → Vec3 → Interval
intersections_against_ray_of b p d = ahead_of (intersections_against_line_of b p d)

-- the same intervals, told with the edge by which the line comes in
abbrev pub crossing_against_line_of : Aabb3 → Vec3 → Vec3 → Crossing
crossing_against_line_of b p d = with_edge (slabs b p d) (intersections_against_line_of b p d)

abbrev pub crossing_against_ray_of : Aabb3 → Vec3 → Vec3 → Crossing
crossing_against_ray_of b p d = with_edge (slabs b p d) (intersections_against_ray_of b p d)
