-- The clip of a line and of a ray against an upright box of the plane, over the clip by any number of slabs. Definitions only.
use Rattle.std.specs.Prelude.{List, [], ◌∷◌}
use Rattle.types.specs.declared.shape.Vec2.{Vec2}
use Rattle.types.specs.declared.shape.Aabb2.{Aabb2}
use Rattle.slabs.specs.declared.Interval.{Interval}
use Rattle.slabs.specs.declared.Slab.{Slab}
use Rattle.slabs.specs.declared.crossing.Crossing.{Crossing}
use Rattle.slabs.specs.Entry.{with_edge}
unfoldable pub use Rattle.slabs.specs.Clip.{narrowed_of, narrow_all, ordered_of, clip_over, ahead_of}

-- the box and the line, seen in one dimension
abbrev pub slab_x_of : Aabb2 → Vec2 → Vec2 → Slab
slab_x_of b p d = record { low = b.min_x; high = b.max_x; origin = p.x; direction = d.x }

abbrev pub slab_y_of : Aabb2 → Vec2 → Vec2 → Slab
slab_y_of b p d = record { low = b.min_y; high = b.max_y; origin = p.y; direction = d.y }

-- x first, as the Rust has them
abbrev pub slabs : Aabb2 → Vec2 → Vec2 → List Slab
slabs b p d = slab_x_of b p d ∷ slab_y_of b p d ∷ []

unfoldable pub intersections_against_line_of : Aabb2 → Vec2 → Vec2 → Interval
intersections_against_line_of b p d = clip_over (slabs b p d)

unfoldable pub intersections_against_ray_of : Aabb2 → Vec2 → Vec2 → Interval
intersections_against_ray_of b p d = ahead_of (intersections_against_line_of b p d)

-- the same intervals, told with the edge by which the line comes in
abbrev pub crossing_against_line_of : Aabb2 → Vec2 → Vec2 → Crossing
crossing_against_line_of b p d = with_edge (slabs b p d) (intersections_against_line_of b p d)

abbrev pub crossing_against_ray_of : Aabb2 → Vec2 → Vec2 → Crossing
crossing_against_ray_of b p d = with_edge (slabs b p d) (intersections_against_ray_of b p d)
