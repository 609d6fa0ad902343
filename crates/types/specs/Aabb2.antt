-- What an upright box spans in each dimension, from its low to its high end. Definitions only.
use Rattle.std.specs.Prelude.{Bool, ◌&&◌}
use Rattle.types.specs.declared.shape.Range.{Range}
use Rattle.types.specs.declared.shape.Aabb2.{Aabb2}
use Rattle.types.specs.Range.{ordered_of}

abbrev pub x_range_of : Aabb2 → Range
x_range_of b = record { low = b.min_x; high = b.max_x }

abbrev pub y_range_of : Aabb2 → Range
y_range_of b = record { low = b.min_y; high = b.max_y }

-- in both dimensions
abbrev pub is_ordered_of : Aabb2 → Bool
is_ordered_of b = ordered_of (x_range_of b) && ordered_of (y_range_of b)
