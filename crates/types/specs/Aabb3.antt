-- What an upright box of space spans in each dimension, from its low to its high end. Definitions only.
use Rattle.types.specs.declared.shape.Range.{Range}
use Rattle.types.specs.declared.shape.Aabb3.{Aabb3}

abbrev pub x_range_of : Aabb3 → Range
x_range_of b = record { low = b.min_x; high = b.max_x }

abbrev pub y_range_of : Aabb3 → Range
y_range_of b = record { low = b.min_y; high = b.max_y }

abbrev pub z_range_of : Aabb3 → Range
z_range_of b = record { low = b.min_z; high = b.max_z }
