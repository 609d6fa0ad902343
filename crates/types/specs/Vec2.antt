-- Sums, differences, multiples and dot products of vectors of the plane, each operation rounded. Definitions only.
use Rattle.std.specs.Prelude.{Float}
use Rattle.types.specs.declared.shape.Vec2.{Vec2}
use Rattle.float.specs.Rounded.{◌⊕◌, ◌⊖◌, ◌⊗◌}

abbrev pub add_of : Vec2 → Vec2 → Vec2
add_of a b = record { x = a.x ⊕ b.x; y = a.y ⊕ b.y }

abbrev pub sub_of : Vec2 → Vec2 → Vec2
sub_of a b = record { x = a.x ⊖ b.x; y = a.y ⊖ b.y }

abbrev pub scale_of : Vec2 → Float → Vec2
scale_of v s = record { x = v.x ⊗ s; y = v.y ⊗ s }

abbrev pub dot_of : Vec2 → Vec2 → Float
dot_of a b = a.x ⊗ b.x ⊕ a.y ⊗ b.y
