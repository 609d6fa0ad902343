-- Sums, differences, multiples and dot products of vectors of space, each operation rounded. Definitions only.
use Rattle.std.specs.Prelude.{Float}
use Rattle.types.specs.declared.shape.Vec3.{Vec3}
use Rattle.float.specs.Rounded.{◌⊕◌, ◌⊖◌, ◌⊗◌}

abbrev pub vec3 : Float → Float → Float → Vec3
vec3 x y z = record { x = x; y = y; z = z }

abbrev pub add_of : Vec3 → Vec3 → Vec3
add_of a b = vec3 (a.x ⊕ b.x) (a.y ⊕ b.y) (a.z ⊕ b.z)

abbrev pub sub_of : Vec3 → Vec3 → Vec3
sub_of a b = vec3 (a.x ⊖ b.x) (a.y ⊖ b.y) (a.z ⊖ b.z)

abbrev pub scale_of : Vec3 → Float → Vec3
scale_of v s = vec3 (v.x ⊗ s) (v.y ⊗ s) (v.z ⊗ s)

abbrev pub dot_of : Vec3 → Vec3 → Float
dot_of a b = a.x ⊗ b.x ⊕ a.y ⊗ b.y ⊕ a.z ⊗ b.z
