-- What the routines on points and vectors of space return, each operation rounded. Definitions only.
use Rattle.std.specs.Prelude.{Float}
use Rattle.types.specs.declared.shape.Vec3.{Vec3}
use Rattle.float.specs.Rounded.{◌⊖◌, ◌⊗◌}
use Rattle.root.specs.Root.{sqrt_of}
pub use Rattle.types.specs.Vec3.{vec3, add_of, sub_of, scale_of, dot_of}

-- y·z - z·y first, then it turns through the coordinates
abbrev pub cross_of : Vec3 → Vec3 → Vec3
cross_of a b = vec3 (a.y ⊗ b.z ⊖ a.z ⊗ b.y) (a.z ⊗ b.x ⊖ a.x ⊗ b.z) (a.x ⊗ b.y ⊖ a.y ⊗ b.x)

-- the root of the squared length
abbrev pub norm_of : Vec3 → Float
norm_of v = sqrt_of (dot_of v v)
