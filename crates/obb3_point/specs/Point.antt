-- A turned box of space and a point, each operation rounded. Definitions only.
use Rattle.std.specs.Prelude.{Bool, not, ◌||◌, Float}
use Rattle.std.specs.Float.Ieee.{lt}
use Rattle.types.specs.declared.shape.Obb3.{Obb3}
use Rattle.types.specs.declared.shape.Vec3.{Vec3}
use Rattle.float.specs.Rounded.{one, ◌⊕◌, ◌⊗◌}
use Rattle.float.specs.Values.{abs_of}
use Rattle.vec3.specs.Values.{sub_of, dot_of}
use Rattle.obb3_corners.specs.Corners.{frame_of}

-- d, seen along the half edge e, lies past either end of the whole edge, stretched by s. A NaN lies past neither
unfoldable pub beyond_of : Vec3 → Vec3 → Float → Bool
beyond_of d e s = lt (dot_of e e ⊗ s) (abs_of (dot_of e d))

-- past no end of an edge stretched by 1 + eps: so a NaN is inside
unfoldable pub is_include_point_of : Obb3 → Vec3 → Float → Bool
is_include_point_of o p eps =
    let q = frame_of o in
    let d = sub_of p q.c in
    let s = one ⊕ eps in
    not (beyond_of d q.u s || beyond_of d q.v s || beyond_of d q.w s)
