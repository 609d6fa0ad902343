-- The corners of a turned box of space in the Rust's order, each operation rounded. Definitions only.
use Rattle.std.specs.Prelude.{List, [], ◌∷◌}
use Rattle.types.specs.declared.shape.Obb3.{Obb3}
use Rattle.types.specs.declared.shape.Vec3.{Vec3}
use Rattle.types.specs.Vec3.{vec3, add_of, sub_of}
use Rattle.obb3_corners.specs.declared.frame.Frame.{Frame}

-- the centre and the half edges
abbrev pub frame_of : Obb3 → Frame
frame_of o =
    record {
      c = vec3 o.cx o.cy o.cz;
      u = vec3 o.ux o.uy o.uz;
      v = vec3 o.vx o.vy o.vz;
      w = vec3 o.wx o.wy o.wz;
    }

-- centre - u - v, + u - v, + u + v, - u + v: each - w, and then each + w
abbrev pub corners_of : Obb3 → List Vec3
corners_of o =
    let q = frame_of o in
    let m0 = sub_of (sub_of q.c q.u) q.v in
    let m1 = sub_of (add_of q.c q.u) q.v in
    let m2 = add_of (add_of q.c q.u) q.v in
    let m3 = add_of (sub_of q.c q.u) q.v in
    sub_of m0 q.w
    ∷ sub_of m1 q.w
    ∷ sub_of m2 q.w
    ∷ sub_of m3 q.w
    ∷ add_of m0 q.w
    ∷ add_of m1 q.w
    ∷ add_of m2 q.w
    ∷ add_of m3 q.w
    ∷ []
