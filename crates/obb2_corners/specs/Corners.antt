-- The corners of boxes in the Rust's order, each operation rounded. Definitions only.
use Rattle.std.specs.Prelude.{List, [], ◌∷◌}
use Rattle.types.specs.declared.shape.Aabb2.{Aabb2}
use Rattle.types.specs.declared.shape.Obb2.{Obb2}
use Rattle.types.specs.declared.shape.Vec2.{Vec2}
use Rattle.types.specs.Vec2.{add_of, sub_of}
use Rattle.obb2_corners.specs.declared.frame.Frame.{Frame}

-- the centre and the half edges
abbrev pub frame_of : Obb2 → Frame
frame_of o = record { c = record { x = o.cx; y = o.cy }; u = record { x = o.ux; y = o.uy }; v = record { x = o.vx; y = o.vy } }

-- centre + u + v, centre - u + v, centre - u - v, centre + u - v
abbrev pub first_corner_of : Obb2 → Vec2
first_corner_of o = let q = frame_of o in add_of (add_of q.c q.u) q.v

abbrev pub second_corner_of : Obb2 → Vec2
second_corner_of o = let q = frame_of o in add_of (sub_of q.c q.u) q.v

abbrev pub third_corner_of : Obb2 → Vec2
third_corner_of o = let q = frame_of o in sub_of (sub_of q.c q.u) q.v

abbrev pub fourth_corner_of : Obb2 → Vec2
fourth_corner_of o = let q = frame_of o in sub_of (add_of q.c q.u) q.v

abbrev pub corners_of : Obb2 → List Vec2
corners_of o = first_corner_of o ∷ second_corner_of o ∷ third_corner_of o ∷ fourth_corner_of o ∷ []

abbrev pub upright_corners_of : Aabb2 → List Vec2
upright_corners_of b =
    record { x = b.min_x; y = b.min_y }
    ∷ record { x = b.max_x; y = b.min_y }
    ∷ record { x = b.min_x; y = b.max_y }
    ∷ record { x = b.max_x; y = b.max_y }
    ∷ []
