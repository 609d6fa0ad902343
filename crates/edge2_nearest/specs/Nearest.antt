-- The nearest point of an edge, each operation rounded. Definitions only.
use Rattle.std.specs.Prelude.{cond, Float}
use Rattle.std.specs.Float.Ieee.{eq, neg}
use Rattle.types.specs.declared.shape.Vec2.{Vec2}
use Rattle.edge2_nearest.specs.declared.OnEdge.{OnEdge}
use Rattle.float.specs.Rounded.{◌⊕◌, ◌⊗◌, ◌⊘◌, +0, half, one}
use Rattle.float.specs.Values.{clamp_of}
use Rattle.vec2.specs.Values as vec2

abbrev pub midpoint_of : Vec2 → Vec2 → Vec2
midpoint_of s e = record { x = (s.x ⊕ e.x) ⊗ half; y = (s.y ⊕ e.y) ⊗ half }

-- the point at ratio t from s to e
abbrev pub between : Vec2 → Vec2 → Float → Vec2
between s e t = record { x = (neg t ⊕ one) ⊗ s.x ⊕ t ⊗ e.x; y = (neg t ⊕ one) ⊗ s.y ⊕ t ⊗ e.y }

-- where the edge's line is nearest to the origin, held to the edge
abbrev pub ratio_of : Vec2 → Vec2 → Float
ratio_of s d = clamp_of (neg (vec2.dot_of d s) ⊘ vec2.squared_length_of d) +0 one

-- an edge whose computed squared length is zero gives ratio one half and the midpoint
unfoldable pub nearest_origin_of : Vec2 → Vec2 → OnEdge
nearest_origin_of s e =
    let d = vec2.sub_of e s in
    cond (eq (vec2.squared_length_of d) +0)
    (record { ratio = half; point = midpoint_of s e })
    (record { ratio = ratio_of s d; point = between s e (ratio_of s d) })

-- moved by p
abbrev pub moved_by : Vec2 → OnEdge → OnEdge
moved_by p o = record { ratio = o.ratio; point = record { x = o.point.x ⊕ p.x; y = o.point.y ⊕ p.y } }

unfoldable pub nearest_to_point_of : Vec2 → Vec2 → Vec2 → OnEdge
nearest_to_point_of s e p = moved_by p (nearest_origin_of (vec2.sub_of s p) (vec2.sub_of e p))
