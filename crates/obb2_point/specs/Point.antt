-- A turned box and a point, each operation rounded. Definitions only.
use Rattle.std.specs.Prelude.{Bool, not, cond, ◌||◌, Float, Result, Ok, Err}
use Rattle.std.specs.Float.Ieee.{lt, neg, is_nan}
use Rattle.types.specs.declared.shape.Obb2.{Obb2}
use Rattle.types.specs.declared.shape.Vec2.{Vec2}
use Rattle.types.specs.declared.refusal.Refusal.{Refusal}
use Rattle.types.specs.declared.refusal.Refusal.TheVariants.{NanLength}
use Rattle.obb2_point.specs.declared.Candidate.{Candidate}
use Rattle.root.specs.Root.{sqrt_of}
use Rattle.vec2.specs.Values as vec2
use Rattle.edge2_measure.specs.Measure as edge2
use Rattle.edge2_nearest.specs.Nearest.{nearest_to_point_of}
use Rattle.obb2_corners.specs.Corners.{frame_of, first_corner_of, second_corner_of, third_corner_of, fourth_corner_of}

-- d, seen along the half edge v, lies past either end of the whole edge. A NaN lies past neither
unfoldable pub beyond_of : Vec2 → Vec2 → Bool
beyond_of d v = let vd = vec2.dot_of d v in let vv = vec2.dot_of v v in lt vd (neg vv) || lt vv vd

-- so a NaN is inside
unfoldable pub is_include_point2_of : Obb2 → Vec2 → Bool
is_include_point2_of o p =
    let q = frame_of o in
    let d = vec2.sub_of p q.c in
    not (beyond_of d q.u || beyond_of d q.v)

-- ---- the nearest point

-- the point of the edge from s to e that is nearest to p, with the square of its distance
abbrev pub on_edge_of : Vec2 → Vec2 → Vec2 → Candidate
on_edge_of p s e = let q = (nearest_to_point_of s e p).point in record { point = q; square = edge2.squared_length_of q p }

-- that of edge2's `length_of`
abbrev pub distance_of : Candidate → Float
distance_of c = sqrt_of c.square

-- the first where they are equally near
unfoldable pub nearer_of : Candidate → Candidate → Candidate
nearer_of a b = cond (lt (distance_of b) (distance_of a)) b a

-- NanLength where a distance is NaN
unfoldable pub chosen_of : Candidate → Candidate → Candidate → Candidate → Result Vec2 Refusal
chosen_of a b c d =
    cond (is_nan (distance_of a) || is_nan (distance_of b) || is_nan (distance_of c) || is_nan (distance_of d))
    (Err NanLength)
    (Ok (nearer_of (nearer_of (nearer_of a b) c) d).point)

-- the point itself where it is included, NaN distances or not
unfoldable pub nearest_point2_of : Obb2 → Vec2 → Result Vec2 Refusal
nearest_point2_of o p =
    let a = first_corner_of o in
    let b = second_corner_of o in
    let c = third_corner_of o in
    let d = fourth_corner_of o in
    cond (is_include_point2_of o p)
    (Ok p)
    (chosen_of (on_edge_of p a b) (on_edge_of p b c) (on_edge_of p c d) (on_edge_of p d a))
