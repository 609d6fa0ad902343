-- Whether two turned boxes of space meet, by fifteen axes in the Rust's order: the unit edges of both, then their cross products.
-- Definitions only.
use Rattle.std.specs.Prelude.{List, [], ◌∷◌, ◌++◌, map, Bool, Result}
use Rattle.types.specs.declared.refusal.Refusal.{Refusal}
use Rattle.types.specs.declared.shape.Obb3.{Obb3}
use Rattle.types.specs.declared.shape.Vec3.{Vec3}
use Rattle.float.specs.Rounded.{◌⊘◌, one}
use Rattle.vec3.specs.Values.{scale_of, dot_of, cross_of, norm_of}
use Rattle.axes.specs.Axes.{verdict_of}
use Rattle.obb3_corners.specs.Corners.{frame_of, corners_of}

-- the edge at length one: times the inverse of its norm, so NaN where it has no length
abbrev pub unit_of : Vec3 → Vec3
unit_of e = scale_of e (one ⊘ norm_of e)

unfoldable pub units_of : Obb3 → List Vec3
units_of o = let q = frame_of o in unit_of q.u ∷ unit_of q.v ∷ unit_of q.w ∷ []

-- each of the first with each of the second
unfoldable pub crosses_of : List Vec3 → List Vec3 → List Vec3
crosses_of [] es = []
crosses_of (d ∷ ds) es = map (cross_of d) es ++ crosses_of ds es

-- the edges of one, those of the other, then the cross products
unfoldable pub axes_of : List Vec3 → List Vec3 → List Vec3
axes_of ds es = ds ++ (es ++ crosses_of ds es)

unfoldable pub is_intersect_to_obb3_of : Obb3 → Obb3 → Result Bool Refusal
is_intersect_to_obb3_of a b = verdict_of dot_of (corners_of a) (corners_of b) (axes_of (units_of a) (units_of b))
