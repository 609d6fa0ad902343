-- Whether a turned box meets another box, by separating axes in the plane. Definitions only.
use Rattle.std.specs.Prelude.{Bool, List, [], ◌∷◌, ◌++◌, Float}
use Rattle.std.specs.Float.Ieee.{neg}
use Rattle.types.specs.declared.shape.Aabb2.{Aabb2}
use Rattle.types.specs.declared.shape.Obb2.{Obb2}
use Rattle.types.specs.declared.shape.Vec2.{Vec2}
use Rattle.float.specs.Rounded.{+0, one}
use Rattle.vec2.specs.Values.{dot_of}
use Rattle.obb2_corners.specs.Corners.{corners_of, upright_corners_of}
use Rattle.axes.specs.Axes.{meets}

-- at a right angle to the edge (x, y)
abbrev pub across_of : Float → Float → Vec2
across_of x y = record { x = neg y; y = x }

abbrev pub axes_of : Obb2 → List Vec2
axes_of o = across_of o.ux o.uy ∷ across_of o.vx o.vy ∷ []

abbrev pub upright_axes : List Vec2
upright_axes = record { x = one; y = +0 } ∷ record { x = +0; y = one } ∷ []

unfoldable pub is_intersect_aabb2_of : Obb2 → Aabb2 → Bool
is_intersect_aabb2_of o b = meets dot_of (corners_of o) (upright_corners_of b) (upright_axes ++ axes_of o)

unfoldable pub is_intersect_obb2_of : Obb2 → Obb2 → Bool
is_intersect_obb2_of a b = meets dot_of (corners_of a) (corners_of b) (axes_of a ++ axes_of b)
