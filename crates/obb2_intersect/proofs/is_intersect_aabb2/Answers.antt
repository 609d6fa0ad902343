-- there is no place exactly if no axis separates
use Rattle.std.proofs.Common.{◌++◌, arith}
use Rattle.axes.specs.Axes.{separates, meets}
use Rattle.vec2.specs.Values.{dot_of}
use Rattle.axes.proofs.First.{first_none}
use Rattle.obb2_corners.specs.Corners.{corners_of, upright_corners_of}
use Rattle.obb2_intersect.specs.Intersect.{upright_axes, axes_of, is_intersect_aabb2_of}
use Rattle.obb2_intersect.proofs.Promised.{aabb2_promised}
use Rattle.obb2_intersect.proofs.is_intersect_aabb2.Goals as goal

pub returns : goal.returns
unfolding is_intersect_aabb2_of meets
returns c =
    aabb2_promised _ _ _
    (first_none (separates dot_of (corners_of c.args.o) (upright_corners_of c.args.b)) (upright_axes ++ axes_of c.args.o)
    (rw (
      c.first_separating.ensures.found (omega arith),
      c.upright_corners.ensures,
      c.corner_points.ensures,
      c.across-2.ensures,
      c.across.ensures,
      c.from.ensures,
    )
    at c.is_none.ensures))
