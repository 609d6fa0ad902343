-- there is no place exactly if no axis separates
use Rattle.std.proofs.Common.{◌++◌, arith}
use Rattle.axes.specs.Axes.{separates, meets}
use Rattle.vec2.specs.Values.{dot_of}
use Rattle.axes.proofs.First.{first_none}
use Rattle.obb2_corners.specs.Corners.{corners_of}
use Rattle.obb2_intersect.specs.Intersect.{axes_of, is_intersect_obb2_of}
use Rattle.obb2_intersect.proofs.Promised.{obb2_promised}
use Rattle.obb2_intersect.proofs.is_intersect_obb2.Goals as goal

pub returns : goal.returns
unfolding is_intersect_obb2_of meets
returns c =
    obb2_promised _ _ _
    (first_none (separates dot_of (corners_of c.args.a) (corners_of c.args.b)) (axes_of c.args.a ++ axes_of c.args.b)
    (rw (
      c.first_separating.ensures.found (omega arith),
      c.corner_points-2.ensures,
      c.corner_points.ensures,
      c.across-4.ensures,
      c.across-3.ensures,
      c.across-2.ensures,
      c.across.ensures,
      c.from-q.ensures,
      c.from-p.ensures,
    )
    at c.is_none.ensures))
