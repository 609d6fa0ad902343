-- The contract of the test for intersection: the answer, and what it means by the fifteen axes of Gottschalk, Lin and Manocha. Definitions only.
use Rattle.std.specs.Prelude.{◌≡◌}
use Rattle.std.specs.Prelude.{Bool, Result}
use Rattle.types.specs.declared.refusal.Refusal.{Refusal}
use Rattle.types.specs.declared.shape.Obb3.{Obb3}
use Rattle.vec3.specs.Values.{dot_of}
use Rattle.axes.specs.Disjoint.{FoldedRanges}
use Rattle.axes.specs.Reached.{VerdictPromise}
use Rattle.obb3_corners.specs.Corners.{corners_of}
use Rattle.obb3_intersect.specs.Intersect.{units_of, axes_of, is_intersect_to_obb3_of}

-- r is the answer for two turned boxes
pub record IsIntersectToObb3Promise (a b : Obb3) (r : Result Bool Refusal) : Type 0 where
  pub answers : r ≡ is_intersect_to_obb3_of a b
  pub means : VerdictPromise dot_of (corners_of a) (corners_of b) (axes_of (units_of a) (units_of b)) r
  -- a range's ends are the least and the greatest projection that is a number
  pub ranges : FoldedRanges dot_of
