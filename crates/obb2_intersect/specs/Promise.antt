-- The contracts of the tests for intersection: the answer, and what it means by the axes of Gottschalk, Lin and Manocha in the plane.
-- Definitions only.
use Rattle.std.specs.Prelude.{◌≡◌, ◌↔◌, Bool, false, ◌++◌}
use Rattle.types.specs.declared.shape.Aabb2.{Aabb2}
use Rattle.types.specs.declared.shape.Obb2.{Obb2}
use Rattle.vec2.specs.Values.{dot_of}
use Rattle.axes.specs.Disjoint.{SeparatingAxis, FoldedRanges}
use Rattle.obb2_corners.specs.Corners.{corners_of, upright_corners_of}
use Rattle.obb2_intersect.specs.Intersect.{axes_of, upright_axes, is_intersect_aabb2_of, is_intersect_obb2_of}

-- r is the answer for a turned and an upright box
pub record IsIntersectAabb2Promise (o : Obb2) (b : Aabb2) (r : Bool) : Type 0 where
  pub answers : r ≡ is_intersect_aabb2_of o b
  -- no exactly if on some axis the boxes' projections are disjoint
  pub no : (r ≡ false) ↔ SeparatingAxis dot_of (corners_of o) (upright_corners_of b) (upright_axes ++ axes_of o)
  -- a range's ends are the least and the greatest projection that is a number
  pub ranges : FoldedRanges dot_of

-- r is the answer for two turned boxes
pub record IsIntersectObb2Promise (a b : Obb2) (r : Bool) : Type 0 where
  pub answers : r ≡ is_intersect_obb2_of a b
  -- no exactly if on some axis the boxes' projections are disjoint
  pub no : (r ≡ false) ↔ SeparatingAxis dot_of (corners_of a) (corners_of b) (axes_of a ++ axes_of b)
  -- the same with the boxes exchanged
  pub exchanged : r ≡ is_intersect_obb2_of b a
  -- a range's ends are the least and the greatest projection that is a number
  pub ranges : FoldedRanges dot_of
