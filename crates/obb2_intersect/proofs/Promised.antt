-- An answer that is the definition's has what specs/Promise.antt says: it is no exactly if an axis separates the boxes, and which of two
-- turned boxes comes first does not change it.
use mathlib.Core.Path.{◌≡◌, ◌∙◌}
use mathlib.Core.Bool.{Bool}
use mathlib.Core.List.{◌++◌}
use Rattle.types.specs.declared.shape.Aabb2.{Aabb2}
use Rattle.types.specs.declared.shape.Obb2.{Obb2}
use Rattle.vec2.specs.Values.{dot_of}
use Rattle.axes.proofs.Disjoint.{meets_no, folded_ranges}
use Rattle.axes.proofs.Exchanged.{meets_exchanged}
use Rattle.obb2_corners.specs.Corners.{corners_of, upright_corners_of}
use Rattle.obb2_intersect.specs.Intersect.{axes_of, upright_axes, is_intersect_aabb2_of, is_intersect_obb2_of}
use Rattle.obb2_intersect.specs.Promise.{IsIntersectAabb2Promise, IsIntersectObb2Promise}

pub is_intersect_obb2_exchanged : (a b : Obb2) → is_intersect_obb2_of a b ≡ is_intersect_obb2_of b a
unfolding is_intersect_obb2_of
is_intersect_obb2_exchanged a b = meets_exchanged dot_of (corners_of a) (corners_of b) (axes_of a) (axes_of b)

pub aabb2_promised : (o : Obb2) (b : Aabb2) (r : Bool) → r ≡ is_intersect_aabb2_of o b → IsIntersectAabb2Promise o b r
unfolding is_intersect_aabb2_of
aabb2_promised o b r e =
    record {
      answers = e;
      no = rw e (meets_no dot_of (corners_of o) (upright_corners_of b) (upright_axes ++ axes_of o));
      ranges = folded_ranges dot_of;
    }

pub obb2_promised : (a b : Obb2) (r : Bool) → r ≡ is_intersect_obb2_of a b → IsIntersectObb2Promise a b r
unfolding is_intersect_obb2_of
obb2_promised a b r e =
    record {
      answers = e;
      no = rw e (meets_no dot_of (corners_of a) (corners_of b) (axes_of a ++ axes_of b));
      exchanged = e ∙ is_intersect_obb2_exchanged a b;
      ranges = folded_ranges dot_of;
    }
