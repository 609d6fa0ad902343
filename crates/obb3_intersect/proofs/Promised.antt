-- An answer that is the definition's means what specs/Promise.antt says: the law of crates/axes for any search in which a NaN is refused.
use mathlib.Core.Path.{◌≡◌}
use Rattle.std.specs.Prelude.{Bool, Result}
use Rattle.types.specs.declared.refusal.Refusal.{Refusal}
use Rattle.types.specs.declared.shape.Obb3.{Obb3}
use Rattle.vec3.specs.Values.{dot_of}
use Rattle.axes.proofs.Disjoint.{folded_ranges}
use Rattle.axes.proofs.Reached.{verdict_means}
use Rattle.obb3_corners.specs.Corners.{corners_of}
use Rattle.obb3_intersect.specs.Intersect.{units_of, axes_of, is_intersect_to_obb3_of}
use Rattle.obb3_intersect.specs.Promise.{IsIntersectToObb3Promise}

pub promised : (a b : Obb3) (r : Result Bool Refusal) → r ≡ is_intersect_to_obb3_of a b → IsIntersectToObb3Promise a b r
unfolding is_intersect_to_obb3_of
promised a b r e =
    record {
      answers = e;
      means = verdict_means dot_of (corners_of a) (corners_of b) (axes_of (units_of a) (units_of b)) r e;
      ranges = folded_ranges dot_of;
    }
