use Rattle.std.proofs.Common.{◌≡◌, drop}
use Rattle.aabb2_change.specs.Change.{with_images, transform_homogeneous_of}
use Rattle.aabb2_change.proofs.transform_homogeneous.Given as goal

-- the images of the corners that are left widen the box to what those of all do
abbrev pub invariant-loop-p : goal.invariant-loop-p
invariant-loop-p l = with_images l.m l.wider (drop l.p-index l.p-items) ≡ transform_homogeneous_of l.fn.b l.fn.m
